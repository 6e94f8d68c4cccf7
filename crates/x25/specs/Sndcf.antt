-- The compression negotiation of a call: `parse_sndcf_field`, `decode_x25_compression`.
use Rattle.std.specs.Prelude.{ℕ, ◌+◌, ◌/◌, ◌%◌, true, false, not, Option, Some, None, List, ltb, eqb, length, get_or}
use Rattle.octets.specs.Text.{pick}
use Rattle.names.specs.Numbers.{k_sndcf, k_compression_options, k_compression_algos, k_maintenance, k_version, t_aca, t_deflate, t_lref, t_lref_can}
use Rattle.cells.specs.Items.{Items, none, leaf, group, number, flag, text, ◌⊕◌}
use Rattle.x25.specs.declared.sndcf.Field.{Field}

-- the field at place p of a call request: identifier 0xC1, a length of 4 or more, and a value whose first octet is version 1
-- and whose fourth is the compression octet; with the place behind it
unfoldable pub field_at : List ℕ → ℕ → Option Field
field_at s p =
    pick (ltb (length s) (p + 2)) None
    (pick (not (eqb (get_or s p 0) 0xC1)) None
    (pick (ltb (get_or s (p + 1) 0) 4) None
    (pick (ltb (length s) (p + 2 + get_or s (p + 1) 0)) None
    (pick (not (eqb (get_or s (p + 2) 0) 1)) None (Some (record { octet = get_or s (p + 5) 0; end = p + 2 + get_or s (p + 1) 0 }))))))

-- a text of a list, where the bit is set
abbrev pub algorithm : ℕ → ℕ → Items
algorithm bit t = pick (eqb bit 1) (leaf 0 (text t) none) none

abbrev pub algorithms : ℕ → Items
algorithms o = algorithm (o / 64 % 2) t_aca ⊕ (algorithm (o / 32 % 2) t_deflate ⊕ (algorithm (o / 2 % 2) t_lref ⊕ algorithm (o % 2) t_lref_can))

-- the version member of a call request, which comes last; version 0 is none
abbrev pub version_member : ℕ → Items
version_member v = pick (eqb v 0) none (leaf k_version (number v) none)

-- the compression octet o as a member
abbrev pub sndcf_member : ℕ → ℕ → Items
sndcf_member o v =
    group true k_sndcf (leaf k_compression_options (number o) none ⊕ (group false k_compression_algos (algorithms o) none ⊕ (leaf k_maintenance (flag (o / 16 % 2)) none ⊕ version_member v))) none
