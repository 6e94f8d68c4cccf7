-- The parameters of a TPDU: `parse_cotp_params`.
use Rattle.std.specs.Prelude.{ℕ, ◌+◌, ◌^◌, Bool, true, ◌&&◌, ◌||◌, List, [], Option, Some, None, leb, eqb, length, get_or}
use Rattle.octets.specs.Text.{pick}
use Rattle.octets.specs.Read.{be16, be32}
use Rattle.names.specs.Numbers.{k_code, k_name, k_tpdu_size, k_value, k_value_hex}
use Rattle.codes.specs.Codes.{text_in, cotp_params}
use Rattle.cells.specs.Items.{Items, none, leaf, group, number, octet, part, ◌⊕◌}
use Rattle.cells.specs.Walk.{Step, step_of, items_from, left_from}
use Rattle.fields.specs.Tlv.{tlv_at}
use Rattle.fields.specs.Member.{opt_text}

-- ack time, priority, subsequence number and reassignment time are numbers of two octets
abbrev pub two_octets : ℕ → Bool
two_octets t = eqb t 0x85 || (eqb t 0x87 || (eqb t 0x8A || eqb t 0x8B))

-- the value of n octets at place i of a part that stands at place base of the input: a size of a TPDU, 2 to the value; a number of
-- two, one or four octets; or the octets
unfoldable pub param_value : ℕ → List ℕ → ℕ → ℕ → ℕ → Items
param_value base s t i n =
    let v = get_or s i 0 in
    pick (eqb t 0xC0 && (eqb n 1 && (leb 7 v && leb v 13))) (leaf k_tpdu_size (number (2 ^ v)) none)
    (pick (two_octets t && eqb n 2) (leaf k_value (number (be16 v (get_or s (i + 1) 0))) none)
    (pick (eqb t 0xC4 && eqb n 1) (leaf k_value (number v) none)
    (pick (eqb t 0xF2 && eqb n 4) (leaf k_value (number (be32 v (get_or s (i + 1) 0) (get_or s (i + 2) 0) (get_or s (i + 3) 0))) none)
    (leaf k_value_hex (part (base + i) n) none))))

-- a value by its key and number, where it is one, and else n octets at a place of the input
abbrev pub value_items : ℕ → ℕ → Option (ℕ × ℕ) → Items
value_items from n None = leaf k_value_hex (part from n) none
value_items from n (Some v) = leaf v.0 (number v.1) none

abbrev pub param : ℕ → List ℕ → ℕ → ℕ → ℕ → Items
param base s t i n = group true 0 (leaf k_code (octet t) none ⊕ (opt_text k_name (text_in cotp_params [] t) ⊕ param_value base s t i n)) none

abbrev pub param_step : ℕ → List ℕ → ℕ → Step Items
param_step base s i = step_of (λ start n. param base s (get_or s i 0) start n) (tlv_at s i)

-- the parameters of a part, and how many of its octets are left unread
abbrev pub param_items : ℕ → List ℕ → Items
param_items base s = items_from (param_step base s) (length s) 0

abbrev pub param_left : List ℕ → ℕ
param_left s = left_from (param_step 0 s) (length s) 0
