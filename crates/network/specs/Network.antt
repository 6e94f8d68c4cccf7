-- `parse_network`: the record of what an X.25 unit carries, by its first octet.
use Rattle.std.specs.Prelude.{ℕ, List, [], eqb, length, get_or}
use Rattle.octets.specs.Text.{pick}
use Rattle.names.specs.Numbers.{k_protocol, k_first, k_payload_len, t_clnp_compressed}
use Rattle.cells.specs.Items.{Items, none, leaf, number, text, octet, record_of, flat, ◌⊕◌}
use Rattle.clnp.specs.Pdu.{clnp_cells}
use Rattle.clnp.specs.Pdu as clnp
use Rattle.esis.specs.Pdu.{esis_cells}
use Rattle.esis.specs.Pdu as esis
use Rattle.idrp.specs.Pdu.{idrp_cells}
use Rattle.idrp.specs.Pdu as idrp

-- a compressed PDU: a label only
abbrev pub compressed_members : List ℕ → Items
compressed_members s =
    leaf k_protocol (text t_clnp_compressed) none ⊕ (leaf k_first (octet (get_or s 0 0)) none ⊕ leaf k_payload_len (number (length s)) none)

unfoldable pub compressed_cells : List ℕ → List ℕ
compressed_cells s = flat 0 (record_of (compressed_members s))

abbrev pub cells_by : ℕ → List ℕ → List ℕ
cells_by first s =
    pick (eqb first 0x81) (clnp_cells s) (pick (eqb first 0x82) (esis_cells s) (pick (eqb first 0x83) (idrp_cells s) (compressed_cells s)))

abbrev pub members_by : ℕ → List ℕ → Items
members_by first s =
    pick (eqb first 0x81) (clnp.members_of s) (pick (eqb first 0x82) (esis.members_of s) (pick (eqb first 0x83) (idrp.members_of s) (compressed_members s)))

-- none for no octets
unfoldable pub network_cells : List ℕ → List ℕ
network_cells s = pick (eqb (length s) 0) [] (cells_by (get_or s 0 0) s)

-- the members of its record, where there is one
abbrev pub network_members : List ℕ → Items
network_members s = members_by (get_or s 0 0) s
