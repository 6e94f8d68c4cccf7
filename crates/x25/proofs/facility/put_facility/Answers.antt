use Rattle.names.specs.Numbers.{k_code, k_params}
use mathlib.Core.Bool.{true}
use Rattle.cells.specs.Items.{none, leaf, octet, part}
use Rattle.cells.proofs.Rows.{around, then_row}
use Rattle.x25.proofs.facility.put_facility.Goals as goal

pub returns : goal.returns
returns c =
    let a = c.args in
    around 2 true 0 (leaf k_code (octet a.code) (leaf k_params (part a.from a.len) none)) c.open_object-opened.ensures
    (then_row 3 (leaf k_code (octet a.code) none) (leaf k_params (part a.from a.len) none) c.put_octet_leaf-coded.ensures c.put_hex_part-shown.ensures) c.close_group.ensures
