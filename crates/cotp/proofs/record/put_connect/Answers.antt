use Rattle.names.specs.Numbers.{k_class, k_options}
use Rattle.cells.specs.Items.{Items, none, leaf, number, ◌⊕◌}
use Rattle.cells.proofs.Rows.{then_row}
use Rattle.cotp.specs.Tpdu.{src_ref}
use lib.ListN.{get_or}
use Prim.Native.Nat.{◌/◌, ◌%◌}
use Rattle.cotp.proofs.record.put_connect.Goals as goal

pub returns : goal.returns
returns c =
    let a = c.args in
    let v = get_or a.b.now 6 0 in
    let src : Items = src_ref a.b.now in
    let class : Items = leaf k_class (number (v / 16)) none in
    let options : Items = leaf k_options (number (v % 16)) none in
    then_row a.depth src (class ⊕ options) c.put_src-src.ensures (then_row a.depth class options c.put_number-class.ensures c.put_number.ensures)
