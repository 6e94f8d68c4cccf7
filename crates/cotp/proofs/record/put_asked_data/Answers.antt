use Rattle.names.specs.Numbers.{k_roa}
use Rattle.cells.specs.Items.{Items, none, leaf, flag}
use Rattle.cells.proofs.Rows.{then_row}
use Rattle.cotp.specs.Tpdu.{data_members}
use lib.ListN.{get_or}
use Prim.Native.Nat.{◌%◌}
use Rattle.cotp.proofs.record.put_asked_data.Goals as goal

pub returns : goal.returns
returns c =
    let a = c.args in
    let mark : Items = leaf k_roa (flag (get_or a.b.now 1 0 % 2)) none in
    then_row a.depth mark (data_members a.b.now a.extended) c.put_flag-roa.ensures c.put_data.ensures
