use Rattle.names.specs.Numbers.{k_eot}
use Rattle.cells.specs.Items.{Items, none, leaf, flag}
use Rattle.cells.proofs.Rows.{then_row}
use Rattle.cotp.specs.Tpdu.{seq_member}
use lib.ListN.{get_or}
use Prim.Native.Nat.{◌/◌}
use Rattle.cotp.proofs.record.put_data.Goals as goal

pub returns : goal.returns
returns c =
    let a = c.args in
    let mark : Items = leaf k_eot (flag (get_or a.b.now 4 0 / 128)) none in
    then_row a.depth mark (seq_member a.b.now a.extended) c.put_flag-eot.ensures c.put_seq.ensures
