use mathlib.Core.Bool.{true}
use Rattle.cells.proofs.Rows.{around}
use Rattle.cotp.specs.Tpdu.{members_of}
use Rattle.cotp.proofs.record.put_record.Goals as goal

pub returns : goal.returns
returns c =
    let a = c.args in
    around 0 true 0 (members_of 0 a.b.now a.h) c.open_object-opened.ensures c.put_members-shown.ensures c.close_group.ensures
