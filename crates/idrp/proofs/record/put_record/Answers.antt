use mathlib.Core.Bool.{true}
use Rattle.cells.proofs.Rows.{around}
use Rattle.idrp.specs.Pdu.{members_of}
use Rattle.idrp.proofs.record.put_record.Goals as goal

pub returns : goal.returns
returns c =
    around 0 true 0 (members_of c.args.b.now) c.open_object-opened.ensures c.put_members-shown.ensures c.close_group.ensures
