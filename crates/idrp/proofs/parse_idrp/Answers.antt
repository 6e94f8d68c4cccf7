use Rattle.std.proofs.Common.{rules, arith, ◌≤◌, ◌+◌, ◌*◌, length}
use Rattle.cells.proofs.Answers.{too_long}
use Rattle.idrp.specs.Pdu.{idrp_cells}
use Rattle.idrp.proofs.Thin.{idrp_thin}
use Rattle.idrp.proofs.parse_idrp.Goals as goal

pub returns-then-b-gt65535 : goal.returns-then-b-gt65535
returns-then-b-gt65535 c = too_long c.if-b-gt65535.true

pub put_record-requires : goal.put_record-requires
unfolding idrp_cells
put_record-requires c = (c.if-b-gt65535.false, idrp_thin c.args.b.now)

pub returns : goal.returns
unfolding idrp_cells
returns c = c.put_record.ensures
