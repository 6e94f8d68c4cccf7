use Rattle.std.proofs.Common.{rules, arith, ◌≤◌, ◌+◌, ◌*◌, length}
use Rattle.cells.proofs.Answers.{too_long}
use Rattle.esis.specs.Pdu.{esis_cells}
use Rattle.esis.proofs.Thin.{record_thin}
use Rattle.esis.proofs.parse_esis.Goals as goal

pub returns-then-b-gt65535 : goal.returns-then-b-gt65535
returns-then-b-gt65535 c = too_long c.if-b-gt65535.true

pub put_record-requires : goal.put_record-requires
put_record-requires c = (c.if-b-gt65535.false, record_thin c.args.b.now)

pub returns : goal.returns
unfolding esis_cells
returns c = c.put_record.ensures
