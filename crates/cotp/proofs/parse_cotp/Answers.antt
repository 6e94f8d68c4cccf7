use mathlib.Core.Path.{sym, ◌∙◌}
use native.Mathlib.Omega.{arith}
use Rattle.cells.proofs.Answers.{too_long, unreadable}
use Rattle.cotp.proofs.Cells.{no_cells, cells_are}
use Rattle.cotp.proofs.Thin.{record_thin}
use Rattle.cotp.proofs.parse_cotp.Goals as goal

pub returns-then-b-gt65535 : goal.returns-then-b-gt65535
returns-then-b-gt65535 c = too_long c.if-b-gt65535.true

pub returns-in_default : goal.returns-in_default
returns-in_default c = unreadable c.if-b-gt65535.false (no_cells c.args.b.now (sym c.read.ensures ∙ c.in_default.is))

pub put_record-requires : goal.put_record-requires
put_record-requires c = (c.if-b-gt65535.false, omega (arith, record_thin c.args.b.now c.in-Some.head))

pub returns : goal.returns
returns c = rw (cells_are c.args.b.now c.in-Some.head (sym c.read.ensures ∙ c.in-Some.is)) c.put_record.ensures
