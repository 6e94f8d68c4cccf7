use Rattle.std.proofs.Common.{sym, ◌∙◌}
use Rattle.cells.proofs.Answers.{too_long, unreadable}
use Rattle.x25.proofs.Cells.{unread}
use Rattle.x25.proofs.answer_on.Goals as goal

pub returns-then-b-gt65535 : goal.returns-then-b-gt65535
returns-then-b-gt65535 c = λ old. too_long c.if-b-gt65535.true

pub returns-in_default : goal.returns-in_default
returns-in_default c = λ old. unreadable c.if-b-gt65535.false (unread c.args.b.now (sym c.read.ensures ∙ c.in_default.is))
