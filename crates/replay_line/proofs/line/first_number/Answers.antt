use Rattle.replay_line.proofs.Lines.{word-is}
use Rattle.replay_line.specs.Word.{number_in}
use mathlib.Core.Path.{ap, ◌∙◌}
use Rattle.replay_line.proofs.line.first_number.Goals as goal

pub returns : goal.returns
returns c = c.number_in.ensures ∙ ap number_in (word-is c.args.l.now c.find-end.result c.find-end.ensures.value)
