use borrow.Author.Rules.{rules}
use mathlib.Core.Path.{sym, ◌∙◌}
use Rattle.octets.proofs.Emits.{nothing}
use Rattle.cells.proofs.Rows.{flat-none}
use Rattle.clnp.proofs.record.put_data.Goals as goal

pub returns-then-segmented : goal.returns-then-segmented
returns-then-segmented c = rw (sym c.segmented.ensures ∙ c.if-segmented.true, flat-none) (nothing _ _ (search rules) (search rules))
