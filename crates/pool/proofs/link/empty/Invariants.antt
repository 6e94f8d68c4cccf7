use mathlib.Core.Path.{◌≡◌}
use mathlib.Core.Bool.{true}
use Rattle.tables.specs.Tables.{units}
use Rattle.pool.specs.View.{pend, sound, SameSettings}
use Rattle.pool.proofs.Closed.{Only}
use Rattle.pool.proofs.link.empty.Given as goal

abbrev pub invariant-loop-u : goal.invariant-loop-u
invariant-loop-u l = (sound l.words l.times l.list l.home l.blocks ≡ true) × SameSettings l.initial.words l.words × (l.u ≡ units l.words l.l) × Only (pend l.initial.words l.initial.times l.initial.list l.blocks) (pend l.words l.times l.list l.blocks) l.l
