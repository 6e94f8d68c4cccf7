use Prim.Native.Nat.{◌-◌, ◌≤◌}
use mathlib.Core.Path.{◌≡◌}
use mathlib.Core.Bool.{true}
use Rattle.tables.specs.Tables.{units}
use Rattle.pool.specs.View.{pend, sound, SameSettings}
use Rattle.pool.proofs.Expired.{Going}
use Rattle.pool.proofs.link.expire.Given as goal

abbrev pub invariant-loop-j : goal.invariant-loop-j
invariant-loop-j l = (sound l.words l.times l.list l.home l.blocks ≡ true) × SameSettings l.initial.words l.words × (l.u ≡ units l.words l.l) × (l.j ≤ l.u) × Going l.at (pend l.initial.words l.initial.times l.initial.list l.blocks) (pend l.words l.times l.list l.blocks) l.l l.j

abbrev pub decreases-loop-j : goal.decreases-loop-j
decreases-loop-j l = l.u - l.j
