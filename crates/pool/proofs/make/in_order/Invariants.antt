use mathlib.Core.Path.{◌≡◌}
use Rattle.octets.specs.Emit.{put}
use Rattle.pool.specs.View.{tab}
use Rattle.pool.proofs.make.in_order.Given as goal

abbrev pub invariant-loop-i : goal.invariant-loop-i
invariant-loop-i l = l.list ≡ put l.initial.list 0 (tab (λ j. j) l.i)
