use mathlib.Core.Path.{◌≡◌}
use mathlib.Core.Bool.{true}
use Rattle.chain.specs.Chain.{homed}
use Rattle.chain.proofs.rehome.Given as goal

abbrev pub invariant-loop-i : goal.invariant-loop-i
invariant-loop-i l = homed l.home l.list l.b l.i ≡ true
