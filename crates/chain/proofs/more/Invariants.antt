use mathlib.Core.Path.{◌≡◌}
use mathlib.Core.Bool.{true}
use lib.ListN.{take}
use Rattle.chain.specs.Chain.{homed}
use Rattle.chain.proofs.more.Given as goal

abbrev pub invariant-loop-i : goal.invariant-loop-i
invariant-loop-i l = (take l.n l.list ≡ take l.n l.initial.list) × (homed l.home l.list l.b l.i ≡ true)
