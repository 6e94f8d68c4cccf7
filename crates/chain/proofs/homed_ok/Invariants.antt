use Prim.Native.Nat.{◌*◌}
use mathlib.Core.Path.{◌≡◌}
use mathlib.Core.Bool.{true}
use Rattle.chain.specs.Chain.{homed}
use Rattle.chain.proofs.homed_ok.Given as goal

abbrev pub invariant-loop-k : goal.invariant-loop-k
invariant-loop-k l = homed l.home l.list l.b (64 * l.k) ≡ true
