use Prim.Native.Nat.{◌+◌}
use mathlib.Core.Path.{◌≡◌}
use mathlib.Core.Bool.{true}
use Rattle.chain.specs.Chain.{home_at}
use Rattle.octets.specs.Tests.{all}
use Rattle.chain.proofs.each_ok.Given as goal

abbrev pub invariant-loop-t : goal.invariant-loop-t
invariant-loop-t l = all (λ k. home_at l.home l.list l.b (l.i + k)) l.t ≡ true
