use Prim.Native.Nat.{◌+◌, ◌≤◌}
use mathlib.Core.Path.{◌≡◌}
use Rattle.chain.proofs.Step.{Pairs}
use Rattle.chain.proofs.in_step.Given as goal

abbrev pub invariant-loop-t : goal.invariant-loop-t
invariant-loop-t l = (l.n ≤ l.t + l.t) × (l.n ≡ l.t + l.t → Pairs l.list l.home l.i l.x l.t)
