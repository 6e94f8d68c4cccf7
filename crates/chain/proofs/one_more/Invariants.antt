use Prim.Native.Nat.{◌≤◌}
use mathlib.Core.Path.{◌≡◌}
use lib.ListN.{take}
use Rattle.chain.proofs.Home.{under}
use Rattle.chain.proofs.one_more.Given as goal

abbrev pub invariant-loop-x : goal.invariant-loop-x
invariant-loop-x l = (l.list ≡ l.initial.list) × (l.home ≡ l.initial.home) × (l.x ≤ under l.x (take l.n l.list))
