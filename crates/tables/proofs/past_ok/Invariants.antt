use Prim.Native.Nat.{◌+◌, ◌-◌, ◌≤◌}
use mathlib.Core.Path.{◌≡◌}
use mathlib.Core.Bool.{true}
use Rattle.octets.specs.Tests.{all}
use Rattle.tables.specs.Tables.{idle}
use Rattle.tables.proofs.past_ok.Given as goal

abbrev pub invariant-loop-l : goal.invariant-loop-l
invariant-loop-l l = (l.n ≤ l.l) × (l.l ≤ 16) × (all (λ i. idle l.words (l.n + i)) (l.l - l.n) ≡ true)

abbrev pub decreases-loop-l : goal.decreases-loop-l
decreases-loop-l l = 16 - l.l

abbrev pub invariant-loop-i : goal.invariant-loop-i
invariant-loop-i l = all (λ i. idle l.words (l.n + i)) (l.i - l.n) ≡ true
