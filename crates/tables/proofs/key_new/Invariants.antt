use Prim.Native.Nat.{ℕ, ◌+◌}
use mathlib.Core.Path.{◌≡◌}
use mathlib.Core.Bool.{Bool, true, not}
use mathlib.Core.List.{List}
use Rattle.octets.specs.Tests.{all}
use Rattle.tables.specs.Tables.{key_eq}
use Rattle.tables.proofs.key_new.Given as goal

abbrev pub differs : List ℕ → ℕ → ℕ → ℕ → Bool
differs w p i j = not (key_eq w (p + i) (p + j))

abbrev pub invariant-loop-j : goal.invariant-loop-j
invariant-loop-j l = all (differs l.words l.p l.i) l.j ≡ true
