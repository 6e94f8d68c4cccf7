use Prim.Native.Nat.{◌*◌, ◌≤◌}
use mathlib.Core.Path.{◌≡◌}
use Rattle.tables.specs.Tables.{costs}
use Rattle.tables.proofs.cost.Given as goal

abbrev pub invariant-loop-j : goal.invariant-loop-j
invariant-loop-j l = (l.sum ≡ costs l.words l.p l.j) × (l.sum ≤ 576460752303423490 * l.j)
