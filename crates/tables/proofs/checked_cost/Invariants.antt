use Prim.Native.Nat.{◌*◌, ◌≤◌}
use mathlib.Core.Path.{◌≡◌}
use mathlib.Core.Bool.{true}
use Rattle.tables.specs.Tables.{places_ok, costs}
use Rattle.tables.proofs.checked_cost.Given as goal

abbrev pub invariant-loop-j : goal.invariant-loop-j
invariant-loop-j l = (places_ok l.words l.p l.j ≡ true) × (l.blocks ≡ costs l.words l.p l.j) × (l.blocks ≤ 576460752303423490 * l.j)
