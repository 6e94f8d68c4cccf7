use Prim.Native.Nat.{◌*◌, ◌≤◌}
use mathlib.Core.Path.{◌≡◌}
use Rattle.tables.specs.Tables.{used_of}
use Rattle.tables.proofs.used.Given as goal

abbrev pub invariant-loop-l : goal.invariant-loop-l
invariant-loop-l l = (l.sum ≡ used_of l.words l.l) × (l.sum ≤ 1024 * l.l)
