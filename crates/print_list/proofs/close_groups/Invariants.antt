use Prim.Native.Nat.{◌≤◌, ◌-◌}
use mathlib.Core.Path.{◌≡◌}
use lib.ListN.{length}
use Rattle.print_list.proofs.close_groups.Given as goal

abbrev pub invariant-loop-d : goal.invariant-loop-d
invariant-loop-d l = (l.d ≤ 15) × (length l.cells ≡ length l.initial.cells)

abbrev pub decreases-loop-d : goal.decreases-loop-d
decreases-loop-d l = 15 - l.d
