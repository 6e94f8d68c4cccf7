use mathlib.Core.Path.{◌≡◌}
use mathlib.Core.Bool.{true, false}
use Prim.Native.Nat.{◌-◌, ◌≤◌}
use lib.ListN.{length}
use Rattle.print.proofs.Turns.{Row}
use Rattle.print.proofs.group.+list_object.Given as goal

abbrev pub invariant-list-loop-i : goal.invariant-list-loop-i
invariant-list-loop-i l = (l.from ≤ l.i) × (length l.out ≡ length l.initial.out) × Row l.cells l.input false l.from l.depth l.initial.out l.at l.out l.i l.next l.first

abbrev pub decreases-list-loop-i : goal.decreases-list-loop-i
decreases-list-loop-i l = length l.cells - l.i

abbrev pub invariant-object-loop-i : goal.invariant-object-loop-i
invariant-object-loop-i l = (l.from ≤ l.i) × (length l.out ≡ length l.initial.out) × Row l.cells l.input true l.from l.depth l.initial.out l.at l.out l.i l.next l.first

abbrev pub decreases-object-loop-i : goal.decreases-object-loop-i
decreases-object-loop-i l = length l.cells - l.i

abbrev pub decreases-list : goal.decreases-list
decreases-list l = length l.cells.now - l.from

abbrev pub decreases-object : goal.decreases-object
decreases-object l = length l.cells.now - l.from
