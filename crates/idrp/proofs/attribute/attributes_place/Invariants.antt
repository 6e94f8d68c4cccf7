use Prim.Native.Nat.{◌-◌, ◌≤◌}
use mathlib.Core.Path.{◌≡◌}
use lib.ListN.{length}
use Rattle.cells.specs.Walk.{left_from}
use Rattle.idrp.specs.Update.{attributes_from, attribute_step}
use Rattle.idrp.proofs.attribute.attributes_place.Given as goal

abbrev pub invariant-loop-place : goal.invariant-loop-place
invariant-loop-place l = (l.place ≤ length l.s) × (left_from (attribute_step 0 l.s) (length l.s) (attributes_from l.s) ≡ left_from (attribute_step 0 l.s) (length l.s) l.place)

abbrev pub decreases-loop-place : goal.decreases-loop-place
decreases-loop-place l = length l.s - l.place
