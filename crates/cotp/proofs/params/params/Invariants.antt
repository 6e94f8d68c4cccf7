use Rattle.std.proofs.Common.{◌≡◌, ◌≤◌, ◌-◌, length}
use Rattle.octets.specs.Emit.{top}
use Rattle.octets.proofs.Emits.{Toward}
use Rattle.cells.specs.Walk.{cells_from}
use Rattle.cotp.specs.Params.{param_step, param_left}
use Rattle.cells.specs.Walk.{left_from}
use Rattle.cotp.proofs.params.params.Given as goal

-- the cells that are still to come, and the octets that the walk will leave
abbrev pub invariant-loop-i : goal.invariant-loop-i
invariant-loop-i l =
    let walk = cells_from l.depth (param_step l.base l.s) (length l.s) in
    (length l.out ≡ length l.initial.out) × (l.next ≤ top) × Toward l.initial.out l.at (walk 0) l.out l.next (walk l.i)
    × (param_left l.s ≡ left_from (param_step 0 l.s) (length l.s) l.i)

abbrev pub decreases-loop-i : goal.decreases-loop-i
decreases-loop-i l = length l.s - l.i
