use Rattle.std.proofs.Common.{ℕ, ◌≡◌, ◌≤◌, ◌-◌, ◌+◌, length}
use Rattle.octets.specs.Emit.{top}
use Rattle.octets.proofs.Emits.{Toward}
use Rattle.cells.specs.Items.{Items}
use Rattle.cells.specs.Walk.{Step, step_of, left_from, cells_from}
use Rattle.cells.proofs.walk.put_entries.Given as goal

-- the cells that are still to come, and the octets that the walk will leave
abbrev pub invariant-loop-i : goal.invariant-loop-i
invariant-loop-i g l =
    let e = g.E.Entries in
    let step : ℕ → Step Items = λ i. step_of (e.items l.e i) (e.body l.e i) in
    let walk = cells_from (e.depth l.e + 1) step (e.size l.e) in
    (length l.out ≡ length l.initial.out) × (l.next ≤ top) × Toward l.initial.out l.at (walk l.from) l.out l.next (walk l.i)
    × (left_from step (e.size l.e) l.from ≡ left_from step (e.size l.e) l.i)

abbrev pub decreases-loop-i : goal.decreases-loop-i
decreases-loop-i g l = g.E.Entries.size l.e - l.i
