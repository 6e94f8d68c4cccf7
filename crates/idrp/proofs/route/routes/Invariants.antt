use Rattle.std.proofs.Common.{◌≡◌, ◌≤◌, ◌-◌, ◌+◌, ◌*◌, length}
use Rattle.octets.specs.Emit.{top}
use Rattle.octets.proofs.Emits.{Toward}
use Rattle.cells.specs.Items.{flat}
use Rattle.idrp.specs.Update.{route_items}
use Rattle.idrp.proofs.route.routes.Given as goal

abbrev pub invariant-loop-k : goal.invariant-loop-k
invariant-loop-k l =
    (length l.out ≡ length l.initial.out) × (l.next ≤ top)
    × Toward l.initial.out l.at (flat 3 (route_items l.s l.n 2)) l.out l.next (flat 3 (route_items l.s (l.n - l.k) (2 + 4 * l.k)))
