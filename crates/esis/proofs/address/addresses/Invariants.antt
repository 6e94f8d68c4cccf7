use Rattle.std.proofs.Common.{◌≡◌, ◌≤◌, ◌-◌, length}
use Rattle.octets.specs.Emit.{top}
use Rattle.octets.proofs.Emits.{Toward}
use Rattle.cells.specs.Items.{flat}
use Rattle.esis.specs.Pdu.{address_items}
use Rattle.esis.proofs.address.addresses.Given as goal

abbrev pub invariant-loop : goal.invariant-loop
invariant-loop l =
    (length l.out ≡ length l.initial.out) × (l.next ≤ top)
    × Toward l.initial.out l.at (flat 2 (address_items l.b l.n l.p)) l.out l.next (flat 2 (address_items l.b (l.n - l.counter) l.i))
