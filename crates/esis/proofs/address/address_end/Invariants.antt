use Rattle.std.proofs.Common.{◌≡◌, ◌≤◌, ◌-◌, length}
use Rattle.esis.specs.Pdu.{address_end}
use Rattle.esis.proofs.address.address_end.Given as goal

abbrev pub invariant-loop : goal.invariant-loop
invariant-loop l = (l.i ≤ length l.b) × (address_end l.b l.n l.p ≡ address_end l.b (l.n - l.counter) l.i)
