use Rattle.std.proofs.Common.{rules, false}
use Rattle.names.specs.Numbers.{k_addresses}
use Rattle.octets.proofs.Emits.{nothing}
use Rattle.cells.proofs.Rows.{around, flat-none, row_as}
use Rattle.esis.specs.Pdu.{address_items}
use Rattle.esis.proofs.Addresses.{off, on, none-zero, none-past, none_bad, some-address}
use Rattle.esis.proofs.address.put_addresses.Goals.{then-n-eq0-via-then-n-eq0, then-n-eq0-via-else-n-eq0+then-b-p, then-n-eq0-via-else-n-eq0+else-b-p+then-not-address_ok}
use Rattle.esis.proofs.address.put_addresses.Goals as goal

pub returns-then-n-eq0 : goal.returns-then-n-eq0
returns-then-n-eq0 c =
    let a = c.args in
    let s = a.b.now in
    row_as 1 (elim c.then-n-eq0.branch [
      | then-n-eq0-via-then-n-eq0 w ↦ none-zero s a.n a.p w.if-n-eq0.true
      | then-n-eq0-via-else-n-eq0+then-b-p w ↦ none-past s a.n a.p w.if-b-p.true
      | then-n-eq0-via-else-n-eq0+else-b-p+then-not-address_ok w ↦ none_bad s a.n a.p w.if-b-p.false (off w.address_ok.ensures w.if-not-address_ok.true)
    ]) (rw flat-none (nothing _ _ (search rules) (search rules)))

pub returns : goal.returns
returns c =
    let a = c.args in
    row_as 1 (some-address a.b.now a.n a.p c.if-n-eq0.false c.if-b-p.false (on c.address_ok.ensures c.if-not-address_ok.false))
    (around 1 false k_addresses (address_items a.b.now a.n a.p) c.open_list-opened.ensures c.addresses-shown.ensures c.close_group.ensures)
