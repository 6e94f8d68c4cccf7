use Prim.Native.Nat.{◌+◌}
use mathlib.Core.Bool.{true, false}
use mathlib.Core.Path.{ap}
use native.Mathlib.Omega.{arith}
use lib.ListN.{get_or, take, drop}
use Rattle.octets.specs.Text.{pick}
use Rattle.names.specs.Numbers.{k_proto_type, k_clnp, k_prefixes}
use Rattle.cells.specs.Items.{Items, none, leaf, group, number, flag, ◌⊕◌}
use Rattle.cells.proofs.Rows.{around, then_row, row_as}
use Rattle.idrp.specs.Update.{is_clnp, prefix_items}
use Rattle.idrp.proofs.Nlris.{addresses}
use Rattle.idrp.proofs.nlri.put_entry.Goals as goal

pub returns : goal.returns
returns c =
    let a = c.args in
    let s = a.body.octets.now in
    let type : Items = leaf k_proto_type (number (get_or s a.i 0)) none in
    let clnp : Items = leaf k_clnp (flag (pick (is_clnp s a.i) 1 0)) none in
    let last : Items = group false k_prefixes (prefix_items (a.body.base + a.b.start) (take a.b.len (drop a.b.start s))) none in
    around 3 true 0 (type ⊕ (clnp ⊕ last)) c.open_object-opened.ensures
    (then_row 4 type (clnp ⊕ last) c.put_number-typed.ensures (then_row 4 clnp last (rw c.is_clnp.ensures at c.put_flag-told.ensures)
    (row_as 4 (ap (λ (x : Items). group false k_prefixes x none) (addresses a.body.base s a.b.start a.b.len)) c.put_prefixes-shown.ensures))) c.close_group.ensures
