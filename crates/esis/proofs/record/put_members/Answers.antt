use Prim.Native.Nat.{ℕ}
use mathlib.Core.Path.{ap, ◌∙◌}
use Rattle.names.specs.Numbers.{k_addresses}
use Rattle.cells.specs.Items.{in_list, ◌⊕◌}
use Rattle.cells.proofs.Rows.{then_row, row_as}
use Rattle.esis.specs.Pdu.{address_items, address_end, address_count, option_member}
use Rattle.esis.proofs.Records.{head_of, addresses_of}
use Rattle.esis.proofs.record.put_members.Goals as goal

pub put_behind-requires : goal.put_behind-requires
put_behind-requires c =
    let s = c.args.b.now in
    let e = c.address_end.ensures.0 ∙ ap (λ (k : ℕ). address_end s k c.addresses_at-p.result) c.address_count-n.ensures ∙ ap (address_end s (address_count s)) c.addresses_at-p.ensures.0 in
    (c.requires.0, c.requires.1, e, c.address_end.ensures.1)

pub returns : goal.returns
returns c =
    let s = c.args.b.now in
    let q = ap (λ (k : ℕ). address_items s k c.addresses_at-p.result) c.address_count-n.ensures ∙ ap (address_items s (address_count s)) c.addresses_at-p.ensures.0 in
    then_row 1 (head_of s) (addresses_of s ⊕ option_member s) c.put_head-head.ensures (then_row 1 (addresses_of s) (option_member s) (row_as 1 (ap (in_list k_addresses) q) c.put_addresses-addressed.ensures) c.put_behind.ensures)
