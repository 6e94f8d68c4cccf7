use mathlib.Core.Bool.{true}
use Rattle.cells.specs.Items.{◌⊕◌}
use Rattle.cells.proofs.Rows.{around, then_row, row_as}
use Rattle.clnp.specs.Segment.{addresses_of}
use Rattle.clnp.specs.Pdu.{address_members, members_of}
use Rattle.clnp.proofs.Records.{head_of, rest_of, members_are}
use Rattle.clnp.proofs.record.put_record.Goals as goal

pub returns : goal.returns
returns c =
    let s = c.args.b.now in
    around 0 true 0 (members_of s) c.open_object-opened.ensures
    (row_as 1 (members_are s) (then_row 1 (head_of s) (address_members (addresses_of s) ⊕ rest_of s) c.put_head-head.ensures (then_row 1 (address_members (addresses_of s)) (rest_of s) c.put_addresses-addressed.ensures c.put_rest-shown.ensures)))
    c.close_group.ensures
