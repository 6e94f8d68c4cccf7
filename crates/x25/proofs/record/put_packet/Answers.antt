use mathlib.Core.Bool.{true}
use Rattle.cells.specs.Items.{◌⊕◌}
use Rattle.cells.proofs.Rows.{around, then_row}
use Rattle.x25.proofs.Members.{head_of, causes_of, calls_of, members_are}
use Rattle.x25.proofs.record.put_packet.Goals as goal

pub returns : goal.returns
returns c =
    let a = c.args in
    let x = a.x.now in
    let s = a.b.now in
    rw (members_are s x)
    (around 0 true 0 (head_of x ⊕ (causes_of x ⊕ calls_of s x)) c.open_object-opened.ensures
    (then_row 1 (head_of x) (causes_of x ⊕ calls_of s x) c.put_head-head.ensures (then_row 1 (causes_of x) (calls_of s x) c.put_causes-causes.ensures c.put_calls-calls.ensures))
    c.close_group.ensures)
