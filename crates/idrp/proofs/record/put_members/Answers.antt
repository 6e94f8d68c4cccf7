use lib.ListN.{length}
use Rattle.names.specs.Numbers.{k_protocol, k_payload_len, t_idrp}
use Rattle.cells.specs.Items.{Items, none, leaf, number, text, ◌⊕◌}
use Rattle.cells.proofs.Rows.{then_row, row_as}
use Rattle.idrp.specs.Pdu.{head_members}
use Rattle.idrp.proofs.Records.{no_head_lem, with-head}
use Rattle.idrp.proofs.record.put_members.Goals as goal

pub returns-then-b-lt4 : goal.returns-then-b-lt4
returns-then-b-lt4 c =
    let s = c.args.b.now in
    let protocol : Items = leaf k_protocol (text t_idrp) none in
    let size : Items = leaf k_payload_len (number (length s)) none in
    row_as 1 (no_head_lem s c.if-b-lt4.true) (then_row 1 protocol size c.put_text_number-protocol.ensures c.put_number-sized.ensures)

pub returns : goal.returns
returns c =
    let s = c.args.b.now in
    let protocol : Items = leaf k_protocol (text t_idrp) none in
    let size : Items = leaf k_payload_len (number (length s)) none in
    row_as 1 (with-head s c.if-b-lt4.false)
    (then_row 1 protocol (size ⊕ head_members s) c.put_text_number-protocol.ensures (then_row 1 size (head_members s) c.put_number-sized.ensures c.put_head.ensures))
