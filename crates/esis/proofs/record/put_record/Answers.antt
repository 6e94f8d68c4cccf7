use mathlib.Core.Bool.{true}
use lib.ListN.{length}
use Rattle.names.specs.Numbers.{k_protocol, k_payload_len, t_es_is}
use Rattle.cells.specs.Items.{Items, none, leaf, number, text, ◌⊕◌}
use Rattle.cells.proofs.Rows.{around, then_row, row_as}
use Rattle.esis.specs.Pdu.{head_members, members_of}
use Rattle.esis.proofs.Records.{short_members, long_members}
use Rattle.esis.proofs.record.put_record.Goals as goal

pub returns-then-b-lt9 : goal.returns-then-b-lt9
returns-then-b-lt9 c =
    let s = c.args.b.now in
    let p : Items = leaf k_protocol (text t_es_is) none in
    let n : Items = leaf k_payload_len (number (length s)) none in
    around 0 true 0 (members_of s) c.open_object-opened.ensures (row_as 1 (short_members s c.if-b-lt9.true) (then_row 1 p n c.put_text_number-protocol.ensures c.put_number-sized.ensures)) c.close_group.ensures

pub returns : goal.returns
returns c =
    let s = c.args.b.now in
    let p : Items = leaf k_protocol (text t_es_is) none in
    let n : Items = leaf k_payload_len (number (length s)) none in
    around 0 true 0 (members_of s) c.open_object-opened.ensures
    (row_as 1 (long_members s c.if-b-lt9.false) (then_row 1 p (n ⊕ head_members s) c.put_text_number-protocol.ensures (then_row 1 n (head_members s) c.put_number-sized.ensures c.put_members-shown.ensures))) c.close_group-2.ensures
