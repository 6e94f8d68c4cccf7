use Rattle.names.specs.Numbers.{k_reason, k_reason_text}
use Rattle.cells.specs.Items.{Items, none, leaf, number, ◌⊕◌}
use Rattle.cells.proofs.Rows.{then_row}
use Rattle.cotp.specs.Tpdu.{src_ref}
use mathlib.Core.List.{[]}
use lib.ListN.{get_or}
use Rattle.codes.specs.Codes.{text_in, disconnect_reasons}
use Rattle.fields.specs.Member.{opt_text}
use Rattle.cotp.proofs.record.put_request.Goals as goal

pub returns : goal.returns
returns c =
    let a = c.args in
    let v = get_or a.b.now 6 0 in
    let src : Items = src_ref a.b.now in
    let reason : Items = leaf k_reason (number v) none in
    let name : Items = opt_text k_reason_text (text_in disconnect_reasons [] v) in
    then_row a.depth src (reason ⊕ name) c.put_src-src.ensures (then_row a.depth reason name c.put_number-reason.ensures (rw c.cotp_dr_reason.ensures at c.put_text_if.ensures))
