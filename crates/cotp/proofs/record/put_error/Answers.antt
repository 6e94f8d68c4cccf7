use Rattle.names.specs.Numbers.{k_reject_cause, k_reject_cause_text}
use Rattle.cells.specs.Items.{Items, none, leaf, number}
use Rattle.cells.proofs.Rows.{then_row}
use mathlib.Core.List.{[]}
use lib.ListN.{get_or}
use Rattle.codes.specs.Codes.{text_in, reject_causes}
use Rattle.fields.specs.Member.{opt_text}
use Rattle.cotp.proofs.record.put_error.Goals as goal

pub returns : goal.returns
returns c =
    let a = c.args in
    let v = get_or a.b.now 4 0 in
    let cause : Items = leaf k_reject_cause (number v) none in
    then_row a.depth cause (opt_text k_reject_cause_text (text_in reject_causes [] v)) c.put_number-cause.ensures (rw c.cotp_er_reject_cause.ensures at c.put_text_if.ensures)
