use Rattle.names.specs.Numbers.{k_cause, k_cause_text, k_diagnostic, k_diagnostic_text}
use Rattle.cells.specs.Items.{◌⊕◌}
use Rattle.cells.proofs.Rows.{then_row}
use Rattle.fields.specs.Member.{opt_text}
use Rattle.x25.specs.Packet.{opt_number}
use Rattle.x25.proofs.record.put_causes.Goals as goal

pub returns : goal.returns
returns c =
    let x = c.args.x.now in
    let cause = opt_number k_cause x.cause in
    let named = opt_text k_cause_text x.causetext in
    let told = opt_number k_diagnostic x.diagnostic in
    let last = opt_text k_diagnostic_text x.diagtext in
    then_row 1 cause (named ⊕ (told ⊕ last)) c.put_octet-caused.ensures (then_row 1 named (told ⊕ last) c.put_text_if-named.ensures (then_row 1 told last c.put_octet-told.ensures c.put_text_if.ensures))
