use Rattle.cells.specs.Items.{Items, none, leaf, group, text}
use Rattle.cells.proofs.Rows.{then_row}
use mathlib.Core.Bool.{false}
use Rattle.names.specs.Numbers.{k_kind, k_classes, t_supported_atsc_classes}
use Rattle.codes.specs.Codes.{atsc_classes}
use Rattle.clnp.specs.Label.{bit_names}
use Rattle.clnp.proofs.tag.put_classes.Goals as goal

pub returns : goal.returns
returns c =
    let a = c.args in
    let kind : Items = leaf k_kind (text t_supported_atsc_classes) none in
    let named : Items = group false k_classes (bit_names atsc_classes a.v) none in
    (then_row 6 kind named c.put_text_number-kind.ensures c.put_bits.ensures)
