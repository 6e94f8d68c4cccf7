use mathlib.Core.List.{[]}
use Rattle.cells.specs.Items.{Items, none, leaf, number, text, ◌⊕◌}
use Rattle.cells.proofs.Rows.{then_row}
use Rattle.fields.specs.Member.{opt_text}
use Rattle.names.specs.Numbers.{k_kind, k_class_id, k_class_name, t_security_classification}
use Rattle.codes.specs.Codes.{text_in, security_classes}
use Rattle.clnp.proofs.tag.put_security.Goals as goal

pub returns : goal.returns
returns c =
    let a = c.args in
    let kind : Items = leaf k_kind (text t_security_classification) none in
    let class : Items = leaf k_class_id (number a.v) none in
    let named : Items = opt_text k_class_name (text_in security_classes [] a.v) in
    (then_row 6 kind (class ⊕ named) c.put_text_number-kind.ensures (then_row 6 class named c.put_number-class.ensures (rw c.atn_security_class_name.ensures at c.put_text_if.ensures)))
