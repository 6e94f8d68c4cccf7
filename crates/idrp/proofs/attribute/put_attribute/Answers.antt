use mathlib.Core.Bool.{true}
use Rattle.names.specs.Ascii.{octets}
use Rattle.names.specs.Numbers.{k_type, k_type_code}
use Rattle.codes.specs.Codes.{text_in, idrp_attributes}
use Rattle.cells.specs.Items.{Items, none, leaf, text, number, ◌⊕◌}
use Rattle.cells.proofs.Rows.{around, then_row}
use Rattle.idrp.specs.Update.{attribute_value}
use Rattle.idrp.proofs.attribute.put_attribute.Goals as goal

pub returns : goal.returns
returns c =
    let a = c.args in
    let name : Items = leaf k_type (text (text_in idrp_attributes (octets "unknown") a.t)) none in
    let code : Items = leaf k_type_code (number a.t) none in
    let value : Items = attribute_value a.body.base a.body.octets.now a.t a.b.start a.b.len in
    around 3 true 0 (name ⊕ (code ⊕ value)) c.open_object-opened.ensures
    (then_row 4 name (code ⊕ value) (rw c.idrp_attr_name.ensures at c.put_text_number-typed.ensures) (then_row 4 code value c.put_number-coded.ensures c.put_value-valued.ensures)) c.close_group.ensures
