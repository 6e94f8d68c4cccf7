use mathlib.Core.Bool.{true}
use Rattle.names.specs.Ascii.{octets}
use Rattle.names.specs.Numbers.{k_type, k_type_code, k_value_hex}
use Rattle.codes.specs.Codes.{text_in, esis_options}
use Rattle.cells.specs.Items.{Items, none, leaf, number, text, part, ◌⊕◌}
use Rattle.cells.proofs.Rows.{around, then_row}
use Rattle.esis.proofs.option.put_option.Goals as goal

pub returns : goal.returns
returns c =
    let a = c.args in
    let name : Items = leaf k_type (text (text_in esis_options (octets "unknown") a.t)) none in
    let code : Items = leaf k_type_code (number a.t) none in
    let value : Items = leaf k_value_hex (part a.from a.n) none in
    around 2 true 0 (name ⊕ (code ⊕ value)) c.open_object-opened.ensures
    (then_row 3 name (code ⊕ value) (rw c.esis_option_name.ensures at c.put_text_number-typed.ensures) (then_row 3 code value c.put_number-coded.ensures c.put_hex_part-shown.ensures)) c.close_group.ensures
