use mathlib.Core.Bool.{true}
use mathlib.Core.List.{[]}
use Rattle.names.specs.Numbers.{k_code, k_name}
use Rattle.codes.specs.Codes.{text_in, clnp_options}
use Rattle.cells.specs.Items.{Items, none, leaf, octet, ◌⊕◌}
use Rattle.cells.proofs.Rows.{around, then_row}
use Rattle.fields.specs.Member.{opt_text}
use Rattle.clnp.specs.Options.{option_value}
use Rattle.clnp.proofs.option.put_option.Goals as goal

pub returns : goal.returns
returns c =
    let a = c.args in
    let code : Items = leaf k_code (octet a.t) none in
    let name : Items = opt_text k_name (text_in clnp_options [] a.t) in
    let value : Items = option_value a.part.base a.part.octets.now a.t a.b.start a.b.len in
    around 2 true 0 (code ⊕ (name ⊕ value)) c.open_object-opened.ensures
    (then_row 3 code (name ⊕ value) c.put_octet_leaf-coded.ensures (then_row 3 name value (rw c.clnp_option_name.ensures at c.put_text_if-named.ensures) c.put_value-shown.ensures)) c.close_group.ensures
