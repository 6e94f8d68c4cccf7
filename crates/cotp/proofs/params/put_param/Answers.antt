use mathlib.Core.List.{[]}
use mathlib.Core.Bool.{true}
use Rattle.names.specs.Numbers.{k_code, k_name}
use Rattle.codes.specs.Codes.{text_in, cotp_params}
use Rattle.cells.specs.Items.{Items, none, leaf, octet, ◌⊕◌}
use Rattle.cells.proofs.Rows.{around, then_row}
use Rattle.fields.specs.Member.{opt_text}
use Rattle.cotp.specs.Params.{param_value}
use Prim.Native.Nat.{◌+◌}
use Rattle.cotp.proofs.params.put_param.Goals as goal

pub returns : goal.returns
returns c =
    let a = c.args in
    let d = a.depth in
    let code : Items = leaf k_code (octet a.t) none in
    let name : Items = opt_text k_name (text_in cotp_params [] a.t) in
    let value : Items = param_value a.part.base a.part.octets.now a.t a.b.start a.b.len in
    around d true 0 (code ⊕ (name ⊕ value)) c.open_object-opened.ensures
    (then_row (d + 1) code (name ⊕ value) c.put_octet_leaf-coded.ensures (then_row (d + 1) name value (rw c.cotp_param_name.ensures at c.put_text_if-named.ensures) c.put_value-shown.ensures))
    c.close_group.ensures
