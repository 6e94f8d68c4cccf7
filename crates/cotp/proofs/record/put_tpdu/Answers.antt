use Prim.Native.Nat.{◌+◌}
use lib.ListN.{get_or}
use Rattle.octets.specs.Read.{be16}
use Rattle.names.specs.Numbers.{k_tpdu, k_dst_ref, k_extended, k_params}
use Rattle.cells.specs.Items.{Items, none, leaf, number, text, in_list, ◌⊕◌}
use Rattle.cells.proofs.Rows.{then_row}
use Rattle.fields.specs.Member.{opt_yes}
use Rattle.cotp.specs.Params.{param_items}
use Rattle.cotp.specs.Tpdu.{name_of, fixed_members, param_part, user_members, members_of}
use Rattle.cotp.proofs.record.put_tpdu.Goals as goal

pub returns : goal.returns
unfolding members_of
returns c =
    let d = c.args.depth in
    let s = c.args.t.part.octets.now in
    let h = c.args.t.head in
    let name : Items = leaf k_tpdu (text (name_of h.kind)) none in
    let dst : Items = leaf k_dst_ref (number (be16 (get_or s 2 0) (get_or s 3 0))) none in
    let fixed : Items = fixed_members s h.kind h.extended in
    let long : Items = opt_yes k_extended h.extended in
    let params : Items = in_list k_params (param_items (c.args.t.part.base + h.fixed) (param_part s h)) in
    let user : Items = user_members s h in
    then_row d name (dst ⊕ (fixed ⊕ (long ⊕ (params ⊕ user)))) (rw c.name.ensures at c.put_text_number-named.ensures)
    (then_row d dst (fixed ⊕ (long ⊕ (params ⊕ user))) (rw c.u16_of.ensures at c.put_number-dst.ensures)
    (then_row d fixed (long ⊕ (params ⊕ user)) c.put_fixed-fixed.ensures
    (then_row d long (params ⊕ user) c.put_yes_if-told.ensures (then_row d params user c.put_variable-listed.ensures c.put_user.ensures))))
