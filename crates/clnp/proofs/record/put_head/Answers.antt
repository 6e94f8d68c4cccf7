use Prim.Native.Nat.{◌%◌}
use lib.ListN.{get_or}
use Rattle.octets.specs.Read.{be16}
use Rattle.names.specs.Numbers.{k_protocol, k_type, k_version, k_lifetime500ms, k_seg_len, t_clnp}
use Rattle.cells.specs.Items.{Items, none, leaf, number, text, ◌⊕◌}
use Rattle.cells.proofs.Rows.{then_row}
use Rattle.clnp.specs.Pdu.{type_of}
use Rattle.clnp.proofs.record.put_head.Goals as goal

pub returns : goal.returns
returns c =
    let s = c.args.b.now in
    let p : Items = leaf k_protocol (text t_clnp) none in
    let t : Items = leaf k_type (text (type_of (get_or s 4 0 % 32))) none in
    let v : Items = leaf k_version (number (get_or s 2 0)) none in
    let l : Items = leaf k_lifetime500ms (number (get_or s 3 0)) none in
    let n : Items = leaf k_seg_len (number (be16 (get_or s 5 0) (get_or s 6 0))) none in
    then_row 1 p (t ⊕ (v ⊕ (l ⊕ n))) c.put_text_number-protocol.ensures (then_row 1 t (v ⊕ (l ⊕ n)) (rw c.type_name.ensures at c.put_text_number-typed.ensures)
    (then_row 1 v (l ⊕ n) c.put_octet-version.ensures (then_row 1 l n c.put_octet-lifetime.ensures c.put_two.ensures)))
