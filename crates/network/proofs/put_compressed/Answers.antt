use Rattle.network.specs.Network.{compressed_members, compressed_cells}
use Rattle.cells.proofs.Rows.{around, then_row}
use Rattle.cells.specs.Items.{Items, none, leaf, number, text, octet, ◌⊕◌}
use Rattle.names.specs.Numbers.{k_protocol, k_first, k_payload_len, t_clnp_compressed}
use mathlib.Core.Bool.{true}
use lib.ListN.{length, get_or}
use Rattle.network.proofs.put_compressed.Goals as goal

pub returns : goal.returns
unfolding compressed_cells
returns c =
    let s = c.args.b.now in
    let p : Items = leaf k_protocol (text t_clnp_compressed) none in
    let f : Items = leaf k_first (octet (get_or s 0 0)) none in
    let n : Items = leaf k_payload_len (number (length s)) none in
    around 0 true 0 (compressed_members s) c.open_object-opened.ensures (then_row 1 p (f ⊕ n) c.put_text_number-labelled.ensures (then_row 1 f n c.put_octet_leaf-first.ensures c.put_number-measured.ensures)) c.close_group.ensures
