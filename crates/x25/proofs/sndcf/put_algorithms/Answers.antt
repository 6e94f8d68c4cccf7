use Prim.Native.Nat.{◌/◌, ◌%◌}
use mathlib.Core.Bool.{false}
use Rattle.names.specs.Numbers.{k_compression_algos, t_aca, t_deflate, t_lref, t_lref_can}
use Rattle.cells.specs.Items.{◌⊕◌}
use Rattle.cells.proofs.Rows.{around, then_row}
use Rattle.x25.specs.Sndcf.{algorithm, algorithms}
use Rattle.x25.proofs.sndcf.put_algorithms.Goals as goal

pub returns : goal.returns
returns c =
    let o = c.args.o in
    let aca = algorithm (o / 64 % 2) t_aca in
    let deflate = algorithm (o / 32 % 2) t_deflate in
    let lref = algorithm (o / 2 % 2) t_lref in
    let cancel = algorithm (o % 2) t_lref_can in
    around 2 false k_compression_algos (algorithms o) c.open_list-opened.ensures
    (then_row 3 aca (deflate ⊕ (lref ⊕ cancel)) c.put_algorithm-aca.ensures
    (then_row 3 deflate (lref ⊕ cancel) c.put_algorithm-deflate.ensures (then_row 3 lref cancel c.put_algorithm-lref.ensures c.put_algorithm-cancel.ensures)))
    c.close_group.ensures
