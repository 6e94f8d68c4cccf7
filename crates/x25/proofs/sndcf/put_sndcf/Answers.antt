use Prim.Native.Nat.{◌/◌, ◌%◌}
use mathlib.Core.Bool.{true, false}
use Rattle.names.specs.Numbers.{k_sndcf, k_compression_options, k_compression_algos, k_maintenance}
use Rattle.cells.specs.Items.{Items, none, leaf, group, number, flag, ◌⊕◌}
use Rattle.cells.proofs.Rows.{around, then_row}
use Rattle.x25.specs.Sndcf.{algorithms, version_member}
use Rattle.x25.proofs.sndcf.put_sndcf.Goals as goal

pub returns : goal.returns
returns c =
    let o = c.args.o in
    let options : Items = leaf k_compression_options (number o) none in
    let algos : Items = group false k_compression_algos (algorithms o) none in
    let flagged : Items = leaf k_maintenance (flag (o / 16 % 2)) none in
    let last : Items = version_member c.args.version in
    around 1 true k_sndcf (options ⊕ (algos ⊕ (flagged ⊕ last))) c.open_object-opened.ensures
    (then_row 2 options (algos ⊕ (flagged ⊕ last)) c.put_number-options.ensures
    (then_row 2 algos (flagged ⊕ last) c.put_algorithms-algos.ensures (then_row 2 flagged last c.put_flag-maintenance.ensures c.put_version-last.ensures)))
    c.close_group.ensures
