use Rattle.names.specs.Numbers.{k_credit}
use Rattle.cells.specs.Items.{Items, none, leaf, number}
use Rattle.cells.proofs.Rows.{then_row}
use Rattle.cotp.specs.Tpdu.{seq_member}
use Rattle.octets.specs.Read.{be16}
use mathlib.Core.Bool.{true, false}
use lib.ListN.{get_or}
use Prim.Native.Nat.{◌%◌}
use Rattle.cotp.proofs.record.put_credit.Goals as goal

pub returns-then-extended : goal.returns-then-extended
returns-then-extended c =
    let a = c.args in
    let s = a.b.now in
    let credit : Items = leaf k_credit (number (be16 (get_or s 8 0) (get_or s 9 0))) none in
    rw c.if-extended.true (then_row a.depth (seq_member s true) credit c.put_seq-number.ensures (rw c.u16_of.ensures at c.put_number.ensures))

pub returns : goal.returns
returns c =
    let a = c.args in
    let s = a.b.now in
    let credit : Items = leaf k_credit (number (get_or s 1 0 % 16)) none in
    rw c.if-extended.false (then_row a.depth credit (seq_member s false) c.put_number-credit.ensures c.put_seq.ensures)
