use lib.ListN.{get_or}
use Rattle.octets.specs.Read.{be16}
use Rattle.names.specs.Numbers.{k_type, k_holding_time_s}
use Rattle.cells.specs.Items.{Items, none, leaf, number, text}
use Rattle.cells.proofs.Rows.{then_row}
use Rattle.esis.specs.Pdu.{type_of, type_code}
use Rattle.esis.proofs.record.put_head.Goals as goal

pub returns : goal.returns
returns c =
    let s = c.args.b.now in
    let t : Items = leaf k_type (text (type_of (type_code s))) none in
    let h : Items = leaf k_holding_time_s (number (be16 (get_or s 5 0) (get_or s 6 0))) none in
    then_row 1 t h (rw c.type_name.ensures at c.put_text_number-typed.ensures) (rw c.u16_of.ensures at c.put_number.ensures)
