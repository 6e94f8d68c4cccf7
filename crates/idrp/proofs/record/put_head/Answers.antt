use lib.ListN.{get_or, drop}
use Rattle.octets.specs.Read.{be16}
use Rattle.names.specs.Ascii.{octets}
use Rattle.names.specs.Numbers.{k_bispdu_len, k_type}
use Rattle.codes.specs.Codes.{text_in, idrp_types}
use Rattle.cells.specs.Items.{Items, none, leaf, number, text, ◌⊕◌}
use Rattle.cells.proofs.Rows.{then_row}
use Rattle.idrp.specs.Pdu.{body_members, number_members, credit_members}
use Rattle.idrp.proofs.record.put_head.Goals as goal

pub returns : goal.returns
returns c =
    let s = c.args.b.now in
    let len : Items = leaf k_bispdu_len (number (be16 (get_or s 1 0) (get_or s 2 0))) none in
    let type : Items = leaf k_type (text (text_in idrp_types (octets "?") (get_or s 3 0))) none in
    let numbers : Items = number_members s in
    let credit : Items = credit_members s in
    let body : Items = body_members (get_or s 3 0) (drop 30 s) in
    then_row 1 len (type ⊕ (numbers ⊕ (credit ⊕ body))) (rw c.u16_of.ensures at c.put_number-len.ensures)
    (then_row 1 type (numbers ⊕ (credit ⊕ body)) (rw c.idrp_pdu_type_name.ensures at c.put_text_number-typed.ensures)
    (then_row 1 numbers (credit ⊕ body) c.put_numbers-numbers.ensures (then_row 1 credit body c.put_credit-credit.ensures c.put_behind.ensures)))
