use borrow.Author.Rules.{rules}
use Rattle.octets.proofs.Emits.{nothing}
use Rattle.cells.proofs.Rows.{then_row, flat-none, row_as}
use Rattle.idrp.proofs.Records.{no_numbers, with-numbers, sequence_of, ack_of}
use Rattle.idrp.proofs.record.put_numbers.Goals as goal

pub returns-then-b-lt12 : goal.returns-then-b-lt12
returns-then-b-lt12 c = row_as 1 (no_numbers c.args.b.now c.if-b-lt12.true) (rw flat-none (nothing _ _ (search rules) (search rules)))

pub returns : goal.returns
returns c =
    let s = c.args.b.now in
    row_as 1 (with-numbers s c.if-b-lt12.false) (then_row 1 (sequence_of s) (ack_of s) (rw c.four_at.ensures at c.put_number-sequence.ensures) (rw c.four_at-2.ensures at c.put_number.ensures))
