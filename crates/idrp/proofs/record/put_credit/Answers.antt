use borrow.Author.Rules.{rules}
use native.Mathlib.Omega.{arith}
use Rattle.octets.proofs.Emits.{nothing}
use Rattle.cells.proofs.Rows.{then_row, flat-none, row_as}
use Rattle.idrp.proofs.Records.{no_credit, with_credit, offered_of, avail_of}
use Rattle.idrp.proofs.record.put_credit.Goals as goal

pub returns-then-b-lt14 : goal.returns-then-b-lt14
returns-then-b-lt14 c = row_as 1 (no_credit c.args.b.now c.if-b-lt14.true) (rw flat-none (nothing _ _ (search rules) (search rules)))

pub overflow_cast-b : goal.overflow_cast-b
overflow_cast-b c = record { fits = omega (arith, (c.shared_slice_known-2-1.given 12).fits) }

pub overflow_cast-b-2 : goal.overflow_cast-b-2
overflow_cast-b-2 c = record { fits = omega (arith, (c.shared_slice_known-3-1.given 13).fits) }

pub returns : goal.returns
returns c =
    let s = c.args.b.now in
    row_as 1 (with_credit s c.if-b-lt14.false) (then_row 1 (offered_of s) (avail_of s) c.put_number-offered.ensures c.put_number.ensures)
