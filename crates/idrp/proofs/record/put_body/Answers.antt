use borrow.Author.Rules.{rules}
use Rattle.octets.proofs.Emits.{nothing}
use Rattle.cells.proofs.Rows.{flat-none, row_as}
use Rattle.idrp.proofs.Records.{as_typed, is_error, untyped}
use Rattle.idrp.proofs.record.put_body.Goals as goal

pub returns-then-t-eq1 : goal.returns-then-t-eq1
returns-then-t-eq1 c = let a = c.args in row_as 1 (as_typed a.s.now c.requires.0 a.t 1 c.if-t-eq1.true) c.put_opening.ensures

pub returns-then-t-eq2 : goal.returns-then-t-eq2
returns-then-t-eq2 c = let a = c.args in row_as 1 (as_typed a.s.now c.requires.0 a.t 2 c.if-t-eq2.true) c.put_updating.ensures

pub returns-then-t-eq3 : goal.returns-then-t-eq3
returns-then-t-eq3 c = let a = c.args in row_as 1 (is_error a.s.now c.requires.0 a.t c.if-t-eq3.true) c.put_error.ensures

pub returns : goal.returns
returns c =
    let a = c.args in
    row_as 1 (untyped a.s.now c.requires.0 a.t c.if-t-eq1.false c.if-t-eq2.false c.if-t-eq3.false) (rw flat-none (nothing _ _ (search rules) (search rules)))
