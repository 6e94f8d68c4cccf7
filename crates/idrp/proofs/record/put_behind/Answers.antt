use borrow.Author.Rules.{rules}
use lib.ListN.{get_or}
use Rattle.octets.proofs.Emits.{nothing}
use Rattle.cells.proofs.Rows.{flat-none, row_as}
use Rattle.idrp.proofs.Records.{no_body, the_body}
use Rattle.idrp.proofs.record.put_behind.Goals as goal

pub returns-then-b-le30 : goal.returns-then-b-le30
returns-then-b-le30 c =
    let s = c.args.b.now in
    row_as 1 (no_body (get_or s 3 0) s c.if-b-le30.true) (rw flat-none (nothing _ _ (search rules) (search rules)))

pub returns : goal.returns
returns c = let s = c.args.b.now in row_as 1 (the_body (get_or s 3 0) s) c.put_body.ensures
