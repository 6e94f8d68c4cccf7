use borrow.Author.Rules.{rules}
use Rattle.octets.proofs.Emits.{nothing}
use Rattle.cells.proofs.Rows.{flat-none}
use Rattle.fields.proofs.member.put_yes_if.Goals as goal

pub returns-then-b : goal.returns-then-b
returns-then-b c = rw c.if-b.true c.put_flag.ensures

pub returns : goal.returns
returns c = rw (c.if-b.false, flat-none) (nothing _ _ (search rules) (search rules))
