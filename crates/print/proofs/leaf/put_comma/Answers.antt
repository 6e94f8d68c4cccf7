use Rattle.octets.proofs.Emits.{nothing}
use Rattle.print.specs.Json.{comma}
use borrow.Author.Rules.{rules}
use Rattle.print.proofs.leaf.put_comma.Goals as goal

pub returns-then-first : goal.returns-then-first
unfolding comma
returns-then-first c = rw c.if-first.true (nothing _ _ (search rules) (search rules))

pub returns : goal.returns
unfolding comma
returns c = rw c.if-first.false c.put_octet.ensures
