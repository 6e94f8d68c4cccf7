use borrow.Author.Tests.{eq-eqb, ne_eqb}
use Rattle.print.specs.Json.{leaf_text}
use Rattle.print.proofs.leaf.put_flag.Goals as goal

pub returns-then-v-eq1 : goal.returns-then-v-eq1
unfolding leaf_text
returns-then-v-eq1 c = simp (eq-eqb _ _ c.if-v-eq1.true) c.put_octets.ensures

pub returns : goal.returns
unfolding leaf_text
returns c = simp (ne_eqb _ _ c.if-v-eq1.false) c.put_octets-2.ensures
