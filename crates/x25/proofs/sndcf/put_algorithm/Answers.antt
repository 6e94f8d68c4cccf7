use borrow.Author.Rules.{rules}
use borrow.Author.Tests.{eq-eqb, ne_eqb}
use Rattle.octets.proofs.Emits.{nothing}
use Rattle.cells.proofs.Rows.{flat-none}
use Rattle.x25.proofs.sndcf.put_algorithm.Goals as goal

pub returns-then-bit-eq1 : goal.returns-then-bit-eq1
returns-then-bit-eq1 c = simp (eq-eqb _ _ c.if-bit-eq1.true) c.put_text_number.ensures

pub returns : goal.returns
returns c = simp (ne_eqb _ _ c.if-bit-eq1.false, flat-none) (nothing _ _ (search rules) (search rules))
