use borrow.Author.Rules.{rules}
use borrow.Author.Tests.{ne_eqb}
use Rattle.octets.proofs.Emits.{nothing}
use Rattle.cells.proofs.Rows.{flat-none}
use Rattle.clnp.proofs.tag.put_bit.Goals as goal

pub returns-else-o-bit-eq1 : goal.returns-else-o-bit-eq1
returns-else-o-bit-eq1 g c = rw (ne_eqb _ _ c.if-o-bit-eq1.false, flat-none) (nothing _ _ (search rules) (search rules))
