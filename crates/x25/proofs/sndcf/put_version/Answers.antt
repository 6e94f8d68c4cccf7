use borrow.Author.Rules.{rules}
use borrow.Author.Tests.{eq-eqb, ne_eqb}
use Rattle.octets.proofs.Emits.{nothing}
use Rattle.cells.proofs.Rows.{flat-none}
use Rattle.x25.proofs.sndcf.put_version.Goals as goal

pub returns-then-version-eq0 : goal.returns-then-version-eq0
returns-then-version-eq0 c = rw (eq-eqb _ _ c.if-version-eq0.true, flat-none) (nothing _ _ (search rules) (search rules))

pub returns : goal.returns
returns c = simp (ne_eqb _ _ c.if-version-eq0.false) c.put_number.ensures
