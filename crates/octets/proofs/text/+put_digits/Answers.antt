use borrow.Author.Rules.{rules}
use Rattle.octets.proofs.Emits.{nothing, then}
use Rattle.octets.proofs.Digits.{digits-none, digits_more, digits-one}
use Rattle.octets.proofs.text.+put_digits.Goals as goal

pub returns-then-k-eq0 : goal.returns-then-k-eq0
returns-then-k-eq0 t c = rw (digits-none _ c.args.n c.if-k-eq0.true) (nothing _ _ (search rules) (search rules))

pub returns-then-n-ge10 : goal.returns-then-n-ge10
returns-then-n-ge10 t c =
    let e = c in rw (digits_more e.args.k e.args.n e.if-k-eq0.false c.if-n-ge10.true)
    (then c.put_digits-next.ensures c.put_octet.ensures)

pub returns-else-n-ge10 : goal.returns-else-n-ge10
returns-else-n-ge10 t c = let e = c in rw (digits-one e.args.k e.args.n e.if-k-eq0.false c.if-n-ge10.false) c.put_octet-else-n-ge10.ensures
