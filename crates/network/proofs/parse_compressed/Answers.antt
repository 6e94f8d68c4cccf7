use borrow.Author.Rules.{rules}
use Rattle.network.proofs.Firsts.{says-short, says-whole}
use Rattle.network.proofs.parse_compressed.Goals as goal

pub returns-then-out-lt5 : goal.returns-then-out-lt5
returns-then-out-lt5 c = says-short c.args.b.now c.args.out.now c.requires.1 c.if-out-lt5.true

pub returns : goal.returns
returns c = says-whole c.args.b.now c.args.out.now c.requires.1 c.if-out-lt5.false (search rules) c.put_compressed-size.ensures
