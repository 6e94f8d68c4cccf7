use Rattle.octets.specs.Text.{hex_digit}
use Rattle.octets.proofs.Table.{at}
use borrow.Author.Rules.{rules}
use Rattle.octets.proofs.text.hex_digit.Goals as goal

pub returns : goal.returns
unfolding hex_digit
returns c = at hex_digit 16 c.args.n (search rules)
