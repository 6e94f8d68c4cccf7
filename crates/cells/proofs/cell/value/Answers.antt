use Rattle.cells.specs.Cell.{value_of}
use borrow.Author.Rules.{rules}
use Rattle.cells.proofs.cell.value.Goals as goal

pub returns : goal.returns
unfolding value_of
returns c = search rules
