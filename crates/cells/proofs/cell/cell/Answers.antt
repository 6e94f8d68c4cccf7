use Rattle.cells.specs.Cell.{cell_of}
use borrow.Author.Rules.{rules}
use Rattle.cells.proofs.cell.cell.Goals as goal

pub returns : goal.returns
unfolding cell_of
returns c = search rules
