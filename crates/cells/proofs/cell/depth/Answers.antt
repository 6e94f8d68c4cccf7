use Rattle.cells.specs.Cell.{depth_of}
use borrow.Author.Rules.{rules}
use Rattle.cells.proofs.cell.depth.Goals as goal

pub returns : goal.returns
unfolding depth_of
returns c = search rules
