use Rattle.cells.specs.Cell.{len_of}
use borrow.Author.Rules.{rules}
use Rattle.cells.proofs.cell.len.Goals as goal

pub returns : goal.returns
unfolding len_of
returns c = search rules
