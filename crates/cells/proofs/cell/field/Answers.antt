use Rattle.cells.specs.Cell.{field_of}
use borrow.Author.Rules.{rules}
use Rattle.cells.proofs.cell.field.Goals as goal

pub returns : goal.returns
unfolding field_of
returns c = search rules
