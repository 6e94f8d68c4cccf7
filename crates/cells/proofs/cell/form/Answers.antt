use Rattle.cells.specs.Cell.{form_of}
use borrow.Author.Rules.{rules}
use Rattle.cells.proofs.cell.form.Goals as goal

pub returns : goal.returns
unfolding form_of
returns c = search rules
