use Rattle.cells.specs.Items.{leaf_cell, flat}
use Rattle.cells.proofs.emit.put_prefix.Goals as goal

pub returns : goal.returns
unfolding flat leaf_cell
returns c = c.put_cell.ensures
