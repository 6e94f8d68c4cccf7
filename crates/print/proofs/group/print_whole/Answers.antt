use mathlib.Core.Path.{sym, ◌∙◌}
use Rattle.print.proofs.Wholes.{no_cells, no_root, root_broken, more-cells, all-cells}
use Rattle.print.proofs.group.print_whole.Goals.{then-cells-eq0-via-then-cells-eq0, then-cells-eq0-via-else-cells-eq0+then-cells-cell}
use Rattle.print.proofs.group.print_whole.Goals as goal

pub returns-then-cells-eq0 : goal.returns-then-cells-eq0
returns-then-cells-eq0 c =
    elim c.then-cells-eq0.branch [
      | then-cells-eq0-via-then-cells-eq0 w ↦ no_cells _ _ w.if-cells-eq0.true
      | then-cells-eq0-via-else-cells-eq0+then-cells-cell w ↦ no_root _ _ (λ e. w.if-cells-cell.true (e ∙ sym w.cell.ensures))
    ]

pub returns-in_default : goal.returns-in_default
returns-in_default c =
    root_broken c.args.cells.now c.args.input.now (c.if-cells-cell.false ∙ c.cell.ensures) (rw c.in_default.is at c.object.ensures)

pub returns-then-j-cells : goal.returns-then-j-cells
returns-then-j-cells c =
    all-cells (c.if-cells-cell.false ∙ c.cell.ensures) (rw c.in-Some.is at c.object.ensures) c.if-j-cells.true c.put_octet-begun.ensures

pub returns-else-j-cells : goal.returns-else-j-cells
returns-else-j-cells c = more-cells (c.if-cells-cell.false ∙ c.cell.ensures) (rw c.in-Some.is at c.object.ensures) c.if-j-cells.false
