use mathlib.Core.Path.{◌∙◌}
use lib.ListN.{length-set}
use Rattle.print_list.proofs.single.Goals as goal

pub shape_of-cells-then-a-cells : goal.shape_of-cells-then-a-cells
shape_of-cells-then-a-cells c =
    c.close_group.auto.out
    ∙ length-set c.open_object-a.new.out c.open_object-a.result c.args.c
    ∙ c.open_object-a.auto.out
