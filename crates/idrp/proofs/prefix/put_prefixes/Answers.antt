use mathlib.Core.Bool.{false}
use Rattle.names.specs.Numbers.{k_prefixes}
use Rattle.cells.proofs.Rows.{around}
use Rattle.idrp.specs.Update.{prefix_items}
use Rattle.idrp.proofs.prefix.put_prefixes.Goals as goal

pub returns : goal.returns
returns c =
    around 4 false k_prefixes (prefix_items c.args.base c.args.s.now) c.open_list-opened.ensures c.put_entries-shown.ensures c.close_group.ensures
