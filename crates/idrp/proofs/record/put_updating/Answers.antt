use borrow.Author.Rules.{rules}
use mathlib.Core.Path.{◌∙◌, sym}
use mathlib.Core.Bool.{true}
use Rattle.octets.proofs.Emits.{nothing}
use Rattle.names.specs.Numbers.{k_update}
use Rattle.cells.proofs.Rows.{around, flat-none, row_as}
use Rattle.idrp.specs.Update.{update_members}
use Rattle.idrp.proofs.Records.{update_whole, update_cut}
use Rattle.idrp.proofs.record.put_updating.Goals as goal

pub put_update-shown-requires : goal.put_update-shown-requires
put_update-shown-requires c = (sym c.update_readable.ensures ∙ c.if-update_readable.true, c.requires.1)

pub returns-then-update_readable : goal.returns-then-update_readable
returns-then-update_readable c =
    let s = c.args.s.now in
    row_as 1 (update_whole s c.requires.0 (sym c.update_readable.ensures ∙ c.if-update_readable.true))
    (around 1 true k_update (update_members 30 s) c.open_object-opened.ensures c.put_update-shown.ensures c.close_group.ensures)

pub returns : goal.returns
returns c =
    row_as 1 (update_cut c.args.s.now c.requires.0 (sym c.update_readable.ensures ∙ c.if-update_readable.false)) (rw flat-none (nothing _ _ (search rules) (search rules)))
