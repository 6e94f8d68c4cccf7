use borrow.Author.Rules.{rules}
use mathlib.Core.Bool.{true}
use Rattle.octets.proofs.Emits.{nothing}
use Rattle.names.specs.Numbers.{k_open}
use Rattle.cells.proofs.Rows.{around, flat-none, row_as}
use Rattle.idrp.specs.Pdu.{open_members}
use Rattle.idrp.proofs.Records.{open_cut, open_whole}
use Rattle.idrp.proofs.record.put_opening.Goals as goal

pub returns-then-s-lt6 : goal.returns-then-s-lt6
returns-then-s-lt6 c =
    row_as 1 (open_cut c.args.s.now c.requires.0 c.if-s-lt6.true) (rw flat-none (nothing _ _ (search rules) (search rules)))

pub returns : goal.returns
returns c =
    let s = c.args.s.now in
    row_as 1 (open_whole s c.requires.0 c.if-s-lt6.false) (around 1 true k_open (open_members 30 s) c.open_object-opened.ensures c.put_open-shown.ensures c.close_group.ensures)
