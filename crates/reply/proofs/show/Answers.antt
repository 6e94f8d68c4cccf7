use mathlib.Core.Path.{sym}
use lib.Seq.{length-take-le}
use Rattle.reply.proofs.Shows.{room_for, shows_whole}
use Rattle.reply.proofs.show.Goals as goal

pub slice_bounds-print-end : goal.slice_bounds-print-end
slice_bounds-print-end c = sym (length-take-le c.in-Ok.n c.args.cells.now (room_for c.in-Ok.is c.requires))

pub returns-in-Ok : goal.returns-in-Ok
returns-in-Ok c = shows_whole c.args.cells.now c.args.s.now c.args.text.now c.in-Ok.is c.print.ensures
