use lib.ListN.{length}
use Rattle.x25.specs.Packet.{x25_cells}
use Rattle.octets.proofs.Emits.{emits_as}
use Rattle.reply.proofs.Shows.{fits, told, said}
use Rattle.reply.proofs.reply_x25.Goals as goal

pub show-shown-requires : goal.show-shown-requires
show-shown-requires c = fits c.x25_record-a.result c.x25_record-a.ensures

pub say-requires : goal.say-requires
say-requires c = (told c.x25_record-a.result c.x25_record-a.ensures c.show-shown.ensures).1

pub returns : goal.returns
returns c =
    let a = c.args in
    let k = told c.x25_record-a.result c.x25_record-a.ensures c.show-shown.ensures in
    emits_as (said a.n (x25_cells a.s.now) a.s.now a.text.now c.show-shown.new.text (length a.cells.now) c.show-shown.result k) c.say.ensures
