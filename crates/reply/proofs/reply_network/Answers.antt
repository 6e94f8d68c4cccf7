use lib.ListN.{length}
use Rattle.network.specs.Network.{network_cells}
use Rattle.octets.proofs.Emits.{emits_as}
use Rattle.reply.proofs.Shows.{fits, told, said}
use Rattle.reply.proofs.reply_network.Goals as goal

pub show-shown-requires : goal.show-shown-requires
show-shown-requires c = fits c.parse_network-a.result c.parse_network-a.ensures

pub say-requires : goal.say-requires
say-requires c = (told c.parse_network-a.result c.parse_network-a.ensures c.show-shown.ensures).1

pub returns : goal.returns
returns c =
    let a = c.args in
    let k = told c.parse_network-a.result c.parse_network-a.ensures c.show-shown.ensures in
    emits_as (said a.n (network_cells a.s.now) a.s.now a.text.now c.show-shown.new.text (length a.cells.now) c.show-shown.result k) c.say.ensures
