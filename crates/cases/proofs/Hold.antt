-- Every case holds: antt computes each.
use mathlib.Core.Path.{refl}
use Rattle.names.specs.Place.{same, place_from}
use Rattle.names.specs.Texts.{texts, number_of}
use Rattle.codes.specs.Codes.{name_in, text_in, restart_causes}
use Rattle.cells.specs.Cell.{cell_of}
use Rattle.cells.specs.Items.{leaf_cell, flat}
use Rattle.cells.specs.Walk.{walk_by, walk_from}
use Rattle.cells.specs.Answer.{answer_to}
use Rattle.x25.specs.Packet.{by_type, packet_of, members_of, x25_cells}
use Rattle.cotp.specs.Segment as cotp
use Rattle.clnp.specs.Segment as clnp
use Rattle.cases.specs.Cases.{Every, cases}

pub every_holds : Every cases
unfolding x25_cells packet_of by_type members_of text_in name_in restart_causes number_of place_from same texts walk_from walk_by flat leaf_cell cell_of answer_to cotp.segment_of clnp.segment_of clnp.addresses_of
every_holds = (refl, (λ room. refl, (refl, (refl, ((refl, refl), tt)))))
