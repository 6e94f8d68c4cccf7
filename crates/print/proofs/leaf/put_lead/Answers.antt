use Rattle.octets.proofs.Emits.{then}
use Rattle.print.specs.Json.{lead}
use Rattle.print.proofs.leaf.put_lead.Goals as goal

pub returns : goal.returns
unfolding lead
returns c = then c.put_comma-next.ensures c.put_name.ensures
