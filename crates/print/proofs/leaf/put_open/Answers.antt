use Rattle.octets.proofs.Emits.{then}
use Rattle.print.proofs.leaf.put_open.Goals as goal

pub returns : goal.returns
returns c = then (rw c.field.ensures at c.put_lead-next.ensures) c.put_octet.ensures
