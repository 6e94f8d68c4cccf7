use Rattle.octets.proofs.Emits.{then}
use Rattle.print.specs.Json.{leaf_text}
use Rattle.print.proofs.leaf.put_quoted_octet.Goals as goal

pub returns : goal.returns
unfolding leaf_text
returns c = then c.put_octet-quoted.ensures (then c.put_0x-shown.ensures c.put_octet.ensures)
