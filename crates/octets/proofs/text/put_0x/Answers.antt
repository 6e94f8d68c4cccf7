use Rattle.octets.proofs.Emits.{then}
use Rattle.octets.proofs.text.put_0x.Goals as goal

pub returns : goal.returns
returns c = then c.put_octet-zero.ensures (then c.put_octet-next.ensures c.put_hex_octet.ensures)
