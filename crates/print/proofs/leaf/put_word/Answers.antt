use Rattle.octets.proofs.Emits.{then}
use Rattle.print.specs.Json.{leaf_text}
use Rattle.print.proofs.leaf.put_word.Goals as goal

pub returns : goal.returns
unfolding leaf_text
returns c = then c.put_octet-quoted.ensures (then c.put_hex_word-shown.ensures c.put_octet.ensures)
