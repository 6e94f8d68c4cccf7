use mathlib.Core.List.{append-nil}
use Rattle.octets.specs.Text.{each}
use Rattle.octets.proofs.Emits.{then}
use Rattle.octets.proofs.text.put_hex_word.Goals as goal

pub returns : goal.returns
unfolding each
returns c =
    then c.put_hex_octet-second.ensures (then c.put_hex_octet-third.ensures (then c.put_hex_octet-fourth.ensures (rw append-nil c.put_hex_octet.ensures)))
