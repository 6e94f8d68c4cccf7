use Rattle.octets.proofs.Emits.{then}
use Rattle.replay_line.proofs.said.put_numbers.Goals as goal

pub returns : goal.returns
returns c =
    then (then (then c.put_digits-numbered.ensures (then c.put_octet-parted.ensures c.put_decimal-answered.ensures)) (then c.put_octet-again.ensures c.put_digits-measured.ensures)) c.put_octet.ensures
