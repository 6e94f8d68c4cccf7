use Rattle.codes.specs.Codes.{traffic_types}
use Rattle.clnp.proofs.tag.put_subnet.Given as goal

abbrev pub ghost-put_bits : goal.ghost-put_bits
ghost-put_bits a = traffic_types
