use Rattle.codes.specs.Codes.{atsc_classes}
use Rattle.clnp.proofs.tag.put_classes.Given as goal

abbrev pub ghost-put_bits : goal.ghost-put_bits
ghost-put_bits a = atsc_classes
