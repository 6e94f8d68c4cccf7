use Rattle.idrp.proofs.Attributes.{end_is}
use Rattle.idrp.proofs.attribute.attributes_end.Goals as goal

pub returns : goal.returns
returns c = end_is c.args.s.now c.args.p c.requires.0 c.two_at-n.result c.two_at-n.ensures.0
