use Rattle.octets.proofs.Emits.{emits_as}
use Rattle.reply.proofs.Shows.{counted-part, said_as}
use Rattle.reply.proofs.say.Goals as goal

pub slice_bounds-put_text_said-end : goal.slice_bounds-put_text_said-end
slice_bounds-put_text_said-end c = counted-part c.args.text.now c.count-size.ensures c.requires

pub returns : goal.returns
returns c = emits_as (said_as c.args.n c.args.text.now c.number.ensures c.count-size.ensures) c.put_text_said.ensures
