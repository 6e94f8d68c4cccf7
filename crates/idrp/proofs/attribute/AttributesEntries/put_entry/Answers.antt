use Rattle.std.proofs.Common.{arith}
use Rattle.idrp.specs.Update.{attributes_end}
use Rattle.idrp.proofs.Attributes.{whole-at}
use Rattle.idrp.proofs.attribute.AttributesEntries.put_entry.Goals as goal

pub bounds-self-i : goal.bounds-self-i
bounds-self-i c =
    let s = c.args.self.now.body.octets.now in
    omega (arith, whole-at s (attributes_end s) c.args.i c.requires.0)
