use Rattle.idrp.proofs.Nlris.{whole-at}
use Rattle.idrp.proofs.nlri.NlriEntries.put_entry.Goals as goal

pub put_entry-requires : goal.put_entry-requires
put_entry-requires c = ((whole-at c.args.self.now.body.octets.now c.args.i c.requires.0).0, c.requires.2)
