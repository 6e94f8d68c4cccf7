use Rattle.std.proofs.Common.{rules}
use Rattle.octets.proofs.Emits.{nothing}
use Rattle.cells.proofs.Rows.{flat-none}
use Rattle.x25.proofs.record.put_negotiated.Goals as goal

pub returns-in-None : goal.returns-in-None
returns-in-None c = rw (c.in-None.is, flat-none) (nothing _ _ (search rules) (search rules))
