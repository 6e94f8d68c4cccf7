use Rattle.std.proofs.Common.{rules, sym}
use Rattle.octets.proofs.Emits.{nothing}
use Rattle.cells.proofs.Rows.{flat-none, row_as}
use Rattle.esis.proofs.Records.{member_none}
use Rattle.esis.proofs.record.put_behind.Goals as goal

pub returns : goal.returns
returns c = row_as 1 (member_none c.args.b.now c.if-t-eq2.false c.if-t-eq4.false) (rw flat-none (nothing _ _ (search rules) (search rules)))
