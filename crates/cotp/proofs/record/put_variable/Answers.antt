use borrow.Author.Rules.{rules}
use Prim.Native.Nat.{◌+◌}
use Rattle.octets.proofs.Emits.{nothing}
use Rattle.cells.proofs.Rows.{flat-none}
use Rattle.cotp.proofs.Parts.{no-params}
use Rattle.cotp.proofs.record.put_variable.Goals as goal

pub returns-in_default : goal.returns-in_default
returns-in_default c =
    let t = c.args.t in
    rw (no-params t.part.octets.now t.head (t.part.base + t.head.fixed) c.in_default.ensures.lookup.0, flat-none) (nothing _ _ (search rules) (search rules))
