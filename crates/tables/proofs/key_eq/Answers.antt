use Prim.Native.Nat.{◌+◌, ◌*◌}
use mathlib.Core.Path.{◌∙◌}
use native.Mathlib.Omega.{arith}
use Rattle.tables.proofs.Sums.{same-words}
use Rattle.tables.proofs.key_eq.Goals as goal

pub returns : goal.returns
returns c =
    let w = c.args.words.now in
    c.eq.ensures ∙ same-words w w (40 + 12 * c.args.p) (40 + 12 * c.args.q) _ _ 6 (omega arith) (omega arith) (omega arith) (omega arith)
