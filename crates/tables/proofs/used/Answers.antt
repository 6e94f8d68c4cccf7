use Prim.Native.Nat.{◌+◌}
use mathlib.Core.Path.{◌≡◌}
use native.Mathlib.Omega.{arith}
use Rattle.tables.specs.Tables.{count, used_of}
use Rattle.tables.proofs.Laws.{sum-next, counts-low}
use Rattle.tables.proofs.used.Goals as goal

pub overflow_add-sum-in-loop-l : goal.overflow_add-sum-in-loop-l
overflow_add-sum-in-loop-l c = omega (arith, counts-low c.args.words.now c.requires.2 c.requires.3 c.loop-l.l (omega arith))

pub loop-l-preserved : goal.loop-l-preserved
loop-l-preserved c =
    let w = c.args.words.now in
    let l = c.loop-l.l in
    let n : used_of w (l + 1) ≡ used_of w l + count w l = sum-next (count w) l in
    let k = counts-low w c.requires.2 c.requires.3 l (omega arith) in
    (omega (arith, n), omega (arith, k))
