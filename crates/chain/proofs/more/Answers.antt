use native.Mathlib.Omega.{arith}
use mathlib.Core.Path.{◌∙◌}
use Rattle.chain.proofs.Moves.{take_less}
use Rattle.chain.proofs.more.Goals as goal

pub loop-i-preserved : goal.loop-i-preserved
loop-i-preserved c =
    let a = c.args in
    (take_less c.one_more.new.list c.loop-i.list c.loop-i.i a.n (omega arith) c.one_more.ensures.0 ∙ c.loop-i.invariant.0, c.one_more.ensures.1)
