use Prim.Native.Nat.{◌+◌}
use mathlib.Core.Path.{sym, ap, ◌∙◌}
use mathlib.Core.List.{List}
use native.Mathlib.Omega.{arith}
use lib.ListN.{get_or, set}
use Rattle.shift.proofs.Laws.{shifted_none, shifted_next}
use Rattle.shift.proofs.down.Goals as goal

pub loop-i-init : goal.loop-i-init
loop-i-init g c = sym (shifted_none _ _ _)

pub loop-i-preserved : goal.loop-i-preserved
loop-i-preserved g c =
    let a = c.args in
    let i = c.loop-i.i in
    let x = c.index-w-i.result in
    ap (set c.loop-i.w i) c.index-w-i.is
    ∙ ap (λ (l : List g.row.T.Denot). set l i (get_or l (i + a.s) x)) c.loop-i.invariant
    ∙ shifted_next a.w.now a.p a.s i x (omega arith) (omega arith)
