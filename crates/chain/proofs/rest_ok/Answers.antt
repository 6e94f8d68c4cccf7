use Prim.Native.Nat.{◌+◌, ◌-◌}
use mathlib.Core.Path.{sym, ◌∙◌}
use native.Mathlib.Omega.{arith}
use Rattle.chain.specs.Chain.{home_at}
use Rattle.chain.proofs.Step.{rest_join, all-cut}
use Rattle.chain.proofs.rest_ok.Goals as goal

pub returns-then-stretch_ok : goal.returns-then-stretch_ok
returns-then-stretch_ok c =
    let a = c.args in
    c.each_ok-then-stretch_ok.ensures ∙ rest_join (home_at a.home.now a.list.now a.b) a.i 32 (a.m - 32) a.m (omega arith) (sym c.stretch_ok.ensures ∙ c.if-stretch_ok.true)

pub returns-else-stretch_ok : goal.returns-else-stretch_ok
returns-else-stretch_ok c =
    let a = c.args in
    c.if-stretch_ok.false ∙ sym (all-cut (λ t. home_at a.home.now a.list.now a.b (a.i + t)) 32 a.m (omega arith) (sym c.stretch_ok.ensures ∙ c.if-stretch_ok.false))
