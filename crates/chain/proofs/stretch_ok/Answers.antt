use mathlib.Core.Path.{sym}
use lib.ListN.{get_or}
use Rattle.chain.proofs.Step.{in_step-homed}
use Rattle.chain.proofs.stretch_ok.Goals as goal

pub returns-then-in_step : goal.returns-then-in_step
returns-then-in_step c =
    let a = c.args in
    sym (in_step-homed a.list.now a.home.now a.b a.i (get_or a.list.now a.i 0) a.m c.if-x-m.true (c.in_step.ensures c.if-in_step.true))
