use Prim.Native.Nat.{◌+◌, ◌*◌, ◌-◌, ◌%◌}
use mathlib.Core.Path.{◌≡◌, sym, ap, ◌∙◌}
use mathlib.Core.Bool.{true}
use native.Mathlib.Omega.{arith}
use Rattle.chain.specs.Chain.{home_at, homed}
use Rattle.octets.proofs.Tests.{all_none}
use Rattle.chain.proofs.Step.{all_join, all-cut}
use Rattle.chain.proofs.homed_ok.Goals as goal

pub returns-then-n-lt32 : goal.returns-then-n-lt32
returns-then-n-lt32 c =
    let a = c.args in
    c.each_ok.ensures ∙ all_join (home_at a.home.now a.list.now a.b) 0 a.n a.n (all_none _) (omega arith)

pub loop-k-init : goal.loop-k-init
loop-k-init c = all_none _

pub returns-then-not-stretch_ok : goal.returns-then-not-stretch_ok
returns-then-not-stretch_ok c =
    let a = c.args in
    let k = c.loop-k.k in
    let p = home_at a.home.now a.list.now a.b in
    sym (all-cut p (64 * (k + 1)) a.n (omega arith) (sym (all_join p (64 * k) 64 (64 * (k + 1)) c.loop-k.invariant (omega arith)) ∙ sym c.stretch_ok.ensures ∙ c.if-not-stretch_ok.true))

pub loop-k-preserved : goal.loop-k-preserved
loop-k-preserved c =
    let a = c.args in
    let k = c.loop-k.k in
    sym (all_join (home_at a.home.now a.list.now a.b) (64 * k) 64 (64 * (k + 1)) c.loop-k.invariant (omega arith)) ∙ sym c.stretch_ok.ensures ∙ c.if-not-stretch_ok.false

pub returns : goal.returns
returns c =
    let a = c.args in
    let e : 64 * c.loop-k.k ≡ a.n - a.n % 64 = omega arith in
    let so_far : homed a.home.now a.list.now a.b (a.n - a.n % 64) ≡ true = ap (homed a.home.now a.list.now a.b) (sym e) ∙ c.loop-k.invariant in
    c.rest_ok.ensures ∙ all_join (home_at a.home.now a.list.now a.b) (a.n - a.n % 64) (a.n % 64) a.n so_far (omega arith)
