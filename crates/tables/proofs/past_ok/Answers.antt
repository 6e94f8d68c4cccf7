use Prim.Native.Nat.{◌+◌, ◌-◌}
use mathlib.Core.Path.{◌≡◌, sym, ap, ◌∙◌}
use native.Mathlib.Omega.{arith}
use Rattle.octets.specs.Tests.{all}
use Rattle.octets.proofs.Tests.{all_none, all_more, all-fails}
use Rattle.tables.specs.Tables.{idle}
use Rattle.tables.proofs.Sums.{all_join, all-part}
use Rattle.tables.proofs.past_ok.Goals as goal

pub loop-l-init : goal.loop-l-init
loop-l-init c =
    let w = c.args.words.now in
    let n = c.args.n in
    let z : n - n ≡ 0 = omega arith in
    (omega arith, omega arith, ap (all (λ i. idle w (n + i))) z ∙ all_none (λ i. idle w (n + i)))

pub returns-then-not-four_idle : goal.returns-then-not-four_idle
returns-then-not-four_idle c =
    let w = c.args.words.now in
    let n = c.args.n in
    let l = c.loop-l.l in
    sym (all-part (λ i. idle w (n + i)) (λ i. idle w (l + i)) (l - n) 4 (λ i h. ap (idle w) (omega arith)) (16 - n) (omega arith) (sym c.four_idle.ensures ∙ c.if-not-four_idle.true))

pub loop-l-preserved : goal.loop-l-preserved
loop-l-preserved c =
    let w = c.args.words.now in
    let n = c.args.n in
    let l = c.loop-l.l in
    let y : l + 4 - n ≡ l - n + 4 = omega arith in
    (omega arith, omega arith, ap (all (λ i. idle w (n + i))) y ∙ all_join (λ i. idle w (n + i)) (λ i. idle w (l + i)) (l - n) 4 (λ i h. ap (idle w) (omega arith)) c.loop-l.invariant.2 (sym c.four_idle.ensures ∙ c.if-not-four_idle.false))

pub returns-then-not-idle : goal.returns-then-not-idle
returns-then-not-idle c =
    let w = c.args.words.now in
    let n = c.args.n in
    let l = c.loop-i.i in
    let z : n + (l - n) ≡ l = omega arith in
    sym (all-fails (λ i. idle w (n + i)) (l - n) (16 - n) (omega arith) (ap (idle w) z ∙ sym c.idle.ensures ∙ c.if-not-idle.true))

pub loop-i-preserved : goal.loop-i-preserved
loop-i-preserved c =
    let w = c.args.words.now in
    let n = c.args.n in
    let l = c.loop-i.i in
    let z : n + (l - n) ≡ l = omega arith in
    let y : l + 1 - n ≡ l - n + 1 = omega arith in
    ap (all (λ i. idle w (n + i))) y ∙ all_more (λ i. idle w (n + i)) (l - n) c.loop-i.invariant (ap (idle w) z ∙ sym c.idle.ensures ∙ c.if-not-idle.false)
