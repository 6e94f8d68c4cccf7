use Prim.Native.Nat.{ℕ, ◌+◌}
use mathlib.Core.Path.{◌≡◌, refl, sym, ap, ◌∙◌}
use mathlib.Core.Bool.{true}
use mathlib.Core.List.{List}
use native.Mathlib.Omega.{arith}
use lib.ListN.{get_or, set, take}
use lib.Seq.{set-get_or, take-set-le}
use Rattle.chain.specs.Chain.{homed}
use Rattle.chain.proofs.Home.{free, took, used_one, all_used}
use Rattle.chain.proofs.one_more.Goals as goal

pub returns-then-not-in_use : goal.returns-then-not-in_use
returns-then-not-in_use c =
    let a = c.args in
    let l = a.list.now in
    let h = a.home.now in
    let x = get_or l a.n 0 in
    let f = free h l a.b a.n x c.requires.4 (sym c.in_use.ensures ∙ c.if-not-in_use.true) in
    let t : homed (set h x a.n) (set l a.n x) a.b (a.n + 1) ≡ true = took h l a.b a.n x c.requires.4 (omega arith) (omega arith) (omega arith) f in
    (refl, ap (λ (k : List ℕ). homed (set h x a.n) k a.b (a.n + 1)) (sym (set-get_or l a.n 0)) ∙ t)

pub returns-then-not-in_use-2 : goal.returns-then-not-in_use-2
returns-then-not-in_use-2 c =
    let a = c.args in
    let l = c.loop-x.list in
    let h = c.loop-x.home in
    let x = c.loop-x.x in
    let ok : homed h l a.b a.n ≡ true = rw (c.loop-x.invariant.0, c.loop-x.invariant.1) c.requires.4 in
    let f = free h l a.b a.n x ok (sym c.in_use-in-loop-x.ensures ∙ c.if-not-in_use-2.true) in
    (take-set-le a.n l a.n x (omega arith) ∙ ap (take a.n) c.loop-x.invariant.0, took h l a.b a.n x ok (omega arith) (omega arith) (omega arith) f)

pub loop-x-preserved : goal.loop-x-preserved
loop-x-preserved c =
    (c.loop-x.invariant.0, c.loop-x.invariant.1, used_one c.loop-x.home c.loop-x.list c.args.n c.loop-x.x (sym c.in_use-in-loop-x.ensures ∙ c.if-not-in_use-2.false) (omega arith) c.loop-x.invariant.2)

pub returns : goal.returns
returns c =
    let a = c.args in
    let e : c.loop-x.x ≡ a.b = omega arith in
    absurd (all_used c.loop-x.list a.b a.n (omega arith) (omega arith) (rw e at c.loop-x.invariant.2))
