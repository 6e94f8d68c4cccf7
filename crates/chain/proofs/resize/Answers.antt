use Rattle.chain.proofs.Spliced.{resized_same, resized_more, resized_less}
use Rattle.chain.specs.Chain.{homed}
use native.Mathlib.Omega.{arith}
use mathlib.Core.Path.{◌≡◌, ap, ◌∙◌}
use Prim.Native.Nat.{◌+◌, ◌-◌}
use Rattle.chain.proofs.resize.Goals as goal

pub returns-then-k-n : goal.returns-then-k-n
returns-then-k-n c =
    let a = c.args in
    let pre = c.requires in
    let x : a.m + a.n - a.k ≡ a.m = omega (arith, c.if-k-n.true) in
    record {
      homed = ap (homed a.home.now a.list.now a.b) x ∙ pre.6;
      resized = resized_same a.list.now a.m a.a a.k a.n c.if-k-n.true pre.0;
    }

pub returns-then-k-n-2 : goal.returns-then-k-n-2
returns-then-k-n-2 c =
    let a = c.args in
    let pre = c.requires in
    let x : a.m + a.n - a.k ≡ a.m + (a.n - a.k) = omega (arith, c.if-k-n-2.true) in
    record {
      homed = ap (homed c.insert.new.home c.insert.new.list a.b) x ∙ c.insert.ensures.1;
      resized = resized_more a.list.now c.insert.new.list a.m a.a a.k a.n c.if-k-n-2.true pre.0 (omega (arith, pre, c.insert.auto.list)) c.insert.ensures.0;
    }

pub returns-else-k-n-2 : goal.returns-else-k-n-2
returns-else-k-n-2 c =
    let a = c.args in
    let pre = c.requires in
    let x : a.m + a.n - a.k ≡ a.m - (a.a + a.k - (a.a + a.n)) = omega (arith, c.if-k-n-2.false, pre) in
    record {
      homed = ap (homed c.release.new.home c.release.new.list a.b) x ∙ c.release.ensures.1;
      resized = resized_less a.list.now c.release.new.list a.m a.a a.k a.n c.if-k-n-2.false pre.0 c.release.ensures.0;
    }
