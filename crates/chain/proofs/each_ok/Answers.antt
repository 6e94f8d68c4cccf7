use Prim.Native.Nat.{◌+◌}
use mathlib.Core.Path.{sym}
use native.Mathlib.Omega.{arith}
use borrow.Author.Tests.{le-ltb, lt-ltb, ne_eqb, eq-eqb}
use lib.ListN.{get_or}
use lib.Dec.{ltb}
use Rattle.chain.specs.Chain.{home_at}
use Rattle.octets.proofs.Tests.{all_none, all_more, all-fails, and_false}
use Rattle.chain.proofs.each_ok.Goals.{then-b-x-via-then-b-x, then-b-x-via-else-b-x+then-home-x}
use Rattle.chain.proofs.each_ok.Goals as goal

pub loop-t-init : goal.loop-t-init
loop-t-init c = all_none _

pub returns-then-b-x : goal.returns-then-b-x
returns-then-b-x c =
    let a = c.args in
    let t = c.loop-t.t in
    let x = get_or a.list.now (a.i + t) 0 in
    let fail = all-fails (λ k. home_at a.home.now a.list.now a.b (a.i + k)) t a.m (omega arith) in
    elim c.then-b-x.branch [
      | then-b-x-via-then-b-x w ↦ sym (fail (rw (le-ltb x a.b (omega arith))))
      | then-b-x-via-else-b-x+then-home-x w ↦ sym (fail (rw (ne_eqb (get_or a.home.now x 0) (a.i + t) w.if-home-x.true) (and_false (ltb x a.b))))
    ]

pub loop-t-preserved : goal.loop-t-preserved
loop-t-preserved c =
    let a = c.args in
    let t = c.loop-t.t in
    let x = get_or a.list.now (a.i + t) 0 in
    all_more (λ k. home_at a.home.now a.list.now a.b (a.i + k)) t c.loop-t.invariant (rw (lt-ltb x a.b (omega arith), eq-eqb (get_or a.home.now x 0) (a.i + t) (omega arith)))
