use Prim.Native.Nat.{ℕ, ◌+◌, ◌-◌}
use mathlib.Core.Path.{◌≡◌, sym, ap, ◌∙◌}
use mathlib.Core.Bool.{true}
use mathlib.Core.List.{List, ◌++◌}
use native.Mathlib.Omega.{arith}
use lib.ListN.{length, take, drop}
use Rattle.chain.specs.Chain.{swapped, chain_ok}
use Rattle.chain.proofs.Home.{homed-chain}
use Rattle.chain.proofs.Moves.{still, before, inserted, at-end}
use Rattle.chain.proofs.insert.Goals as goal

pub rehome-requires : goal.rehome-requires
rehome-requires c =
    let a = c.args in
    let pre = c.requires in
    let l = c.more.new.list in
    let h = c.more.new.home in
    let l' = c.swap_runs.new.list in
    let e : l' ≡ swapped l a.p a.n (a.n + a.m) = c.swap_runs.ensures in
    let ln : length l' ≡ length l = c.swap_runs.auto.list in
    let l0 : length l ≡ length a.list.now = c.more.auto.list in
    let h0 : length h ≡ length a.home.now = c.more.auto.home in
    let ch : chain_ok a.b (take (a.n + a.m) l) ≡ true = homed-chain h l a.b (a.n + a.m) c.more.ensures.1 (omega (arith, pre)) in
    (omega (arith, pre), omega (arith, pre, ln), omega (arith, pre), omega (arith, pre, h0), rw e (still l a.p a.n (a.n + a.m) pre.0 (omega arith) (omega (arith, pre)) a.b ch), rw e (before l a.p a.n (a.n + a.m) pre.0 (omega arith) (omega (arith, pre)) h a.b c.more.ensures.1))

pub returns-then-p-n : goal.returns-then-p-n
returns-then-p-n c =
    let a = c.args in
    let pre = c.requires in
    let l = c.more.new.list in
    let l0 : length l ≡ length a.list.now = c.more.auto.list in
    let e : c.swap_runs.new.list ≡ swapped l a.p a.n (a.n + a.m) = c.swap_runs.ensures in (
      ap (take (a.n + a.m)) e ∙ inserted a.list.now l a.n a.p a.m pre.0 (omega (arith, pre)) c.more.ensures.0
          ∙ ap (λ (x : List ℕ). take a.p a.list.now ++ (take a.m (drop a.p x) ++ take (a.n - a.p) (drop a.p a.list.now))) (sym e),
      c.rehome.ensures,
    )

pub returns-else-p-n : goal.returns-else-p-n
returns-else-p-n c =
    let a = c.args in
    let e : a.p ≡ a.n = omega arith in
    (at-end a.list.now c.more.new.list a.n a.p a.m e c.more.ensures.0, c.more.ensures.1)
