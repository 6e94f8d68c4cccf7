use Prim.Native.Nat.{◌-◌}
use mathlib.Core.Path.{◌≡◌, ap, ◌∙◌}
use mathlib.Core.Bool.{true}
use native.Mathlib.Omega.{arith}
use lib.ListN.{length, take}
use Rattle.chain.proofs.Moves.{last-gone}
use Rattle.chain.specs.Chain.{swapped, chain_ok}
use Rattle.chain.proofs.Home.{homed-chain, homed-less}
use Rattle.chain.proofs.Moves.{still, before, gone, chain-less}
use Rattle.chain.proofs.release.Goals as goal

pub rehome-requires : goal.rehome-requires
rehome-requires c =
    let a = c.args in
    let pre = c.requires in
    let l = a.list.now in
    let l' = c.swap_runs.new.list in
    let e : l' ≡ swapped l a.p a.q a.n = c.swap_runs.ensures in
    let ln : length l' ≡ length l = c.swap_runs.auto.list in
    let ch : chain_ok a.b (take a.n l) ≡ true = homed-chain a.home.now l a.b a.n pre.6 (omega (arith, pre)) in
    let k : chain_ok a.b (take a.n l') ≡ true = rw e (still l a.p a.q a.n pre.0 pre.1 (omega (arith, pre)) a.b ch) in
    (omega (arith, pre), omega (arith, pre, ln), omega (arith, pre), omega (arith, pre), chain-less a.b l' a.n (a.n - (a.q - a.p)) (omega arith) k, rw e (before l a.p a.q a.n pre.0 pre.1 (omega (arith, pre)) a.home.now a.b pre.6))

pub returns-then-q-n : goal.returns-then-q-n
returns-then-q-n c =
    let a = c.args in
    let pre = c.requires in
    let l = a.list.now in
    (ap (take (a.n - (a.q - a.p))) c.swap_runs.ensures ∙ gone l a.p a.q a.n pre.0 pre.1 (omega (arith, pre)), c.rehome.ensures)

pub returns-else-q-n : goal.returns-else-q-n
returns-else-q-n c =
    let a = c.args in
    let pre = c.requires in
    let l = a.list.now in
    let e : a.q ≡ a.n = omega (arith, pre) in
    (last-gone l a.n a.p a.q pre.0 e, homed-less a.home.now l a.b a.n (a.n - (a.q - a.p)) pre.6 (omega arith))
