use Prim.Native.Nat.{◌<◌}
use mathlib.Core.Path.{◌≡◌}
use native.Mathlib.Omega.{arith}
use lib.ListN.{length, get_or, take}
use lib.Seq.{get_or-take, length-take-le}
use Rattle.chain.proofs.Flat.{below}
use Rattle.chain.proofs.Home.{rehomed}
use Rattle.chain.proofs.rehome.Goals.{In-loop-i}
use Rattle.chain.proofs.rehome.Goals as goal

low : (c : In-loop-i) → get_or c.args.list.now c.loop-i.i 0 < c.args.b
low c =
    let a = c.args in
    let ln : length (take a.n a.list.now) ≡ a.n = length-take-le a.n a.list.now (omega arith) in
    rw (get_or-take a.n a.list.now c.loop-i.i 0 (omega arith)) at (below a.b (take a.n a.list.now) c.loop-i.i c.requires.4 (omega arith))

pub bounds-home-list : goal.bounds-home-list
bounds-home-list c = omega (arith, low (goal.at.bounds-home-list c).In-loop-i)

pub loop-i-preserved : goal.loop-i-preserved
loop-i-preserved c =
    let a = c.args in
    rehomed c.loop-i.home a.list.now a.b a.n c.loop-i.i c.requires.4 (omega arith) (omega arith) (low (goal.at.loop-i-preserved c).In-loop-i) (omega arith) c.loop-i.invariant
