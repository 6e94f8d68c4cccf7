use Prim.Native.Nat.{ℕ}
use mathlib.Core.Path.{sym, ap, ◌∙◌}
use mathlib.Core.List.{List}
use lib.ListN.{set}
use Rattle.octets.proofs.Put.{put_nil}
use Rattle.pool.specs.View.{tab}
use Rattle.pool.proofs.Tab.{put-tab}
use Rattle.pool.proofs.make.in_order.Goals as goal

pub loop-i-init : goal.loop-i-init
unfolding tab
loop-i-init c = sym (put_nil c.args.list.now 0)

pub loop-i-preserved : goal.loop-i-preserved
loop-i-preserved c = ap (λ (x : List ℕ). set x c.loop-i.i c.loop-i.i) c.loop-i.invariant ∙ put-tab (λ j. j) c.args.list.now c.loop-i.i
