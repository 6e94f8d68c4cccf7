use native.Mathlib.Numerals.{add-one}
use Prim.Native.Nat.{◌<◌}
use borrow.Author.Rules.{rules}
use lib.ListN.{length}
use lib.Seq.{take-suc, take_all}
use Rattle.octets.proofs.Emits.{nothing, then}
use Rattle.octets.proofs.emit.put_each.Goals as goal

pub loop-x-init : goal.loop-x-init
loop-x-init g c = (search rules, search rules, nothing _ _ (search rules) (search rules))

pub loop-x-preserved : goal.loop-x-preserved
loop-x-preserved g c =
    let s = c.args.s.now in
    let h : c.loop-x.x-index < length s = search rules in
    (search rules, search rules, rw (add-one, take-suc s c.loop-x.x-index c.x-item.result, ← c.x-item.is) (then c.loop-x.invariant.2 c.put_one-next.ensures))

pub returns : goal.returns
returns g c = rw (take_all c.loop-x.x-index c.args.s.now (search rules)) at c.loop-x.invariant.2
