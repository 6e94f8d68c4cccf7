use native.Mathlib.Numerals.{add-one}
use Prim.Native.Nat.{◌<◌}
use borrow.Author.Rules.{rules}
use lib.ListN.{length}
use lib.Seq.{take-suc, take_all}
use Rattle.octets.specs.Text.{each}
use Rattle.octets.proofs.Emits.{nothing, then}
use Rattle.octets.proofs.Digits.{each_snoc}
use Rattle.octets.proofs.text.put_hex.Goals as goal

pub loop-x-init : goal.loop-x-init
unfolding each
loop-x-init c = (search rules, search rules, nothing _ _ (search rules) (search rules))

pub loop-x-preserved : goal.loop-x-preserved
loop-x-preserved c =
    let l = c in let s = l.args.s.now in
    let h : l.loop-x.x-index < length s = search rules in
    (search rules, search rules, rw (add-one, take-suc s l.loop-x.x-index 0, each_snoc) (then l.loop-x.invariant.2 c.put_hex_octet-next.ensures))

pub returns : goal.returns
returns c = rw (take_all c.loop-x.x-index c.args.s.now (search rules)) at c.loop-x.invariant.2
