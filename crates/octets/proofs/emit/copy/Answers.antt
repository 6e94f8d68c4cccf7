use Prim.Native.Nat.{◌+◌}
use mathlib.Core.Path.{refl, sym, ap, ◌∙◌}
use native.Mathlib.Omega.{arith}
use lib.ListN.{set, take, drop, length-set}
use Rattle.octets.specs.Emit.{put}
use Rattle.octets.proofs.Put.{put_nil, put-next-from}
use Rattle.octets.proofs.emit.copy.Goals as goal

pub loop-j-init : goal.loop-j-init
loop-j-init g c = (sym (put_nil _ _), refl)

pub loop-j-preserved : goal.loop-j-preserved
loop-j-preserved g c =
    let a = c.args in
    let z = c.index-src-from.result in (
      ap (λ d. set d (a.at + c.loop-j.j) z) c.loop-j.invariant.0
          ∙ ap (set (put a.dst.now a.at (take c.loop-j.j (drop a.from a.src.now))) (a.at + c.loop-j.j)) c.index-src-from.is
          ∙ put-next-from a.dst.now a.src.now a.at a.from c.loop-j.j z (omega arith),
      simp length-set c.loop-j.invariant.1,
    )
