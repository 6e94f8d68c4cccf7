use Prim.Native.Nat.{ℕ, ◌+◌, ◌≤◌}
use mathlib.Core.Path.{◌≡◌, sym, ap, ◌∙◌}
use mathlib.Core.List.{List}
use native.Mathlib.Omega.{arith}
use lib.ListN.{length, take, drop, length-drop}
use lib.Seq.{length-take-le}
use Rattle.octets.specs.Emit.{put}
use Rattle.chain.specs.Chain.{flat, Stretch}
use Rattle.octets.proofs.Put.{put_nil}
use Rattle.chain.proofs.Flat.{put_more}
use Rattle.chain.proofs.write_at.Goals as goal

pub loop-done-init : goal.loop-done-init
loop-done-init g c = (omega arith, sym (put_nil (flat c.args.blocks.now (take c.args.n c.args.list.now)) c.args.v))

pub loop-done-preserved : goal.loop-done-preserved
loop-done-preserved g c =
    let a = c.args in
    let l = take a.n a.list.now in
    let done = c.loop-done.done in
    let part = c.stretch-at.result.1 in
    let src = g.S.Source.octets a.src in
    let s : Stretch a.b l (a.v + done) c.stretch-at.result.0 part = c.stretch-at.ensures.stretch a.b a.n c.requires.1 c.requires.2 (omega arith) in
    let few : done + part ≤ length src = omega (arith, c.stretch-at.ensures.some) in
    let long : length (take part (drop done src)) ≡ part = length-take-le part (drop done src) (simp length-drop (omega arith)) in (
      few,
      ap (λ (x : List ℕ). flat x l) c.put.ensures
          ∙ s.writes c.loop-done.blocks (take part (drop done src)) (omega arith) long
          ∙ ap (λ (x : List ℕ). put x (a.v + done) (take part (drop done src))) c.loop-done.invariant.1
          ∙ put_more (flat a.blocks.now l) src a.v done part (omega arith),
    )
