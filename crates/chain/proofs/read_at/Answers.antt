use Prim.Native.Nat.{ℕ, ◌+◌, ◌*◌}
use mathlib.Core.Path.{◌≡◌, sym, ap, ◌∙◌}
use mathlib.Core.List.{List}
use native.Mathlib.Omega.{arith}
use lib.ListN.{length, take, drop, length-drop}
use lib.Seq.{drop-drop, length-take-le}
use Rattle.octets.specs.Emit.{put}
use Rattle.chain.specs.Chain.{flat, Stretch}
use Rattle.octets.proofs.Put.{put_nil}
use Rattle.chain.proofs.Flat.{put_more, length-flat}
use Rattle.chain.proofs.read_at.Goals as goal

pub loop-done-init : goal.loop-done-init
loop-done-init c = (omega arith, sym (put_nil c.args.out.now c.args.at))

pub loop-done-preserved : goal.loop-done-preserved
loop-done-preserved c =
    let a = c.args in
    let l = take a.n a.list.now in
    let done = c.loop-done.done in
    let part = c.stretch-from.result.1 in
    let f = flat a.blocks.now l in
    let s : Stretch a.b l (a.v + done) c.stretch-from.result.0 part = c.stretch-from.ensures.stretch a.b a.n c.requires.1 c.requires.2 (omega arith) in
    let ln : length l ≡ a.n = length-take-le a.n a.list.now c.requires.1 in
    let lf : length f ≡ 64 * a.n = length-flat a.b a.blocks.now l c.requires.3 c.requires.2 ∙ ap (λ (k : ℕ). 64 * k) ln in (
      omega (arith, c.stretch-from.ensures.some),
      c.copy.ensures
          ∙ ap (λ (x : List ℕ). put c.loop-done.out (a.at + done) x) (sym (s.reads a.blocks.now c.requires.3) ∙ ap (take part) (sym (drop-drop done a.v f)))
          ∙ ap (λ (x : List ℕ). put x (a.at + done) (take part (drop done (drop a.v f)))) c.loop-done.invariant.1
          ∙ put_more a.out.now (drop a.v f) a.at done part (simp length-drop (omega arith)),
    )
