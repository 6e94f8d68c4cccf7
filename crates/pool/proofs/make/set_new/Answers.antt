use Prim.Native.Nat.{ℕ}
use mathlib.Core.Path.{◌≡◌, ap, ◌∙◌}
use mathlib.Core.List.{List}
use native.Mathlib.Omega.{arith}
use borrow.Rule.Slice.PartMut.{put_mid}
use lib.ListN.{length, set, take, drop, replicate, length-drop, length-replicate}
use lib.Seq.{length-take-le}
use Rattle.octets.specs.Emit.{put}
use Rattle.octets.proofs.Put.{put_part}
use Rattle.pool.proofs.make.set_new.Goals as goal

pub returns : goal.returns
returns c =
    let a = c.args in
    let long : length (take 35 (drop 5 a.words.now)) ≡ 35 = length-take-le 35 (drop 5 a.words.now) (simp length-drop (omega arith)) in
    let zeros : c.fill.new.self ≡ replicate {A = ℕ} 35 0 = c.fill.ensures.after (λ y e. e) ∙ ap (λ (k : ℕ). replicate {A = ℕ} k 0) long in
    let whole : put_mid 5 35 a.words.now c.fill.new.self ≡ put a.words.now 5 (replicate 35 0) = rw zeros (put_part a.words.now (replicate 35 0) 5 35 (length-replicate {A = ℕ} 35 0) (omega arith)) in
    ap (λ (x : List ℕ). set (set (set (set (set x 0 a.kind) 1 a.n) 2 a.b) 3 a.r) 4 a.c) whole
