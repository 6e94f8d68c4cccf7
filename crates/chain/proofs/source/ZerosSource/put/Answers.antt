use Prim.Native.Nat.{ℕ, ◌+◌, ◌-◌, ◌≤◌}
use mathlib.Core.Path.{◌≡◌, sym, ap, ◌∙◌}
use native.Mathlib.Omega.{arith}
use lib.ListN.{length, take, drop, replicate, length-drop, length-replicate}
use lib.Seq.{length-take-le}
use Rattle.octets.specs.Emit.{put}
use Rattle.octets.proofs.Put.{put_part}
use Rattle.chain.proofs.Zeros.{part_zeros}
use Rattle.chain.proofs.source.ZerosSource.put.Goals as goal

pub returns : goal.returns
returns c =
    let a = c.args in
    let long : length (take (a.at + a.n - a.at) (drop a.at a.dst.now)) ≡ a.n = length-take-le (a.at + a.n - a.at) (drop a.at a.dst.now) (simp length-drop (omega arith)) ∙ omega arith in
    let zeros : c.fill.new.self ≡ replicate {A = ℕ} a.n 0 = c.fill.ensures.after (λ y e. e) ∙ ap (λ (k : ℕ). replicate {A = ℕ} k 0) long in
    let inside : a._from + a.n ≤ a.self.now.0 = omega (arith, length-replicate {A = ℕ} a.self.now.0 0) in
    let many : length (replicate {A = ℕ} a.n 0) ≡ a.at + a.n - a.at = length-replicate {A = ℕ} a.n 0 ∙ omega arith in
    rw zeros (put_part a.dst.now (replicate a.n 0) a.at (a.at + a.n - a.at) many (omega arith) ∙ ap (put a.dst.now a.at) (sym (part_zeros a.self.now.0 a._from a.n inside)))
