-- Two runs that change places by way of a copy.
use Prim.Native.Nat.{ℕ, ◌+◌, ◌-◌, ◌≤◌}
use mathlib.Core.Path.{◌≡◌, ap, ◌∙◌}
use mathlib.Core.List.{List, ◌++◌, append_assoc}
use native.Mathlib.Omega.{arith}
use lib.ListN.{length, take, drop, length-append, length-drop}
use lib.Seq.{take_at, length-take-le}
use Rattle.octets.specs.Emit.{put}
use Rattle.octets.proofs.Put.{put_is, put-put}
use Rattle.chain.specs.Chain.{swapped}

-- two runs copied out in the other order, and copied back as one
pub swap_law : (l s : List ℕ) (p q e : ℕ) → p ≤ q → q ≤ e → e ≤ length l → e - p ≤ length s
    → put l p (take (e - p) (drop 0 (put (put s 0 (take (e - q) (drop q l))) (e - q) (take (q - p) (drop p l))))) ≡ swapped l p q e
swap_law l s p q e hp hq he hs =
    let a : List ℕ = take (e - q) (drop q l) in
    let b : List ℕ = take (q - p) (drop p l) in
    let la : length a ≡ e - q = length-take-le (e - q) (drop q l) (simp length-drop (omega arith)) in
    let lb : length b ≡ q - p = length-take-le (q - p) (drop p l) (simp length-drop (omega arith)) in
    let lab : length (a ++ b) ≡ e - p = simp length-append (omega arith) in
    let e₀ : e - q ≡ 0 + length a = omega arith in
    let both : put (put s 0 a) (e - q) b ≡ (a ++ b) ++ drop (0 + length (a ++ b)) s =
    ap (λ (k : ℕ). put (put s 0 a) k b) e₀ ∙ put-put s 0 a b ∙ put_is s 0 (a ++ b) (omega arith) in
    let cut : take (e - p) (put (put s 0 a) (e - q) b) ≡ a ++ b =
    rw both (take_at (a ++ b) (drop (0 + length (a ++ b)) s) (e - p) lab) in
    let end : p + length (a ++ b) ≡ e = omega arith in
    ap (put l p) cut ∙ put_is l p (a ++ b) (omega arith) ∙ rw end (simp append_assoc)
