-- A window of octets, where others are written over some of them.
use Prim.Native.Nat.{ℕ, ◌+◌, ◌-◌, ◌≤◌}
use mathlib.Core.Path.{◌≡◌, refl, sym, ap, ap₂, ◌∙◌}
use mathlib.Core.List.{List, ◌++◌}
use native.Mathlib.Omega.{arith}
use lib.ListN.{length, take, drop, length-drop}
use lib.Seq.{take-take, drop-drop, drop-append-le, take-append-add, length-take-le}
use Rattle.octets.specs.Emit.{put}
use Rattle.octets.proofs.Put.{put_is}
use Rattle.chain.proofs.Moves.{take-drop}
use Rattle.chain.proofs.Spliced.{put_front, put-behind}

module _ (f : List ℕ) (v : ℕ) (s : List ℕ) (fits : v + length s ≤ length f) where
  -- one that ends before them, and one that begins behind
  pub window_before : (o n : ℕ) → o + n ≤ v → take n (drop o (put f v s)) ≡ take n (drop o f)
  window_before o n h = sym (take-drop o n (put f v s)) ∙ ap (drop o) (put_front f v s fits (o + n) h) ∙ take-drop o n f

  pub window_behind : (o n : ℕ) → v + length s ≤ o → take n (drop o (put f v s)) ≡ take n (drop o f)
  window_behind o n h = ap (take n) (put-behind f v s fits o h)

  -- one that has them all
  pub window_over : (o n : ℕ) → o ≤ v → v + length s ≤ o + n → o + n ≤ length f → take n (drop o (put f v s)) ≡ put (take n (drop o f)) (v - o) s
  window_over o n ho hv hn =
      let x : List ℕ = take n (drop o f) in
      let lx : length x ≡ n = length-take-le n (drop o f) (simp length-drop (omega arith)) in
      let lv : length (take v f) ≡ v = length-take-le v f (omega arith) in
      let a : List ℕ = take (v - o) (drop o f) in
      let la : length a ≡ v - o = length-take-le (v - o) (drop o f) (simp length-drop (omega arith)) in
      let cut : drop o (take v f) ≡ a = let e : o + (v - o) ≡ v = omega arith in ap (λ (k : ℕ). drop o (take k f)) (sym e) ∙ take-drop o (v - o) f in
      let q : ℕ = n - (v - o) - length s in
      let left : take n (drop o (put f v s)) ≡ a ++ (s ++ take q (drop (v + length s) f)) =
      ap (λ (y : List ℕ). take n (drop o y)) (put_is f v s fits)
      ∙ ap (take n) (drop-append-le o (take v f) (s ++ drop (v + length s) f) (omega (arith, lv)))
      ∙ ap (λ (y : List ℕ). take n (y ++ (s ++ drop (v + length s) f))) cut
      ∙ take_past a (s ++ drop (v + length s) f) (v - o) n la (omega arith)
      ∙ ap (λ (y : List ℕ). a ++ y) (take_past s (drop (v + length s) f) (length s) (n - (v - o)) refl (omega arith)) in
      let e : o + (v - o + length s) ≡ v + length s = omega arith in
      let m : v - o + length s + q ≡ n = omega arith in
      let front : take (v - o) x ≡ a = take-take (v - o) n (drop o f) (omega arith) in
      let rest : drop (v - o + length s) x ≡ take q (drop (v + length s) f) =
      ap (λ (k : ℕ). drop (v - o + length s) (take k (drop o f))) (sym m) ∙ take-drop (v - o + length s) q (drop o f)
      ∙ ap (take q) (drop-drop (v - o + length s) o f ∙ ap (λ (k : ℕ). drop k f) e) in
      left ∙ sym (put_is x (v - o) s (omega (arith, lx)) ∙ ap₂ (λ (y z : List ℕ). y ++ (s ++ z)) front rest)
    where
      take_past : (x y : List ℕ) (k n : ℕ) → length x ≡ k → k ≤ n → take n (x ++ y) ≡ x ++ take (n - k) y
      take_past x y k n e h = let m : n ≡ length x + (n - k) = omega (arith, e) in ap (λ (i : ℕ). take i (x ++ y)) m ∙ take-append-add x y (n - k)
