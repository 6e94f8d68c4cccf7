-- The laws of `put`, which says what a copy and an emitter leave.
use mathlib.Core.Path.{◌≡◌, refl, sym, ap, ◌∙◌}
use mathlib.Core.Logic.{◌⊎◌, inl, inr}
use mathlib.Core.List.{List, [], ◌∷◌, ◌++◌, append_assoc}
use Prim.Native.Nat.{ℕ, zero, suc, ◌+◌, ◌≤◌, ◌<◌}
use native.Mathlib.Nat.{add-zero, add-suc, suc-add}
use native.Mathlib.Numerals.{add-one}
use native.Mathlib.Omega.{arith}
use lib.ListN.{length, get_or, set, take, drop, length-drop, length-set}
use borrow.Rule.Slice.PartMut.{put_mid}
use lib.Seq.{drop-drop, get_or-set_same, get_or-set_other, sets, sets-eq, length-sets, set_out, take-suc, get_or-drop, length-take-le}
use Rattle.octets.specs.Emit.{put}

module _ {A : Type 0} where
  pub put_nil : (d : List A) (at : ℕ) → put d at [] ≡ d
  unfolding put
  put_nil d at = refl

  pub put_one : (d : List A) (at : ℕ) (x : A) → put d at (x ∷ []) ≡ set d at x
  unfolding put
  put_one d at x = refl

  pub length-put : (d : List A) (at : ℕ) (s : List A) → length (put d at s) ≡ length d
  unfolding put
  length-put d at s = length-sets d at s

  -- what fits is written whole, and nothing else changes
  pub put-fits : (d : List A) (at : ℕ) (s : List A) → at + length s ≤ length d → put d at s ≡ take at d ++ s ++ drop (at + length s) d
  unfolding put
  put-fits d at s h = sets-eq s d at h

  -- the same, with the brackets to the right
  pub put_is : (d : List A) (at : ℕ) (s : List A) → at + length s ≤ length d → put d at s ≡ take at d ++ (s ++ drop (at + length s) d)
  put_is d at s h = put-fits d at s h ∙ append_assoc (take at d) s (drop (at + length s) d)

  -- a write to a part of a slice
  pub put_part : (d s : List A) (at k : ℕ) → length s ≡ k → at + k ≤ length d → put_mid at k d s ≡ put d at s
  put_part d s at k l h =
      let e : at + length s ≡ at + k = omega arith in
      ap (λ (z : List A). take at d ++ (s ++ z)) (drop-drop k at d ∙ sym (ap (λ (n : ℕ). drop n d) e)) ∙ sym (put_is d at s (omega arith))

  sets-past : (s d : List A) (at : ℕ) → length d ≤ at → sets d at s ≡ d
  sets-past [] d at h = refl
  sets-past (x ∷ s) d at h = rw (set_out d at x h) (sets-past s d (suc at) (omega arith))

  -- past the end nothing is written
  pub put-past : (d : List A) (at : ℕ) (s : List A) → length d ≤ at → put d at s ≡ d
  unfolding put
  put-past d at s h = sets-past s d at h

  sets-append : (s t d : List A) (at : ℕ) → sets (sets d at s) (at + length s) t ≡ sets d at (s ++ t)
  sets-append [] t d at = rw add-zero
  sets-append (x ∷ s) t d at = rw (add-suc, ← suc-add) (sets-append s t (set d at x) (suc at))

  -- more, right behind what was written
  pub put-put : (d : List A) (at : ℕ) (s t : List A) → put (put d at s) (at + length s) t ≡ put d at (s ++ t)
  unfolding put
  put-put d at s t = sets-append s t d at

  -- a turn of a copying loop: one element more
  pub put_next : (d s : List A) (at j : ℕ) (z : A) → j < length s → set (put d at (take j s)) (at + j) (get_or s j z) ≡ put d at (take (j + 1) s)
  put_next d s at j z h =
      let long : length (take j s) ≡ j = length-take-le j s (omega arith) in
      sym (put_one (put d at (take j s)) (at + j) (get_or s j z))
      ∙ ap (λ (k : ℕ). put (put d at (take j s)) (at + k) (get_or s j z ∷ [])) (sym long)
      ∙ put-put d at (take j s) (get_or s j z ∷ [])
      ∙ ap (put d at) (sym (take-suc s j z h) ∙ ap (λ (k : ℕ). take k s) (sym (add-one j)))

  -- the same where the source is read from a place on
  pub put-next-from : (d s : List A) (at from j : ℕ) (z : A) → from + j < length s
      → set (put d at (take j (drop from s))) (at + j) (get_or s (from + j) z) ≡ put d at (take (j + 1) (drop from s))
  put-next-from d s at from j z h =
      let inside : j < length (drop from s) = simp length-drop (omega arith) in
      ap (set (put d at (take j (drop from s))) (at + j)) (sym (get_or-drop from s j z)) ∙ put_next d (drop from s) at j z inside

  -- an entry that is not written over, and one that is
  pub put_other : (s d : List A) (at i : ℕ) (z : A) → (i < at) ⊎ (at + length s ≤ i) → get_or (put d at s) i z ≡ get_or d i z
  unfolding put
  put_other [] d at i z h = refl
  put_other (x ∷ s) d at i z (inl h) = put_other s (set d at x) (suc at) i z (inl (omega arith)) ∙ get_or-set_other d at i x z (λ e. omega (arith, e))
  put_other (x ∷ s) d at i z (inr h) = put_other s (set d at x) (suc at) i z (inr (omega arith)) ∙ get_or-set_other d at i x z (λ e. omega (arith, e))

  pub put_same : (s d : List A) (at k : ℕ) (z : A) → k < length s → at + length s ≤ length d → get_or (put d at s) (at + k) z ≡ get_or s k z
  unfolding put
  put_same [] d at k z h f = absurd (omega arith)
  put_same (x ∷ s) d at zero z h f =
      ap (λ (i : ℕ). get_or (put d at (x ∷ s)) i z) (add-zero at) ∙ put_other s (set d at x) (suc at) at z (inl (omega arith)) ∙ get_or-set_same d at x z (omega arith)
  put_same (x ∷ s) d at (suc k) z h f =
      let e : at + suc k ≡ suc at + k = omega arith in
      ap (λ (i : ℕ). get_or (put d at (x ∷ s)) i z) e ∙ put_same s (set d at x) (suc at) k z (omega arith) (omega (arith, length-set d at x))
