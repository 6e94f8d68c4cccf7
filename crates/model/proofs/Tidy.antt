-- Laws for tidying and closing.
use mathlib.Core.Path.{◌≡◌, refl, sym, ap}
use mathlib.Core.Logic.{inl, inr, ◌≢◌}
use mathlib.Core.List.{[], ◌∷◌}
use mathlib.Core.Bool.{Bool, cond}
use Prim.Native.Nat.{ℕ, ◌<◌}
use native.Mathlib.Omega.{arith}
use lib.ListN.{length, get_or, set}
use lib.Seq.{get_or-set_same, get_or-set_other, set-set, set_comm}
use lib.Dec.{T}
use lib.Ieee.{Float, le}
use lib.Ieee.Scale.{finite}
use borrow.Author.Tests.{lt-ltb}
use Rattle.clock.specs.Time.{fresh_t}
use Rattle.clock.proofs.Mono.{stale_later}
use Rattle.model.specs.Kind.{Kind}
use Rattle.model.specs.Store.{Settings, Units, Links, keep, tidy, close, answered, step}
use Rattle.model.proofs.Keys.{either}

module _ (Z : Kind) where
  -- expiry at a finite time and then at a later or equal finite one is the second alone
  pub keep-keep : (x y : Float) → T (finite x) → T (finite y) → T (le x y) → (us : Units Z) → keep Z y (keep Z x us) ≡ keep Z y us
  keep-keep x y p q h [] = refl
  keep-keep x y p q h (u ∷ us) =
      let ih = keep-keep x y p q h us in
      elim (either (fresh_t x (Z.time u.it))) [
        | inl f ↦ elim (either (fresh_t y (Z.time u.it))) [ inl g ↦ rw (f, g) (ap (λ (l : Units Z). u ∷ l) ih) | inr g ↦ rw (f, g) ih ]
        | inr f ↦ rw (f, stale_later x y (Z.time u.it) p q h f) ih
      ]

  -- the store after a tidy, and after a close
  unfoldable pub tidied : Settings → Links Z → ℕ → Float → Links Z
  tidied s st l now = (step Z s st (tidy l now)).store

  unfoldable pub closed : Settings → Links Z → ℕ → Links Z
  closed s st l = (step Z s st (close l)).store

  is-tidied : (s : Settings) (st : Links Z) (l : ℕ) (now : Float) → l < s.links → tidied s st l now ≡ set st l (keep Z now (get_or st l []))
  unfolding step tidied
  is-tidied s st l now h = ap (λ (b : Bool). (cond b (answered Z 16 (set st l (keep Z now (get_or st l [])))) (answered Z 5 st)).store) (lt-ltb l s.links h)

  is-closed : (s : Settings) (st : Links Z) (l : ℕ) → l < s.links → closed s st l ≡ set st l []
  unfolding step closed
  is-closed s st l h = ap (λ (b : Bool). (cond b (answered Z 16 (set st l [])) (answered Z 5 st)).store) (lt-ltb l s.links h)

  pub tidy-tidy : (s : Settings) (st : Links Z) (l : ℕ) (x y : Float) → length st ≡ s.links → l < s.links → T (finite x) → T (finite y) → T (le x y)
      → tidied s (tidied s st l x) l y ≡ tidied s st l y
  tidy-tidy s st l x y n h p q o =
      rw (is-tidied s (tidied s st l x) l y h, is-tidied s st l x h, is-tidied s st l y h, get_or-set_same st l (keep Z x (get_or st l [])) [] (omega arith), set-set, keep-keep x y p q o)

  -- two different links, in either order
  module _ (s : Settings) (st : Links Z) (i j : ℕ) (hi : i < s.links) (hj : j < s.links) (n : i ≢ j) where
    n' : j ≢ i
    n' e = n (sym e)

    pub tidy_comm : (x y : Float) → tidied s (tidied s st i x) j y ≡ tidied s (tidied s st j y) i x
    tidy_comm x y =
        rw (is-tidied s (tidied s st i x) j y hj, is-tidied s (tidied s st j y) i x hi, is-tidied s st i x hi, is-tidied s st j y hj, get_or-set_other st i j (keep Z x (get_or st i [])) [] n', get_or-set_other st j i (keep Z y (get_or st j [])) [] n)
        (set_comm st i j (keep Z x (get_or st i [])) (keep Z y (get_or st j [])) n)

    pub close_comm : closed s (closed s st i) j ≡ closed s (closed s st j) i
    close_comm = rw (is-closed s (closed s st i) j hj, is-closed s (closed s st j) i hi, is-closed s st i hi, is-closed s st j hj) (set_comm st i j [] [] n)

    pub tidy-close_comm : (x : Float) → closed s (tidied s st i x) j ≡ tidied s (closed s st j) i x
    tidy-close_comm x =
        rw (is-closed s (tidied s st i x) j hj, is-tidied s (closed s st j) i x hi, is-tidied s st i x hi, is-closed s st j hj, get_or-set_other st j i [] [] n)
        (set_comm st i j (keep Z x (get_or st i [])) [] n)
