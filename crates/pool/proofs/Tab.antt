-- Laws of `tab` over functions that agree.
use Prim.Native.Nat.{ℕ, zero, suc, ◌+◌, ◌<◌}
use mathlib.Core.Path.{◌≡◌, refl, sym, ap, ◌∙◌}
use mathlib.Core.Bool.{Bool, true, false}
use mathlib.Core.List.{List, [], ◌∷◌, ◌++◌}
use native.Mathlib.Omega.{arith}
use lib.Dec.{eqb}
use lib.ListN.{length, get_or, set, length-append}
use lib.ListN.{get_or-append}
use lib.Seq.{get_or_at, set-append_left, set_at}
use borrow.Author.Tests.{eqb-true, eqb-false}
use native.Mathlib.Numerals.{add-one}
use Rattle.octets.specs.Emit.{put}
use Rattle.octets.proofs.Put.{put_one, put-put}
use Rattle.pool.specs.View.{tab}

module _ {A : Type 0} where
  pub tab-same : (f g : ℕ → A) (n : ℕ) → ((i : ℕ) → i < n → f i ≡ g i) → tab f n ≡ tab g n
  unfolding tab
  tab-same f g zero h = refl
  tab-same f g (suc n) h = rw (tab-same f g n (λ i k. h i (omega arith)), h n (omega arith))

  pub length-tab : (f : ℕ → A) (n : ℕ) → length (tab f n) ≡ n
  unfolding tab
  length-tab f zero = refl
  length-tab f (suc n) = length-append (tab f n) (f n ∷ []) ∙ omega (arith, length-tab f n)

  pub set-tab : (f g : ℕ → A) (n l : ℕ) → l < n → ((i : ℕ) → i < n → (i ≡ l → ⊥) → g i ≡ f i) → tab g n ≡ set (tab f n) l (g l)
  unfolding tab
  set-tab f g zero l h s = absurd (omega arith)
  set-tab f g (suc n) l h s = go (λ k. set-tab f g n l k (λ i q. s i (omega arith))) (eqb l n) refl
    where
      go : (l < n → tab g n ≡ set (tab f n) l (g l)) → (t : Bool) → eqb l n ≡ t → tab g n ++ (g n ∷ []) ≡ set (tab f n ++ (f n ∷ [])) l (g l)
      go ih true e =
          let k : l ≡ n = eqb-true l n e in
          let a : tab g n ≡ tab f n = tab-same g f n (λ i q. s i (omega arith) (λ z. omega (arith, k))) in
          rw (a, k) (sym (set_at (tab f n) (f n) [] (g n) n (length-tab f n)))
      go ih false e =
          let lt : l < n = omega (arith, eqb-false l n e) in
          rw (ih lt, s n (omega arith) (λ z. eqb-false l n e (sym z)))
          (sym (set-append_left (tab f n) (f n ∷ []) l (g l) (omega (arith, length-tab f n))))

  pub get_or-tab : (f : ℕ → A) (n i : ℕ) (d : A) → i < n → get_or (tab f n) i d ≡ f i
  unfolding tab
  get_or-tab f zero i d h = absurd (omega arith)
  get_or-tab f (suc n) i d h = go (λ k. get_or-tab f n i d k) (eqb i n) refl
    where
      go : (i < n → get_or (tab f n) i d ≡ f i) → (t : Bool) → eqb i n ≡ t → get_or (tab f n ++ (f n ∷ [])) i d ≡ f i
      go ih true e = rw (eqb-true i n e) (get_or_at (tab f n) (f n) [] d n (length-tab f n))
      go ih false e =
          get_or-append (tab f n) (f n ∷ []) d i (omega (arith, length-tab f n, eqb-false i n e)) ∙ ih (omega (arith, eqb-false i n e))

  tab-next : (f : ℕ → A) (i : ℕ) → tab f (i + 1) ≡ tab f i ++ (f i ∷ [])
  unfolding tab
  tab-next f i = rw add-one

  -- a turn of a loop that writes a table from the front
  pub put-tab : (f : ℕ → A) (d : List A) (i : ℕ) → set (put d 0 (tab f i)) i (f i) ≡ put d 0 (tab f (i + 1))
  put-tab f d i =
      let z : i ≡ 0 + length (tab f i) = omega (arith, length-tab f i) in
      sym (put_one (put d 0 (tab f i)) i (f i))
      ∙ ap (λ (k : ℕ). put (put d 0 (tab f i)) k (f i ∷ [])) z
      ∙ put-put d 0 (tab f i) (f i ∷ [])
      ∙ ap (put d 0) (sym (tab-next f i))
