-- Every unit of a link goes, the last one first.
use Prim.Native.Nat.{ℕ, ◌<◌}
use mathlib.Core.Path.{◌≡◌, refl, sym, ap, ◌∙◌}
use mathlib.Core.List.{List, [], ◌∷◌}
use native.Mathlib.Omega.{arith}
use lib.ListN.{length, get_or, set, length-set}
use lib.Seq.{get_or-set_same, set-set, set-get_or}
use Rattle.pool.specs.View.{Unit, without, removed, emptied}

-- only link l is not as it was
pub record Only (st₀ st : List (List Unit)) (l : ℕ) : Type 0 where
  pub long : length st ≡ length st₀
  pub others : st ≡ set st₀ l (get_or st l [])

pub only-start : (st : List (List Unit)) (l : ℕ) → Only st st l
only-start st l = record { long = refl; others = sym (set-get_or st l []) }

no_more : (us : List Unit) → length us ≡ 0 → us ≡ []
no_more [] h = refl
no_more (u ∷ us) h = absurd (omega (arith, h))

module _ (st₀ st : List (List Unit)) (l : ℕ) (hl : l < length st₀) (o : Only st₀ st l) where
  pub only-less : (st' : List (List Unit)) (j : ℕ) → st' ≡ removed st l j → Only st₀ st' l
  unfolding removed
  only-less st' j r =
      let v : List Unit = without j (get_or st l []) in
      let here : get_or st' l [] ≡ v = ap (λ (x : List (List Unit)). get_or x l []) r ∙ get_or-set_same st l v [] (omega (arith, o.long)) in
      record {
        long = ap length r ∙ length-set st l v ∙ o.long;
        others = r ∙ ap (λ (x : List (List Unit)). set x l v) o.others ∙ set-set st₀ l (get_or st l []) v ∙ ap (set st₀ l) (sym here);
      }

  pub only_none : length (get_or st l []) ≡ 0 → st ≡ emptied st₀ l
  unfolding emptied
  only_none h = o.others ∙ ap (set st₀ l) (no_more (get_or st l []) h)
