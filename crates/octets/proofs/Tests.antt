-- Laws of `all`, for a loop that goes up from 0 and stops at the first failure.
use mathlib.Core.Path.{◌≡◌, refl, sym, ap, ◌∙◌}
use mathlib.Core.Bool.{Bool, true, false, ◌&&◌}
use Prim.Native.Nat.{ℕ, zero, suc, ◌+◌, ◌-◌, ◌<◌}
use native.Mathlib.Nat.{add-zero, add-suc}
use native.Mathlib.Numerals.{add-one}
use native.Mathlib.Omega.{arith}
use Rattle.octets.specs.Tests.{all}

pub no_true : {A : Type 0} → false ≡ true → A
no_true e = let z : ◌≡◌ {A = ℕ} 0 1 = cc in absurd (omega arith)

pub and_left : (p q : Bool) → (p && q) ≡ true → p ≡ true
and_left true q h = refl
and_left false q h = h

pub and_right : (p q : Bool) → (p && q) ≡ true → q ≡ true
and_right true q h = h
and_right false q h = no_true h

pub and_false : (p : Bool) → (p && false) ≡ false
and_false true = refl
and_false false = refl

pub all_none : (p : ℕ → Bool) → all p 0 ≡ true
unfolding all
all_none p = refl

pub all_more : (p : ℕ → Bool) (i : ℕ) → all p i ≡ true → p i ≡ true → all p (i + 1) ≡ true
unfolding all
all_more p i a b = rw (add-one, a, b)

fails : (p : ℕ → Bool) (i k : ℕ) → p i ≡ false → all p (suc i + k) ≡ false
unfolding all
fails p i zero f = rw (add-zero, f) (and_false (all p i))
fails p i (suc k) f = rw (add-suc, fails p i k f)

pub all-fails : (p : ℕ → Bool) (i n : ℕ) → i < n → p i ≡ false → all p n ≡ false
all-fails p i n h f = let e : n ≡ suc i + (n - suc i) = omega arith in ap (all p) e ∙ fails p i (n - suc i) f

-- what holds of all holds of each, and the other way
pub all-at : (p : ℕ → Bool) (i n : ℕ) → all p n ≡ true → i < n → p i ≡ true
all-at p i n a h = go (p i) refl
  where
    go : (t : Bool) → p i ≡ t → p i ≡ true
    go true e = e
    go false e = no_true (sym (all-fails p i n h e) ∙ a)

pub all_of : (p : ℕ → Bool) (n : ℕ) → ((i : ℕ) → i < n → p i ≡ true) → all p n ≡ true
unfolding all
all_of p zero h = refl
all_of p (suc n) h = rw (all_of p n (λ i q. h i (omega arith)), h n (omega arith))
