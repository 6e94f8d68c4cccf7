-- Laws of `sum` and `all` over functions that agree.
use Prim.Native.Nat.{ℕ, zero, suc, ◌+◌, ◌-◌, ◌≤◌, ◌<◌}
use mathlib.Core.Path.{◌≡◌, refl, sym, ap, ◌∙◌}
use mathlib.Core.Bool.{Bool, true, false, ◌&&◌}
use mathlib.Core.List.{List, [], ◌∷◌}
use native.Mathlib.Omega.{arith}
use lib.Dec.{eqb, ltb}
use lib.ListN.{length, get_or, take, drop, length-drop}
use lib.Pointwise.{pointwise}
use lib.Seq.{get_or-take, get_or-drop, length-take-le}
use borrow.Author.Tests.{eqb-true, eqb-false, ltb-true, ltb-false}
use Rattle.octets.specs.Tests.{all}
use Rattle.octets.proofs.Tests.{no_true, all-at, all_of}
use Rattle.tables.specs.Tables.{sum}

pub all_same : (p q : ℕ → Bool) (n : ℕ) → ((i : ℕ) → i < n → p i ≡ q i) → all p n ≡ all q n
unfolding all
all_same p q zero h = refl
all_same p q (suc n) h = rw (all_same p q n (λ i k. h i (omega arith)), h n (omega arith))

-- one after another: q is p from m on
module _ (p q : ℕ → Bool) (m k : ℕ) (h : (i : ℕ) → i < k → q i ≡ p (m + i)) where
  pub all_join : all p m ≡ true → all q k ≡ true → all p (m + k) ≡ true
  all_join a b = all_of p (m + k) (λ i l. go i l (ltb i m) refl)
    where
      go : (i : ℕ) → i < m + k → (t : Bool) → ltb i m ≡ t → p i ≡ true
      go i l true e = all-at p i m a (ltb-true i m e)
      go i l false e =
          let n : m ≤ i = omega (arith, ltb-false i m e) in
          let z : i ≡ m + (i - m) = omega arith in
          ap p z ∙ sym (h (i - m) (omega arith)) ∙ all-at q (i - m) k b (omega arith)

  pub all-part : (n : ℕ) → m + k ≤ n → all q k ≡ false → all p n ≡ false
  all-part n l f = go (all p n) refl
    where
      go : (t : Bool) → all p n ≡ t → all p n ≡ false
      go false e = e
      go true e = no_true (sym f ∙ all_of q k (λ i r. h i r ∙ all-at p (m + i) n e (omega arith)))

pub sum_same : (f g : ℕ → ℕ) (n : ℕ) → ((i : ℕ) → i < n → f i ≡ g i) → sum f n ≡ sum g n
unfolding sum
sum_same f g zero h = refl
sum_same f g (suc n) h = rw (sum_same f g n (λ i k. h i (omega arith)), h n (omega arith))

-- the sum with one term changed from x to y
pub sum_one : (f g : ℕ → ℕ) (n j : ℕ) → j < n → ((i : ℕ) → i < n → (i ≡ j → ⊥) → g i ≡ f i) → sum g n + f j ≡ sum f n + g j
unfolding sum
sum_one f g zero j h s = absurd (omega arith)
sum_one f g (suc n) j h s = go (λ k. sum_one f g n j k (λ i q. s i (omega arith))) (eqb j n) refl
  where
    go : (j < n → sum g n + f j ≡ sum f n + g j) → (t : Bool) → eqb j n ≡ t → sum g n + g n + f j ≡ sum f n + f n + g j
    go ih true e =
        let k : j ≡ n = eqb-true j n e in
        let a : sum g n ≡ sum f n = sum_same g f n (λ i q. s i (omega arith) (λ z. omega (arith, k))) in
        rw k (omega arith)
    go ih false e =
        let a : sum g n + f j ≡ sum f n + g j = ih (omega (arith, eqb-false j n e)) in
        let b : g n ≡ f n = s n (omega arith) (λ z. eqb-false j n e (sym z)) in
        omega arith

pub sum-up : (f : ℕ → ℕ) (m n : ℕ) → m ≤ n → sum f m ≤ sum f n
unfolding sum
sum-up f m zero h = let z : m ≡ 0 = omega arith in rw z (omega arith)
sum-up f m (suc n) h = go (λ k. sum-up f m n k) (eqb m (suc n)) refl
  where
    go : (m ≤ n → sum f m ≤ sum f n) → (t : Bool) → eqb m (suc n) ≡ t → sum f m ≤ sum f n + f n
    go ih true e = rw (eqb-true m (suc n) e) (omega arith)
    go ih false e = omega (arith, ih (omega (arith, eqb-false m (suc n) e)))

pub sum-suc : (f : ℕ → ℕ) (m : ℕ) → sum f (suc m) ≡ sum f m + f m
unfolding sum
sum-suc f m = refl

-- one term more is no more than the rest
pub sum_in : (f : ℕ → ℕ) (m n : ℕ) → m < n → sum f m + f m ≤ sum f n
sum_in f m n h = rw (sum-suc f m) at (sum-up f (suc m) n h)

-- terms that are 0 add nothing
pub sum_past : (f : ℕ → ℕ) (n m : ℕ) → n ≤ m → ((i : ℕ) → n ≤ i → i < m → f i ≡ 0) → sum f m ≡ sum f n
unfolding sum
sum_past f n zero h z = let e : n ≡ 0 = omega arith in rw e
sum_past f n (suc m) h z = go (λ k. sum_past f n m k (λ i a b. z i a (omega arith))) (eqb n (suc m)) refl
  where
    go : (n ≤ m → sum f m ≡ sum f n) → (t : Bool) → eqb n (suc m) ≡ t → sum f m + f m ≡ sum f n
    go ih true e = rw (eqb-true n (suc m) e)
    go ih false e =
        let k : n ≤ m = omega (arith, eqb-false n (suc m) e) in
        omega (arith, ih k, z m k (omega arith))

-- ---- words that are compared at once
all-first : (p : ℕ → Bool) (n : ℕ) → all p (suc n) ≡ (p 0 && all (λ k. p (suc k)) n)
unfolding all
all-first p zero = go (p 0)
  where
    go : (x : Bool) → (true && x) ≡ (x && true)
    go true = refl
    go false = refl
all-first p (suc n) = ap (λ (x : Bool). x && p (suc n)) (all-first p n) ∙ go (p 0) (all (λ k. p (suc k)) n) (p (suc n))
  where
    go : (x y z : Bool) → ((x && y) && z) ≡ (x && (y && z))
    go true y z = refl
    go false y z = refl

pub pairs : (n : ℕ) (x y : List ℕ) → length x ≡ n → length y ≡ n → pointwise eqb x y ≡ all (λ k. eqb (get_or x k 0) (get_or y k 0)) n
unfolding all
pairs zero [] [] a b = refl
pairs zero [] (v ∷ y) a b = absurd (omega arith)
pairs zero (u ∷ x) y a b = absurd (omega arith)
pairs (suc n) [] y a b = absurd (omega arith)
pairs (suc n) (u ∷ x) [] a b = absurd (omega arith)
pairs (suc n) (u ∷ x) (v ∷ y) a b =
    ap (λ (t : Bool). eqb u v && t) (pairs n x y (omega arith) (omega arith)) ∙ sym (all-first (λ k. eqb (get_or (u ∷ x) k 0) (get_or (v ∷ y) k 0)) n)

pub same-words : (w z : List ℕ) (p q i j n : ℕ) → i ≡ n → j ≡ n → p + n ≤ length w → q + n ≤ length z
    → pointwise eqb (take i (drop p w)) (take j (drop q z)) ≡ all (λ k. eqb (get_or w (p + k) 0) (get_or z (q + k) 0)) n
same-words w z p q i j n a b hp hq =
    pairs n (take i (drop p w)) (take j (drop q z)) (length-take-le i (drop p w) (simp length-drop (omega arith)) ∙ a) (length-take-le j (drop q z) (simp length-drop (omega arith)) ∙ b)
    ∙ all_same (λ k. eqb (get_or (take i (drop p w)) k 0) (get_or (take j (drop q z)) k 0)) (λ k. eqb (get_or w (p + k) 0) (get_or z (q + k) 0)) n
    (λ k h. rw (get_or-take i (drop p w) k 0 (omega (arith, h, a)), get_or-take j (drop q z) k 0 (omega (arith, h, b)), get_or-drop p w k 0, get_or-drop q z k 0))
