-- Laws of `homed`: what the test says, and that a free block is found.
use Prim.Native.Nat.{ℕ, zero, suc, ◌+◌, ◌-◌, ◌≤◌, ◌<◌}
use mathlib.Core.Path.{◌≡◌, refl, sym, ap, ◌∙◌}
use mathlib.Core.Bool.{Bool, true, false, not, cond}
use mathlib.Core.List.{List, [], ◌∷◌}
use native.Mathlib.Numerals.{add-one}
use native.Mathlib.Omega.{arith}
use lib.Dec.{ltb, eqb}
use lib.ListN.{length, get_or, set, take, drop, length-drop}
use lib.Seq.{split_at, get_or-take, get_or-drop, get_or-set_same, get_or-set_other, length-take-le}
use borrow.Author.Tests.{ltb-true, lt-ltb, le-ltb, eqb-true, eqb-false, eq-eqb, ne_eqb, not-true}
use Rattle.chain.specs.Chain.{fresh, chain_ok, home_at, homed, in_use_at}
use Rattle.octets.proofs.Tests.{all-at, all_of, and_left, and_right}
use Rattle.chain.proofs.Flat.{fresh-behind}

module _ (home list : List ℕ) (b n : ℕ) (ok : homed home list b n ≡ true) where
  pub home_low : (i : ℕ) → i < n → get_or list i 0 < b
  home_low i h = ltb-true (get_or list i 0) b (and_left (ltb (get_or list i 0) b) (eqb (get_or home (get_or list i 0) 0) i) (all-at (home_at home list b) i n ok h))

  pub home_is : (i : ℕ) → i < n → get_or home (get_or list i 0) 0 ≡ i
  home_is i h = eqb-true (get_or home (get_or list i 0) 0) i (and_right (ltb (get_or list i 0) b) (eqb (get_or home (get_or list i 0) 0) i) (all-at (home_at home list b) i n ok h))

pub homed_of : (home list : List ℕ) (b n : ℕ) → ((i : ℕ) → i < n → (get_or list i 0 < b) × (get_or home (get_or list i 0) 0 ≡ i)) → homed home list b n ≡ true
homed_of home list b n h =
    all_of (home_at home list b) n (λ i q. rw (lt-ltb (get_or list i 0) b (h i q).0, eq-eqb (get_or home (get_or list i 0) 0) i (h i q).1))

pub homed-less : (home list : List ℕ) (b n m : ℕ) → homed home list b n ≡ true → m ≤ n → homed home list b m ≡ true
homed-less home list b n m ok h = homed_of home list b m (λ i q. (home_low home list b n ok i (omega arith), home_is home list b n ok i (omega arith)))

-- the test looks at the first n entries alone
pub homed-take : (home l m : List ℕ) (b n : ℕ) → take n l ≡ take n m → homed home l b n ≡ true → homed home m b n ≡ true
homed-take home l m b n e ok = homed_of home m b n go
  where
    same : (i : ℕ) → i < n → get_or l i 0 ≡ get_or m i 0
    same i q = sym (get_or-take n l i 0 q) ∙ ap (λ (k : List ℕ). get_or k i 0) e ∙ get_or-take n m i 0 q

    go : (i : ℕ) → i < n → (get_or m i 0 < b) × (get_or home (get_or m i 0) 0 ≡ i)
    go i q = rw (← same i q) (home_low home l b n ok i q, home_is home l b n ok i q)

-- ---- no block stands twice

fresh_of : (x : ℕ) (xs : List ℕ) → ((i : ℕ) → i < length xs → get_or xs i 0 ≡ x → ⊥) → fresh x xs ≡ true
unfolding fresh
fresh_of x [] h = refl
fresh_of x (y ∷ ys) h =
    rw (ne_eqb x y (λ e. h 0 (omega arith) (sym e)), fresh_of x ys (λ i q. h (suc i) (omega arith)))

chain_of : (home : List ℕ) (b o : ℕ) (l : List ℕ) → ((i : ℕ) → i < length l → (get_or l i 0 < b) × (get_or home (get_or l i 0) 0 ≡ o + i)) → chain_ok b l ≡ true
unfolding chain_ok
chain_of home b o [] h = refl
chain_of home b o (x ∷ xs) h =
    let here : get_or home x 0 ≡ o + 0 = (h 0 (omega arith)).1 in
    let f : fresh x xs ≡ true = fresh_of x xs (λ i q e. omega (arith, here, ap (λ (y : ℕ). get_or home y 0) e, (h (suc i) (omega arith)).1)) in
    let r : chain_ok b xs ≡ true = chain_of home b (suc o) xs (λ i q. ((h (suc i) (omega arith)).0, (h (suc i) (omega arith)).1 ∙ omega arith)) in
    rw (lt-ltb x b (h 0 (omega arith)).0, f, r)

pub homed-chain : (home list : List ℕ) (b n : ℕ) → homed home list b n ≡ true → n ≤ length list → chain_ok b (take n list) ≡ true
homed-chain home list b n ok h =
    let ln : length (take n list) ≡ n = length-take-le n list h in
    chain_of home b 0 (take n list) (λ i q. rw (get_or-take n list i 0 (omega arith)) (home_low home list b n ok i (omega arith), home_is home list b n ok i (omega arith) ∙ omega arith))

fresh_at : (x : ℕ) (l : List ℕ) (k : ℕ) → fresh x l ≡ true → k < length l → get_or l k 0 ≡ x → ⊥
unfolding fresh
fresh_at x [] k f h e = omega arith
fresh_at x (y ∷ ys) zero f h e = eqb-false x y (not-true (eqb x y) (and_left (not (eqb x y)) (fresh x ys) f)) (sym e)
fresh_at x (y ∷ ys) (suc k) f h e = fresh_at x ys k (and_right (not (eqb x y)) (fresh x ys) f) (omega arith) e

pub apart : (b : ℕ) (l : List ℕ) (i j : ℕ) → chain_ok b l ≡ true → i < j → j < length l → get_or l j 0 ≡ get_or l i 0 → ⊥
apart b l i j ok h hj e =
    let f : fresh (get_or l i 0) (drop (suc i) l) ≡ true = fresh-behind b (take i l) (get_or l i 0) (drop (suc i) l) (ap (chain_ok b) (sym (split_at l i 0 (omega arith))) ∙ ok) in
    let k : suc i + (j - suc i) ≡ j = omega arith in
    fresh_at (get_or l i 0) (drop (suc i) l) (j - suc i) f (simp length-drop (omega arith)) (get_or-drop (suc i) l (j - suc i) 0 ∙ ap (λ (m : ℕ). get_or l m 0) k ∙ e)

-- ---- a turn of `rehome`
pub rehomed : (home list : List ℕ) (b n i : ℕ) → chain_ok b (take n list) ≡ true → i < n → n ≤ length list → get_or list i 0 < b → b ≤ length home → homed home list b i ≡ true
    → homed (set home (get_or list i 0) i) list b (i + 1) ≡ true
rehomed home list b n i ok hi hn hx hb inv = homed_of (set home (get_or list i 0) i) list b (i + 1) (λ k q. go k q (eqb k i) refl)
  where
    ln : length (take n list) ≡ n
    ln = length-take-le n list hn

    go : (k : ℕ) → k < i + 1 → (t : Bool) → eqb k i ≡ t → (get_or list k 0 < b) × (get_or (set home (get_or list i 0) i) (get_or list k 0) 0 ≡ k)
    go k q true e = rw (eqb-true k i e) (hx, get_or-set_same home (get_or list i 0) i 0 (omega arith))
    go k q false e =
        let lt : k < i = omega (arith, eqb-false k i e) in
        let ne : get_or list k 0 ≡ get_or list i 0 → ⊥ = λ p. apart b (take n list) k i ok lt (omega (arith, ln)) (get_or-take n list i 0 hi ∙ sym p ∙ sym (get_or-take n list k 0 (omega arith))) in
        (home_low home list b i inv k lt, get_or-set_other home (get_or list i 0) (get_or list k 0) i 0 ne ∙ home_is home list b i inv k lt)

-- ---- a free block
module _ (home list : List ℕ) (b n x : ℕ) (ok : homed home list b n ≡ true) where
  pub free-high : n ≤ get_or home x 0 → (i : ℕ) → i < n → get_or list i 0 ≡ x → ⊥
  free-high h i q e = omega (arith, home_is home list b n ok i q, ap (λ (y : ℕ). get_or home y 0) e)

  pub free_other : (get_or list (get_or home x 0) 0 ≡ x → ⊥) → (i : ℕ) → i < n → get_or list i 0 ≡ x → ⊥
  free_other h i q e =
      let k : get_or home x 0 ≡ i = ap (λ (y : ℕ). get_or home y 0) (sym e) ∙ home_is home list b n ok i q in
      h (ap (λ (j : ℕ). get_or list j 0) k ∙ e)

  pub free : in_use_at home list n x ≡ false → (i : ℕ) → i < n → get_or list i 0 ≡ x → ⊥
  free h i q e =
      let k : get_or home x 0 ≡ i = ap (λ (y : ℕ). get_or home y 0) (sym e) ∙ home_is home list b n ok i q in
      let u : in_use_at home list n x ≡ true = rw (lt-ltb (get_or home x 0) n (omega arith), eq-eqb (get_or list (get_or home x 0) 0) x (ap (λ (j : ℕ). get_or list j 0) k ∙ e)) in
      let z : ◌≡◌ {A = ℕ} 0 1 = absurd_eq (sym u ∙ h) in omega arith
    where
      absurd_eq : true ≡ false → ◌≡◌ {A = ℕ} 0 1
      absurd_eq e = cc

  pub took : n < length list → x < b → b ≤ length home → ((i : ℕ) → i < n → get_or list i 0 ≡ x → ⊥) → homed (set home x n) (set list n x) b (n + 1) ≡ true
  took hn hx hb free = homed_of (set home x n) (set list n x) b (n + 1) (λ k q. go k q (eqb k n) refl)
    where
      go : (k : ℕ) → k < n + 1 → (t : Bool) → eqb k n ≡ t → (get_or (set list n x) k 0 < b) × (get_or (set home x n) (get_or (set list n x) k 0) 0 ≡ k)
      go k q true e = rw (eqb-true k n e, get_or-set_same list n x 0 hn) (hx, get_or-set_same home x n 0 (omega arith))
      go k q false e =
          let lt : k < n = omega (arith, eqb-false k n e) in
          rw (get_or-set_other list n k x 0 (eqb-false k n e))
          (home_low home list b n ok k lt, get_or-set_other home x (get_or list k 0) n 0 (free k lt) ∙ home_is home list b n ok k lt)

-- ---- one is found: as many entries stand below x as there are blocks below x
unfoldable pub under : ℕ → List ℕ → ℕ
under x [] = 0
under x (y ∷ ys) = cond (ltb y x) 1 0 + under x ys

one : (t : Bool) → cond t 1 0 ≤ 1
one true = omega arith
one false = omega arith

pub under-few : (x : ℕ) (l : List ℕ) → under x l ≤ length l
unfolding under
under-few x [] = omega arith
under-few x (y ∷ ys) = omega (arith, one (ltb y x), under-few x ys)

step : (x y : ℕ) → cond (ltb y x) 1 0 ≤ cond (ltb y (suc x)) 1 0
step x y = go (ltb y x) refl
  where
    go : (t : Bool) → ltb y x ≡ t → cond (ltb y x) 1 0 ≤ cond (ltb y (suc x)) 1 0
    go true e = rw (e, lt-ltb y (suc x) (omega (arith, ltb-true y x e))) (omega arith)
    go false e = rw e (omega arith)

under_up : (x : ℕ) (l : List ℕ) → under x l ≤ under (suc x) l
unfolding under
under_up x [] = omega arith
under_up x (y ∷ ys) = omega (arith, step x y, under_up x ys)

pub under_more : (x : ℕ) (l : List ℕ) (h : ℕ) → h < length l → get_or l h 0 ≡ x → suc (under x l) ≤ under (suc x) l
unfolding under
under_more x [] h q e = absurd (omega arith)
under_more x (y ∷ ys) zero q e =
    let a : ◌≡◌ {A = ℕ} (cond (ltb y x) 1 0) 0 = rw (le-ltb y x (omega (arith, e))) in
    let b : ◌≡◌ {A = ℕ} (cond (ltb y (suc x)) 1 0) 1 = rw (lt-ltb y (suc x) (omega (arith, e))) in
    omega (arith, a, b, under_up x ys)
under_more x (y ∷ ys) (suc h) q e = omega (arith, step x y, under_more x ys h (omega arith) e)

-- a block in use is one more below
pub used_one : (home list : List ℕ) (n x : ℕ) → in_use_at home list n x ≡ true → n ≤ length list → x ≤ under x (take n list) → x + 1 ≤ under (x + 1) (take n list)
used_one home list n x u hn inv =
    let h : get_or home x 0 < n = ltb-true (get_or home x 0) n (and_left (ltb (get_or home x 0) n) (eqb (get_or list (get_or home x 0) 0) x) u) in
    let e : get_or list (get_or home x 0) 0 ≡ x = eqb-true (get_or list (get_or home x 0) 0) x (and_right (ltb (get_or home x 0) n) (eqb (get_or list (get_or home x 0) 0) x) u) in
    let ln : length (take n list) ≡ n = length-take-le n list hn in
    let m : suc (under x (take n list)) ≤ under (suc x) (take n list) = under_more x (take n list) (get_or home x 0) (omega arith) (get_or-take n list (get_or home x 0) 0 h ∙ e) in
    rw (add-one x) (omega arith)

pub all_used : (list : List ℕ) (b n : ℕ) → n < b → n ≤ length list → b ≤ under b (take n list) → ⊥
all_used list b n h hn inv = omega (arith, under-few b (take n list), length-take-le n list hn)
