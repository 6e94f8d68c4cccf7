-- The laws of walks.
use Prim.Native.Nat.{ℕ, zero, suc, ◌+◌, ◌*◌, ◌≤◌, ◌<◌, ◌-◌}
use mathlib.Core.List.{[], ◌++◌}
use mathlib.Core.Path.{◌≡◌, refl, ◌∙◌, ap, sym, subst}
use native.Mathlib.Nat.{add-zero, add-suc, suc-add, mul-add, lt_of_not-le}
use native.Mathlib.Decide.{dec_le}
use native.Mathlib.Omega.{arith}
use Rattle.cells.specs.Items.{Items, none, ◌⊕◌, flat}
use Rattle.cells.specs.Walk.{Step, stop, entry, on_step, walk_by, walk_from, items_from, cells_from}
use Rattle.cells.proofs.Rows.{flat-none, flat-⊕}

module _ {E R : Type 0} (f : ℕ → Step E) (ends : ℕ → R) (more : E → R → R) where
  abbrev by : ℕ → ℕ → ℕ → R
  by = walk_by f ends more

  abbrev from : ℕ → ℕ → R
  from = walk_from f ends more

  abbrev at : Step E → ℕ → ℕ → (ℕ → R) → R
  at = on_step f ends more

  walk_skip : (i n k : ℕ) → by i n k ≡ by (i + k) (n - k) 0
  unfolding walk_by
  walk_skip i zero zero = refl
  walk_skip i zero (suc k) = let e : 0 ≡ zero - suc k = omega arith in ap (λ (m : ℕ). by (i + suc k) m 0) e
  walk_skip i (suc n) zero =
      let e : suc n ≡ suc n - zero = omega arith in
      ap (λ (q : ℕ). by q (suc n) 0) (sym (add-zero i)) ∙ ap (λ (m : ℕ). by (i + 0) m 0) e
  walk_skip i (suc n) (suc k) =
      let e : n - k ≡ suc n - suc k = omega arith in
      walk_skip (suc i) n k ∙ ap (λ (q : ℕ). by q (n - k) 0) (suc-add i k ∙ sym (add-suc i k)) ∙ ap (λ (m : ℕ). by (i + suc k) m 0) e

  front : (size i : ℕ) → i < size → from size i ≡ at (f i) i (size - i) (λ d. by (suc i) (size - suc i) d)
  unfolding walk_by walk_from
  front size i h =
      let q : size - i ≡ suc (size - suc i) = omega arith in
      ap (λ (n : ℕ). by i n 0) q
      ∙ ap (λ (n : ℕ). at (f i) i n (λ d. by (suc i) (size - suc i) d)) (sym q)

  -- at a position with an entry: its cells, and then those from the position after it
  pub turn : (size i e : ℕ) (c : E) → i < size → i < e → f i ≡ entry e c → from size i ≡ more c (from size e)
  unfolding walk_from
  turn size i n c h l e =
      let d : ℕ = n - suc i in
      let e1 : suc i + (n - suc i) ≡ n = omega arith in
      let e2 : size - suc i - (n - suc i) ≡ size - n = omega arith in
      front size i h
      ∙ ap (λ (t : Step E). at t i (size - i) (λ d. by (suc i) (size - suc i) d)) e
      ∙ ap (more c) (walk_skip (suc i) (size - suc i) (n - suc i) ∙ ap (λ (q : ℕ). by q (size - suc i - (n - suc i)) 0) e1 ∙ ap (λ (m : ℕ). by n m 0) e2)

  -- at a position with none: the octets left
  pub done : (size i : ℕ) → i < size → f i ≡ stop → from size i ≡ ends (size - i)
  done size i h e = front size i h ∙ ap (λ (t : Step E). at t i (size - i) (λ d. by (suc i) (size - suc i) d)) e

  -- at the end: nothing left
  pub over : (size i : ℕ) → size ≤ i → from size i ≡ ends 0
  unfolding walk_by walk_from
  over size i h = let e : size - i ≡ 0 = omega arith in ap (λ (n : ℕ). by i n 0) e

-- two walks over the same entries, where h takes what the one makes to what the other makes
module _ {E R Q : Type 0} (f : ℕ → Step E) (ends : ℕ → R) (more : E → R → R) (endsQ : ℕ → Q) (moreQ : E → Q → Q) (h : R → Q)
    (he : (n : ℕ) → h (ends n) ≡ endsQ n) (hm : (c : E) (r : R) → h (more c r) ≡ moreQ c (h r)) where
  fuse-step : (t : Step E) (i n : ℕ) (k : ℕ → R) (kQ : ℕ → Q) → ((d : ℕ) → h (k d) ≡ kQ d) → h (on_step f ends more t i n k) ≡ on_step f endsQ moreQ t i n kQ
  fuse-step stop i n k kQ q = he n
  fuse-step (entry e c) i n k kQ q = hm c (k (e - suc i)) ∙ ap (moreQ c) (q (e - suc i))

  fuse-by : (n i k : ℕ) → h (walk_by f ends more i n k) ≡ walk_by f endsQ moreQ i n k
  unfolding walk_by
  fuse-by zero i k = he 0
  fuse-by (suc n) i zero = fuse-step (f i) i (suc n) (λ d. walk_by f ends more (suc i) n d) (λ d. walk_by f endsQ moreQ (suc i) n d) (λ d. fuse-by n (suc i) d)
  fuse-by (suc n) i (suc k) = fuse-by n (suc i) k

  pub fuse : (size i : ℕ) → h (walk_from f ends more size i) ≡ walk_from f endsQ moreQ size i
  unfolding walk_from
  fuse size i = fuse-by (size - i) i 0

-- the cells of a walk's items
pub flat_walk : (d : ℕ) (f : ℕ → Step Items) (size i : ℕ) → flat d (items_from f size i) ≡ cells_from d f size i
flat_walk d f = fuse f (λ n. none) ◌⊕◌ (λ n. []) (λ c r. flat d c ++ r) (flat d) (λ n. flat-none d) (λ c r. flat-⊕ d c r)

omega_split : (i n e : ℕ) → i < e → e - suc i ≤ n → (e - i) + (n - (e - suc i)) ≡ suc n
omega_split i n e h l = omega arith

sub-none : (n : ℕ) → n ≡ n - 0
sub-none n = omega arith

sub-both : (n k : ℕ) → n - k ≡ suc n - suc k
sub-both n k = omega arith

-- how much a walk gives: no entry gives more than m for each of its octets, so the walk does not
module _ {E : Type 0} (f : ℕ → Step E) (weight : E → ℕ) (m size : ℕ) where
  abbrev pub Thin : ℕ → Step E → Type 0
  Thin i stop = Unit
  Thin i (entry e c) = (i < e) × (e ≤ size) × (weight c ≤ m * (e - i))

  abbrev sum : ℕ → ℕ → ℕ → ℕ
  sum = walk_by f (λ n. 0) (λ c r. weight c + r)

  module _ (h : (i : ℕ) → i < size → Thin i (f i)) where
    thin-step : (t : Step E) (i n : ℕ) → i + suc n ≡ size → Thin i t → ((d : ℕ) → d ≤ n → sum (suc i) n d ≤ m * (n - d))
        → on_step f (λ n. 0) (λ c r. weight c + r) t i (suc n) (λ d. sum (suc i) n d) ≤ m * suc n
    thin-step stop i n q w r = omega arith
    thin-step (entry e c) i n q w r =
        let x : e - suc i ≤ n = omega (arith, w.0, w.1) in
        let y : m * (e - i) + m * (n - (e - suc i)) ≡ m * suc n = sym (mul-add m (e - i) (n - (e - suc i))) ∙ ap (λ (z : ℕ). m * z) (omega_split i n e (omega (arith, w.0)) x) in
        omega (arith, r (e - suc i) x, w.2, y)

    thin-by : (n i k : ℕ) → i + n ≡ size → k ≤ n → sum i n k ≤ m * (n - k)
    unfolding walk_by
    thin-by zero i k q l = omega arith
    thin-by (suc n) i zero q l =
        let z : m * suc n ≡ m * (suc n - zero) = ap (λ (x : ℕ). m * x) (sub-none (suc n)) in
        omega (arith, thin-step (f i) i n q (h i (omega arith)) (λ d l. thin-by n (suc i) d (omega arith) l), z)
    thin-by (suc n) i (suc k) q l =
        let z : m * (n - k) ≡ m * (suc n - suc k) = ap (λ (x : ℕ). m * x) (sub-both n k) in
        omega (arith, thin-by n (suc i) k (omega arith) (omega arith), z)

    pub thin-from : (i : ℕ) → walk_from f (λ n. 0) (λ c r. weight c + r) size i ≤ m * (size - i)
    unfolding walk_from
    thin-from i = elim (dec_le i size) [
      | yes l ↦ subst (λ (n : ℕ). sum i (size - i) 0 ≤ m * n) (sym (sub-none (size - i))) (thin-by (size - i) i 0 (omega arith) (omega arith))
      | no l ↦ let e = over f (λ n. 0) (λ c r. weight c + r) size i (omega (arith, lt_of_not-le l)) in omega (arith, e)
    ]

    pub thin : walk_from f (λ n. 0) (λ c r. weight c + r) size 0 ≤ m * size
    thin = subst (λ (n : ℕ). walk_from f (λ n. 0) (λ c r. weight c + r) size 0 ≤ m * n) (sym (sub-none size)) (thin-from 0)

-- what holds of a walk's end, and goes on over each entry, holds of the walk
module _ {E R : Type 0} (f : ℕ → Step E) (ends : ℕ → R) (more : E → R → R) (size : ℕ) (P : R → Type 0) (Q : E → Type 0)
    (pe : (n : ℕ) → P (ends n)) (pm : (c : E) (r : R) → Q c → P r → P (more c r)) where
  abbrev pub Each : Step E → Type 0
  Each stop = Unit
  Each (entry e c) = Q c

  all-step : (t : Step E) (i n : ℕ) (k : ℕ → R) → Each t → ((d : ℕ) → P (k d)) → P (on_step f ends more t i n k)
  all-step stop i n k q h = pe n
  all-step (entry e c) i n k q h = pm c (k (e - suc i)) q (h (e - suc i))

  all-by : ((i : ℕ) → i < size → Each (f i)) → (n i k : ℕ) → i + n ≡ size → P (walk_by f ends more i n k)
  unfolding walk_by
  all-by q zero i k h = pe 0
  all-by q (suc n) i zero h = all-step (f i) i (suc n) (λ d. walk_by f ends more (suc i) n d) (q i (omega arith)) (λ d. all-by q n (suc i) d (omega arith))
  all-by q (suc n) i (suc k) h = all-by q n (suc i) k (omega arith)

  pub all_from : ((i : ℕ) → i < size → Each (f i)) → (i : ℕ) → P (walk_from f ends more size i)
  unfolding walk_from
  all_from q i = elim (dec_le i size) [
    | yes l ↦ all-by q (size - i) i 0 (omega arith)
    | no l ↦ subst P (sym (over f ends more size i (omega (arith, lt_of_not-le l)))) (pe 0)
  ]

  pub all : ((i : ℕ) → i < size → Each (f i)) → P (walk_from f ends more size 0)
  all q = all_from q 0
