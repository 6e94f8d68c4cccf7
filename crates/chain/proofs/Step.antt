-- Entries that go up one by one, and so do their homes; and tests of stretches, joined.
use Prim.Native.Nat.{ℕ, zero, suc, ◌+◌, ◌≤◌, ◌<◌}
use mathlib.Core.Path.{◌≡◌, refl, sym, ap, ◌∙◌}
use mathlib.Core.Bool.{Bool, true, false, ◌&&◌}
use mathlib.Core.List.{List}
use native.Mathlib.Nat.{add-zero, add-suc}
use native.Mathlib.Omega.{arith}
use lib.ListN.{get_or}
use borrow.Author.Tests.{eq-eqb, lt-ltb}
use Rattle.octets.specs.Tests.{all}
use Rattle.octets.proofs.Tests.{all-at, all_of, no_true}
use Rattle.chain.specs.Chain.{home_at}

-- entry i + s is block x + s, whose home is there
abbrev pub Pair : List ℕ → List ℕ → ℕ → ℕ → ℕ → Type 0
Pair list home i x s = (get_or list (i + s) 0 ≡ x + s) × (get_or home (x + s) 0 ≡ i + s)

abbrev pub Pairs : List ℕ → List ℕ → ℕ → ℕ → ℕ → Type 0
Pairs list home i x t = (s : ℕ) → s < t → Pair list home i x s

-- entries in step are at home
pub in_step-homed : (list home : List ℕ) (b i x m : ℕ) → x + m ≤ b → Pairs list home i x m → all (λ t. home_at home list b (i + t)) m ≡ true
in_step-homed list home b i x m h p =
    all_of (λ t. home_at home list b (i + t)) m (λ t q.
    let a : get_or list (i + t) 0 ≡ x + t = (p t q).0 in
    rw (a, lt-ltb (x + t) b (omega arith), eq-eqb (get_or home (x + t) 0) (i + t) (p t q).1))

-- a test over i + m numbers, of which the first i pass
join_next : (p : ℕ → Bool) (i m : ℕ) → all p i ≡ true → all p (i + m) ≡ all (λ t. p (i + t)) m
unfolding all
join_next p i zero h = rw add-zero h
join_next p i (suc m) h = rw add-suc (ap (λ (b : Bool). b && p (i + m)) (join_next p i m h))

pub all_join : (p : ℕ → Bool) (i m n : ℕ) → all p i ≡ true → i + m ≡ n → all (λ t. p (i + t)) m ≡ all p n
all_join p i m n h e = sym (join_next p i m h) ∙ ap (all p) e

all_same : (p q : ℕ → Bool) (n : ℕ) → ((t : ℕ) → t < n → p t ≡ q t) → all p n ≡ all q n
unfolding all
all_same p q zero h = refl
all_same p q (suc n) h = rw (all_same p q n (λ t k. h t (omega arith)), h n (omega arith))

-- of m numbers from i on, the first k pass: the other n decide
pub rest_join : (f : ℕ → Bool) (i k n m : ℕ) → k + n ≡ m → all (λ t. f (i + t)) k ≡ true → all (λ t. f (i + k + t)) n ≡ all (λ t. f (i + t)) m
rest_join f i k n m h e =
    all_same (λ t. f (i + k + t)) (λ t. f (i + (k + t))) n (λ t q. ap f (omega arith))
    ∙ all_join (λ t. f (i + t)) k n m e h

-- where the first k fail, so do m
pub all-cut : (p : ℕ → Bool) (k m : ℕ) → k ≤ m → all p k ≡ false → all p m ≡ false
all-cut p k m h e = go (all p m) refl
  where
    go : (b : Bool) → all p m ≡ b → all p m ≡ false
    go true t = no_true (sym e ∙ all_of p k (λ i q. all-at p i m t (omega arith)))
    go false t = t

-- the r entries from i on are blocks that follow each other
abbrev pub Rises : List ℕ → ℕ → ℕ → Type 0
Rises list i r = (t : ℕ) → t < r → get_or list (i + t) 0 ≡ get_or list i 0 + t
