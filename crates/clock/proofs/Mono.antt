-- `fresh_t` is monotone: what is fresh at a finite time is fresh at each finite time before it, whatever the stored time.
use mathlib.Core.Path.{◌≡◌, refl, sym, ap, subst}
use mathlib.Core.Logic.{◌⊎◌, inl, inr}
use mathlib.Core.Bool.{Bool, true, false, not, ◌&&◌, ◌||◌, cond, beq, true≢false}
use Prim.Native.Nat.{ℕ, ◌+◌, ◌-◌, ◌*◌, ◌≤◌, ◌<◌}
use native.Mathlib.Nat.{mul-pos, mul_comm, mul_assoc, mul_left_comm, mul_right_comm, add-mul, le_trans, le_of_eq, lt_of_le_of_lt, mul-le-mul_right, mul-lt-mul_of_pos_right, lt_of_mul-lt-mul_right, le_of_mul-le-mul_right}
use native.Mathlib.Omega.{arith}
use lib.Dec.{T, ltb, eqb, lt→ltb, ltb→lt, nltb→le, eqb→eq}
use lib.Ieee.{Float, nan, inf, fin, binary64, up, down, round, sum, add, neg, sub, lt, le, below, level}
use lib.Ieee.Fits.{down_pos, and_l, and_r}
use lib.Ieee.Order.{round_mono}
use lib.Ieee.Scale.{finite}
use Rattle.clock.specs.Time.{sixty, fresh_t}
use Rattle.clock.proofs.Sign.{sgn, siz, sum_round, Has, round_has, round_neg_below}

-- ---- a signed size as the difference of two naturals
abbrev hi : Bool → ℕ → ℕ
hi s a = cond s 0 a

abbrev lo : Bool → ℕ → ℕ
lo s a = cond s a 0

or_split : (a b : Bool) → T (a || b) → T a ⊎ T b
or_split true b t = inl tt
or_split false b t = inr t

-- the order of two finite values
le_parts : (s : Bool) (a p : ℕ) (t : Bool) (b q : ℕ) → 0 < p → 0 < q → T (below s (a * q) t (b * p) || level s (a * q) t (b * p))
    → hi s a * q + lo t b * p ≤ hi t b * p + lo s a * q
le_parts s a p t b q P Q h = elim (or_split (below s (a * q) t (b * p)) (level s (a * q) t (b * p)) h) [ inl k ↦ less s t k | inr k ↦ same s t (eqb→eq (a * q) (b * p) (and_l (eqb (a * q) (b * p)) (beq s t || eqb (a * q) 0) k)) (and_r (eqb (a * q) (b * p)) (beq s t || eqb (a * q) 0) k) ]
  where
    less : (s t : Bool) → T (below s (a * q) t (b * p)) → hi s a * q + lo t b * p ≤ hi t b * p + lo s a * q
    less true true k = omega (arith, ltb→lt (b * p) (a * q) k)
    less true false k = omega arith
    less false true k = absurd k
    less false false k = omega (arith, ltb→lt (a * q) (b * p) k)

    same : (s t : Bool) → a * q ≡ b * p → T (beq s t || eqb (a * q) 0) → hi s a * q + lo t b * p ≤ hi t b * p + lo s a * q
    same true true e k = omega arith
    same true false e k = omega arith
    same false true e k = omega (arith, eqb→eq (a * q) 0 k)
    same false false e k = omega arith

-- the sign and the size of a sum
sum-parts : (s : Bool) (a : ℕ) (t : Bool) (b : ℕ)
    → ((sgn s a t b ≡ false) × (lo s a + lo t b ≤ hi s a + hi t b) × (siz s a t b ≡ hi s a + hi t b - (lo s a + lo t b)))
    ⊎ ((sgn s a t b ≡ true) × (hi s a + hi t b ≤ lo s a + lo t b))
sum-parts true a true b = inr (refl, omega arith)
sum-parts false a false b = inl (refl, omega arith, omega arith)
sum-parts true a false b = go (ltb a b) (ltb→lt a b) (nltb→le a b) (ltb b a) (ltb→lt b a) (nltb→le b a)
  where
    go : (x : Bool) → (T x → a < b) → (T (not x) → b ≤ a) → (y : Bool) → (T y → b < a) → (T (not y) → a ≤ b)
        → ((cond x false (true && y) ≡ false) × (a + 0 ≤ 0 + b) × (cond x (b - a) (a - b) ≡ 0 + b - (a + 0))) ⊎ ((cond x false (true && y) ≡ true) × (0 + b ≤ a + 0))
    go true f g y k l = inl (refl, omega (arith, f tt), omega (arith, f tt))
    go false f g true k l = inr (refl, omega (arith, k tt))
    go false f g false k l = inl (refl, omega (arith, l tt), omega (arith, g tt, l tt))
sum-parts false a true b = go (ltb a b) (ltb→lt a b) (nltb→le a b)
  where
    go : (x : Bool) → (T x → a < b) → (T (not x) → b ≤ a)
        → ((cond x true false ≡ false) × (0 + b ≤ a + 0) × (cond x (b - a) (a - b) ≡ a + 0 - (0 + b))) ⊎ ((cond x true false ≡ true) × (a + 0 ≤ 0 + b))
    go true f g = inr (refl, omega (arith, f tt))
    go false f g = inl (refl, omega (arith, g tt), omega (arith, g tt))

-- ---- a value that is not negative and no larger than one below 60
drop-one : (a b c d : ℕ) → a * d ≤ b * c → b * 1 < 60 * d → 0 < c → a * 1 < 60 * c
drop-one a b c d h k C =
    let x : b * c < 60 * d * c = mul-lt-mul_of_pos_right (omega arith) C in
    let y : a * d < 60 * c * d = lt_of_le_of_lt h (subst (λ (z : ℕ). b * c < z) (mul_right_comm 60 d c) x) in
    let z : a < 60 * c = lt_of_mul-lt-mul_right d y in
    omega arith

le_nat : (a b : ℕ) → T (ltb a b || (eqb a b && true)) → a ≤ b
le_nat a b t = elim (or_split (ltb a b) (eqb a b && true) t) [ inl u ↦ omega (arith, ltb→lt a b u) | inr u ↦ omega (arith, eqb→eq a b (and_l (eqb a b) true u)) ]

pub below_mono : (x y : Float) → Has false x → Has false y → T (le x y) → T (lt y sixty) → T (lt x sixty)
unfolding le lt
below_mono nan y p q h k = p
below_mono (inf true) y p q h k = absurd (true≢false p)
below_mono (inf false) nan p q h k = q
below_mono (inf false) (inf true) p q h k = absurd (true≢false q)
below_mono (inf false) (inf false) p q h k = k
below_mono (inf false) (fin t n d) p q h k = absurd h
below_mono (fin true m e) y p q h k = absurd (true≢false p)
below_mono (fin false m e) nan p q h k = absurd q
below_mono (fin false m e) (inf true) p q h k = absurd (true≢false q)
below_mono (fin false m e) (inf false) p q h k = absurd k
below_mono (fin false m e) (fin true n d) p q h k = absurd (true≢false q)
below_mono (fin false m e) (fin false n d) p q h k =
    lt→ltb (m * up e * 1) (60 * down e) (drop-one (m * up e) (n * up d) (down e) (down d) (le_nat _ _ h) (ltb→lt (n * up d * 1) (60 * down d) k) (down_pos e))

zero-below : T (lt (round binary64 false 0 1) sixty)
unfolding round lt
zero-below = tt

-- rounding keeps the order, so a fraction no larger than one that rounds below 60 rounds below 60
pub round_below : (a c b d : ℕ) → 0 < c → 0 < d → a * d ≤ b * c → T (lt (round binary64 false b d) sixty) → T (lt (round binary64 false a c) sixty)
round_below a c b d C D h = below_mono (round binary64 false a c) (round binary64 false b d) (round_has binary64 false a c) (round_has binary64 false b d) (round_mono binary64 a c b d C D h)

pub zero_round_below : (c : ℕ) → 0 < c → T (lt (round binary64 false 0 c) sixty)
zero_round_below c C = round_below 0 c 0 1 C (omega arith) (omega arith) zero-below

-- ---- the two differences
ruleset sorted = (add-mul, mul_assoc, mul_comm, mul_left_comm)

cross : (u v u' v' w z p q r : ℕ) → u * q + v' * p ≤ u' * p + v * q
    → (u * r + w * p) * q + (v' * r + z * q) * p ≤ (u' * r + w * q) * p + (v * r + z * p) * q
cross u v u' v' w z p q r h =
    let k : (u * q + v' * p) * r ≤ (u' * p + v * q) * r = mul-le-mul_right r h in
    simp sorted (omega (arith, simp sorted at k))

-- with l ≤ h and l' ≤ h'
less : (h l h' l' p q r : ℕ) → l ≤ h → l' ≤ h' → h * q + l' * p ≤ h' * p + l * q → (h - l) * (q * r) ≤ (h' - l') * (p * r)
less h l h' l' p q r a b c =
    let x : (h - l) * q ≤ (h' - l') * p = grow (h - l) h l (h' - l') h' l' (omega arith) (omega arith) c in
    le_trans (le_of_eq (sym (mul_assoc (h - l) q r))) (le_trans (mul-le-mul_right r x) (le_of_eq (mul_assoc (h' - l') p r)))
  where
    grow : (x h l x' h' l' : ℕ) → h ≡ x + l → h' ≡ x' + l' → h * q + l' * p ≤ h' * p + l * q → x * q ≤ x' * p
    grow x h l x' h' l' e f g = omega (arith, add-mul x l q, add-mul x' l' p, ap (λ (n : ℕ). n * q) e, ap (λ (n : ℕ). n * p) f)

none : (h l h' l' p q : ℕ) → 0 < q → h' ≤ l' → h * q + l' * p ≤ h' * p + l * q → h - l ≡ 0
none h l h' l' p q Q b c =
    let x : h * q ≤ l * q = omega (arith, mul-le-mul_right p b) in
    omega (arith, le_of_mul-le-mul_right x Q)

hi_scale : (s : Bool) (a r : ℕ) → hi s (a * r) ≡ hi s a * r
hi_scale true a r = omega arith
hi_scale false a r = refl

lo_scale : (s : Bool) (a r : ℕ) → lo s (a * r) ≡ lo s a * r
lo_scale true a r = refl
lo_scale false a r = omega arith

-- two roundings, each by the sign g, the size z and the difference h - l that it is
settle : (g : Bool) (z h l : ℕ) (g' : Bool) (z' h' l' p q r : ℕ) → 0 < p → 0 < q → 0 < r
    → (((g ≡ false) × (l ≤ h) × (z ≡ h - l)) ⊎ ((g ≡ true) × (h ≤ l)))
    → (((g' ≡ false) × (l' ≤ h') × (z' ≡ h' - l')) ⊎ ((g' ≡ true) × (h' ≤ l')))
    → h * q + l' * p ≤ h' * p + l * q
    → T (lt (round binary64 g' z' (q * r)) sixty) → T (lt (round binary64 g z (p * r)) sixty)
settle g z h l g' z' h' l' p q r P Q R (inr a) b c k = rw a.0 (round_neg_below binary64 z (p * r))
settle g z h l g' z' h' l' p q r P Q R (inl a) (inr b) c k =
    rw (a.0, a.2, none h l h' l' p q Q b.1 c) (zero_round_below (p * r) (mul-pos P R))
settle g z h l g' z' h' l' p q r P Q R (inl a) (inl b) c k =
    rw (a.0, a.2)
    (round_below (h - l) (p * r) (h' - l') (q * r) (mul-pos P R) (mul-pos Q R) (less h l h' l' p q r a.1 b.1 c) (rw (b.0, b.2) at k))

sums_below : (s : Bool) (a p : ℕ) (s' : Bool) (a' q : ℕ) (t : Bool) (b r : ℕ) → 0 < p → 0 < q → 0 < r
    → hi s a * q + lo s' a' * p ≤ hi s' a' * p + lo s a * q
    → T (lt (sum binary64 s' (a' * r) t (b * q) (q * r)) sixty) → T (lt (sum binary64 s (a * r) t (b * p) (p * r)) sixty)
sums_below s a p s' a' q t b r P Q R h k =
    let y : (hi s (a * r) + hi t (b * p)) * q + (lo s' (a' * r) + lo t (b * q)) * p ≤ (hi s' (a' * r) + hi t (b * q)) * p + (lo s (a * r) + lo t (b * p)) * q
    = simp (hi_scale, lo_scale) (cross (hi s a) (lo s a) (hi s' a') (lo s' a') (hi t b) (lo t b) p q r h) in
    rw sum_round
    (settle _ _ _ _ _ _ _ _ p q r P Q R (sum-parts s (a * r) t (b * p)) (sum-parts s' (a' * r) t (b * q)) y (rw sum_round at k))

-- ---- the theorem
pub fresh_mono : (x y t : Float) → T (finite x) → T (finite y) → T (le x y) → T (fresh_t y t) → T (fresh_t x t)
unfolding fresh_t sub add neg le lt
fresh_mono nan y t p q h k = absurd p
fresh_mono (inf s) y t p q h k = absurd p
fresh_mono (fin s m e) nan t p q h k = absurd q
fresh_mono (fin s m e) (inf s') t p q h k = absurd q
fresh_mono (fin s m e) (fin s' m' e') nan p q h k = k
fresh_mono (fin s m e) (fin s' m' e') (inf b) p q h k = k
fresh_mono (fin s m e) (fin s' m' e') (fin b n d) p q h k =
    sums_below s (m * up e) (down e) s' (m' * up e') (down e') (not b) (n * up d) (down d) (down_pos e) (down_pos e') (down_pos d)
    (le_parts s (m * up e) (down e) s' (m' * up e') (down e') (down_pos e) (down_pos e') h) k

-- so what is not fresh at a finite time is not fresh at a later or equal finite time
pub stale_later : (x y t : Float) → T (finite x) → T (finite y) → T (le x y) → fresh_t x t ≡ false → fresh_t y t ≡ false
stale_later x y t p q h e = go (fresh_t y t) (fresh_mono x y t p q h)
  where
    go : (b : Bool) → (T b → T (fresh_t x t)) → b ≡ false
    go true f = absurd (subst T e (f tt))
    go false f = refl
