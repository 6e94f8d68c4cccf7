-- A sum's result is one rounding, of a sign and a size; a rounding's sign is the one handed in; `< 60.0` of each.
use mathlib.Core.Path.{◌≡◌, refl, sym, subst}
use mathlib.Core.Bool.{Bool, true, false, ◌&&◌, cond, beq}
use Prim.Native.Nat.{ℕ, suc, ◌+◌, ◌-◌, ◌*◌, ◌^◌, ◌<◌}
use native.Mathlib.Nat.{mul-pos}
use native.Mathlib.Omega.{arith}
use lib.Dec.{T, ltb, lt→ltb}
use lib.Ieee.{Float, nan, inf, fin, Format, prec, emax, low, up, down, odd, units, round, sum, lt}
use lib.Ieee.Fits.{round_is, down_pos}
use lib.Ieee.Exact.{HasValue, odd_sign}
use Rattle.clock.specs.Time.{sixty}

-- ---- the sign and the size of ±a ± b
abbrev pub sgn : Bool → ℕ → Bool → ℕ → Bool
sgn s a t b = cond (beq s t) s (cond (ltb a b) t (s && ltb b a))

abbrev pub siz : Bool → ℕ → Bool → ℕ → ℕ
siz s a t b = cond (beq s t) (a + b) (cond (ltb a b) (b - a) (a - b))

pub sum_round : (f : Format) (s : Bool) (a : ℕ) (t : Bool) (b c : ℕ) → sum f s a t b c ≡ round f (sgn s a t b) (siz s a t b) c
unfolding sum
sum_round f s a t b c = go (beq s t) (ltb a b)
  where
    go : (x y : Bool) → cond x (round f s (a + b) c) (cond y (round f t (b - a) c) (round f (s && ltb b a) (a - b) c))
        ≡ round f (cond x s (cond y t (s && ltb b a))) (cond x (a + b) (cond y (b - a) (a - b))) c
    go true y = refl
    go false true = refl
    go false false = refl

-- ---- finite of the sign s, or the infinity of that sign
abbrev pub Has : Bool → Float → Type 0
Has s nan = ⊥
Has s (inf t) = t ≡ s
Has s (fin t m e) = t ≡ s

has : (s : Bool) (x : Float) (a c : ℕ) → HasValue x s a c → Has s x
has s nan a c h = h
has s (inf t) a c h = absurd h
has s (fin t m e) a c h = h.0

units-has : (f : Format) (s : Bool) (q k : ℕ) → Has s (units f s q k)
unfolding units
units-has f s q k = go (ltb (q * 2 ^ k) (2 ^ (low f + suc (emax f))))
  where
    go : (b : Bool) → Has s (cond b (odd (suc (prec f)) s q k (low f)) (inf s))
    go true = has s (odd (suc (prec f)) s q k (low f)) (q * 2 ^ k) (2 ^ low f) (odd_sign (suc (prec f)) s q k (low f))
    go false = refl

pub round_has : (f : Format) (s : Bool) (a c : ℕ) → Has s (round f s a c)
round_has f s a c = subst (λ (x : Float). Has s x) (sym (round_is f s a c)) (units-has f s _ _)

-- ---- what is negative is below 60
plus_pos : (a b : ℕ) → 0 < b → 0 < a + b
plus_pos a b h = omega arith

pub neg_below : (x : Float) → Has true x → T (lt x sixty)
unfolding lt
neg_below nan h = h
neg_below (inf t) h = rw h tt
neg_below (fin t m e) h = rw h (lt→ltb 0 (m * up e * 1 + 60 * down e) (plus_pos (m * up e * 1) (60 * down e) (mul-pos (omega arith) (down_pos e))))

pub round_neg_below : (f : Format) (a c : ℕ) → T (lt (round f true a c) sixty)
round_neg_below f a c = neg_below (round f true a c) (round_has f true a c)
