-- Of whole seconds below 2 ^ 52 in size `fresh_t` is the rule on whole numbers. And a NaN is never fresh.
use mathlib.Core.Path.{◌≡◌, refl, sym, ap, ◌∙◌}
use mathlib.Core.Bool.{Bool, true, false, not, ◌&&◌, cond, beq}
use Prim.Native.Nat.{ℕ, zero, suc, ◌+◌, ◌-◌, ◌*◌, ◌^◌, ◌≤◌, ◌<◌}
use native.Mathlib.Nat.{add-mul, mul-sub, mul-pos, mul_comm, mul_assoc, mul-one, mul-le-mul_right, mul-lt-mul_of_pos_right}
use native.Mathlib.Omega.{arith}
use lib.Dec.{T, ltb, lt→ltb, ltb→lt, nltb→le}
use lib.IntN.{ℤ, pos, negsuc, nat_abs, ◌-ℤ◌}
use lib.Signed.{lt_z}
use lib.Ieee.{Float, nan, inf, fin, binary64, up, down, round, sum, add, neg, sub, lt, of_int}
use lib.Ieee.Fits.{down_pos}
use lib.Ieee.Exact.{HasValue}
use lib.Ieee.Back.{round_whole}
use lib.Ieee.Scale.{round_same}
use Rattle.clock.specs.Time.{sixty, fresh_t}
use Rattle.clock.proofs.Sign.{sgn, siz, sum_round, round_neg_below}

pub nan_now : (t : Float) → fresh_t nan t ≡ false
unfolding fresh_t sub add lt
nan_now t = refl

pub nan_then : (x : Float) → fresh_t x nan ≡ false
unfolding fresh_t sub add neg lt
nan_then nan = refl
nan_then (inf s) = refl
nan_then (fin s m e) = refl

-- ---- a whole number below 2 ^ 53 is exact
pub whole_exact : (s : Bool) (n : ℕ) → n < 2 ^ 53 → HasValue (round binary64 s n 1) s n 1
whole_exact s n h = round_whole binary64 s n (omega arith)

-- ---- the tests at a common factor
ltb_of_lt : (a b : ℕ) → a < b → ltb a b ≡ true
ltb_of_lt a b h = go (ltb a b) (lt→ltb a b h)
  where
    go : (x : Bool) → T x → x ≡ true
    go true t = refl
    go false t = absurd t

ltb_of_le : (a b : ℕ) → b ≤ a → ltb a b ≡ false
ltb_of_le a b h = go (ltb a b) (ltb→lt a b)
  where
    go : (x : Bool) → (T x → a < b) → x ≡ false
    go true f = absurd (omega (arith, f tt))
    go false f = refl

ltb_scale : (a b c : ℕ) → 0 < c → ltb (a * c) (b * c) ≡ ltb a b
ltb_scale a b c C = go (ltb a b) (ltb→lt a b) (nltb→le a b)
  where
    go : (x : Bool) → (T x → a < b) → (T (not x) → b ≤ a) → ltb (a * c) (b * c) ≡ x
    go true f g = ltb_of_lt (a * c) (b * c) (mul-lt-mul_of_pos_right (f tt) C)
    go false f g = ltb_of_le (a * c) (b * c) (mul-le-mul_right c (g tt))

sgn_scale : (s : Bool) (a : ℕ) (t : Bool) (b c : ℕ) → 0 < c → sgn s (a * c) t (b * c) ≡ sgn s a t b
sgn_scale s a t b c C = rw (ltb_scale a b c C, ltb_scale b a c C)

sub-mul : (a b c : ℕ) → a * c - b * c ≡ (a - b) * c
sub-mul a b c = rw (mul_comm a c, mul_comm b c, mul_comm (a - b) c) (sym (mul-sub c a b))

siz_scale : (s : Bool) (a : ℕ) (t : Bool) (b c : ℕ) → 0 < c → siz s (a * c) t (b * c) ≡ siz s a t b * c
siz_scale s a t b c C = rw (ltb_scale a b c C) (go (beq s t) (ltb a b))
  where
    go : (x y : Bool) → cond x (a * c + b * c) (cond y (b * c - a * c) (a * c - b * c)) ≡ cond x (a + b) (cond y (b - a) (a - b)) * c
    go true y = sym (add-mul a b c)
    go false true = sub-mul b a c
    go false false = sub-mul a b c

-- ---- the difference of two whole numbers, rounded
sub_fin : (s : Bool) (m : ℕ) (e : ℤ) (t : Bool) (n : ℕ) (d : ℤ) → sub binary64 (fin s m e) (fin t n d) ≡ sum binary64 s (m * up e * down d) (not t) (n * up d * down e) (down e * down d)
unfolding sub
sub_fin s m e t n d = refl

value-sub : (x y : Float) (s t : Bool) (a b : ℕ) → HasValue x s a 1 → HasValue y t b 1 → sub binary64 x y ≡ round binary64 (sgn s a (not t) b) (siz s a (not t) b) 1
value-sub nan y s t a b p q = absurd p
value-sub (inf u) y s t a b p q = absurd p
value-sub (fin u m e) nan s t a b p q = absurd q
value-sub (fin u m e) (inf v) s t a b p q = absurd q
value-sub (fin u m e) (fin v n d) s t a b p q =
    let c = down e * down d in
    let C : 0 < c = mul-pos (down_pos e) (down_pos d) in
    let x : m * up e * down d ≡ a * c = ap (λ (k : ℕ). k * down d) (sym (mul-one (m * up e)) ∙ p.1) ∙ mul_assoc a (down e) (down d) in
    let y : n * up d * down e ≡ b * c = ap (λ (k : ℕ). k * down e) (sym (mul-one (n * up d)) ∙ q.1) ∙ mul_assoc b (down d) (down e) ∙ ap (λ (k : ℕ). b * k) (mul_comm (down d) (down e)) in
    rw (sub_fin, x, y, p.0, q.0)
    (sum_round binary64 s (a * c) (not t) (b * c) c
    ∙ ap (λ (g : Bool). round binary64 g (siz s (a * c) (not t) (b * c)) c) (sgn_scale s a (not t) b c C)
    ∙ ap (λ (z : ℕ). round binary64 (sgn s a (not t) b) z c) (siz_scale s a (not t) b c C)
    ∙ round_same binary64 (sgn s a (not t) b) (siz s a (not t) b * c) c (siz s a (not t) b) 1 C (omega arith) (mul-one _))

value-below : (x : Float) (n : ℕ) → HasValue x false n 1 → lt x sixty ≡ ltb n 60
unfolding lt
value-below nan n h = absurd h
value-below (inf t) n h = absurd h
value-below (fin t m e) n h = rw (h.0, h.1) (ltb_scale n 60 (down e) (down_pos e))

whole_below : (n : ℕ) → n < 2 ^ 53 → lt (round binary64 false n 1) sixty ≡ ltb n 60
whole_below n h = value-below (round binary64 false n 1) n (whole_exact false n h)

neg_true : (n : ℕ) → lt (round binary64 true n 1) sixty ≡ true
neg_true n = go (lt (round binary64 true n 1) sixty) (round_neg_below binary64 n 1)
  where
    go : (x : Bool) → T x → x ≡ true
    go true t = refl
    go false t = absurd t

-- ---- the theorem
abbrev minus? : ℤ → Bool
minus? (pos n) = false
minus? (negsuc n) = true

-- an integer's image, by its sign and its size
of_int_value : (z : ℤ) → nat_abs z < 2 ^ 52 → HasValue (of_int binary64 z) (minus? z) (nat_abs z) 1
unfolding of_int
of_int_value (pos n) h = whole_exact false n (omega arith)
of_int_value (negsuc n) h = whole_exact true (suc n) (omega arith)

of_sub : (x y : ℤ) → nat_abs x < 2 ^ 52 → nat_abs y < 2 ^ 52
    → fresh_t (of_int binary64 x) (of_int binary64 y) ≡ lt (round binary64 (sgn (minus? x) (nat_abs x) (not (minus? y)) (nat_abs y)) (siz (minus? x) (nat_abs x) (not (minus? y)) (nat_abs y)) 1) sixty
unfolding fresh_t
of_sub x y p q = ap (λ (z : Float). lt z sixty) (value-sub (of_int binary64 x) (of_int binary64 y) (minus? x) (minus? y) (nat_abs x) (nat_abs y) (of_int_value x p) (of_int_value y q))

-- the same by cases of the signs
apart : (t : Bool) (a b : ℕ) → a < 2 ^ 53 → b < 2 ^ 53 → (T t → a < b) → (T (not t) → b ≤ a)
    → lt (round binary64 (cond t true false) (cond t (b - a) (a - b)) 1) sixty ≡ lt_z (cond t (negsuc (b - suc a)) (pos (a - b))) (pos 60)
apart true a b p q f g = neg_true (b - a)
apart false a b p q f g = whole_below (a - b) (omega arith)

within : (t u : Bool) (a b : ℕ) → a < 2 ^ 53 → b < 2 ^ 53 → (T t → a < b) → (T (not t) → b ≤ a) → (T u → b < a) → (T (not u) → a ≤ b)
    → lt (round binary64 (cond t false (true && u)) (cond t (b - a) (a - b)) 1) sixty ≡ lt_z (cond u (negsuc (a - suc b)) (pos (b - a))) (pos 60)
within true true a b p q f g h k = absurd (omega (arith, f tt, h tt))
within true false a b p q f g h k = whole_below (b - a) (omega arith)
within false true a b p q f g h k = neg_true (a - b)
within false false a b p q f g h k = let e : a - b ≡ b - a = omega (arith, g tt, k tt) in whole_below (a - b) (omega arith) ∙ ap (λ (n : ℕ). ltb n 60) e

by_sign : (x y : ℤ) → nat_abs x < 2 ^ 52 → nat_abs y < 2 ^ 52
    → lt (round binary64 (sgn (minus? x) (nat_abs x) (not (minus? y)) (nat_abs y)) (siz (minus? x) (nat_abs x) (not (minus? y)) (nat_abs y)) 1) sixty ≡ lt_z (x -ℤ y) (pos 60)
by_sign (pos a) (pos zero) p q = let e : a - 0 ≡ a + 0 = omega arith in rw (ltb_of_le a 0 (omega arith)) (whole_below (a - 0) (omega arith) ∙ ap (λ (n : ℕ). ltb n 60) e)
by_sign (pos a) (pos (suc b)) p q = apart (ltb a (suc b)) a (suc b) (omega arith) (omega arith) (ltb→lt a (suc b)) (nltb→le a (suc b))
by_sign (pos a) (negsuc b) p q = whole_below (a + suc b) (omega arith)
by_sign (negsuc a) (pos zero) p q = rw (ltb_of_lt 0 (suc a) (omega arith)) (neg_true (suc a + 0))
by_sign (negsuc a) (pos (suc b)) p q = neg_true (suc a + suc b)
by_sign (negsuc a) (negsuc b) p q = within (ltb (suc a) (suc b)) (ltb (suc b) (suc a)) (suc a) (suc b) (omega arith) (omega arith) (ltb→lt (suc a) (suc b)) (nltb→le (suc a) (suc b)) (ltb→lt (suc b) (suc a)) (nltb→le (suc b) (suc a))

-- For whole seconds x and y of size below 2 ^ 52, the f64 rule is the rule on whole numbers.
pub fresh-whole : (x y : ℤ) → nat_abs x < 2 ^ 52 → nat_abs y < 2 ^ 52 → fresh_t (of_int binary64 x) (of_int binary64 y) ≡ lt_z (x -ℤ y) (pos 60)
fresh-whole x y p q = of_sub x y p q ∙ by_sign x y p q
