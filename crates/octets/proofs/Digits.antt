-- The decimal digits of a number: turns of the printer, their value, and no zero in front.
use mathlib.Core.Path.{◌≡◌, refl, sym, subst}
use mathlib.Core.List.{List, [], ◌∷◌, ◌++◌, append_assoc, append-nil}
use Prim.Native.Nat.{ℕ, zero, suc, ◌+◌, ◌*◌, ◌-◌, ◌/◌, ◌%◌, ◌^◌, ◌≤◌, ◌<◌}
use native.Mathlib.Nat.{pow-suc, div-lt_iff_lt-mul}
use native.Mathlib.Decide.{dec_le, dec_lt}
use native.Mathlib.Numerals.{sub-one}
use native.Mathlib.Omega.{arith}
use lib.Dec.{lit<}
use lib.ListN.{length, get_or, length-append, get_or-append}
use lib.Seq.{get_or-append_seam}
use borrow.Author.Tests.{le-leb, lt-leb}
use Rattle.octets.specs.Text.{digits, decimal, value_from, each}

pub digits-none : (k n : ℕ) → k ≡ 0 → digits k n ≡ []
unfolding digits
digits-none k n e = rw e

pub digits_more : (k n : ℕ) → (k ≡ 0 → ⊥) → 10 ≤ n → digits k n ≡ digits (k - 1) (n / 10) ++ ((48 + n % 10) ∷ [])
unfolding digits
digits_more zero n f h = absurd (f refl)
digits_more (suc k) n f h = rw (sub-one, le-leb 10 n h)

pub digits-one : (k n : ℕ) → (k ≡ 0 → ⊥) → n < 10 → digits k n ≡ (48 + n % 10) ∷ []
unfolding digits
digits-one zero n f h = absurd (f refl)
digits-one (suc k) n f h = rw (lt-leb 10 n h)

value_snoc : (h : ℕ) (xs : List ℕ) (x : ℕ) → value_from h (xs ++ (x ∷ [])) ≡ value_from h xs * 10 + (x - 48)
value_snoc h [] x = refl
value_snoc h (y ∷ ys) x = value_snoc (h * 10 + (y - 48)) ys x

-- a suc is not 0
some : (k : ℕ) → suc k ≡ 0 → ⊥
some k e = omega arith

fewer : (k n : ℕ) → n < 10 ^ suc k → n / 10 < 10 ^ k
fewer k n h = (div-lt_iff_lt-mul {x = n} (lit< tt)).1 (rw pow-suc at h)

-- the digits have the number's value
pub value_of_digits : (k n : ℕ) → n < 10 ^ k → value_from 0 (digits k n) ≡ n
value_of_digits zero n h = rw (digits-none 0 n refl) (omega arith)
value_of_digits (suc k) n h = elim (dec_le 10 n) [
  | yes w ↦
      let shorter : suc k - 1 ≡ k = omega arith in
      rw (digits_more (suc k) n (some k) w, shorter, value_snoc 0 (digits k (n / 10)) (48 + n % 10), value_of_digits k (n / 10) (fewer k n h))
      (omega arith)
  | no f ↦
      let w : n < 10 = omega (arith, f) in
      rw (digits-one (suc k) n (some k) w) (omega arith)
]

pub value_of_decimal : (n : ℕ) → n < 10 ^ 10 → value_from 0 (decimal n) ≡ n
value_of_decimal n h = value_of_digits 10 n h

digits-any : (k n : ℕ) → 0 < length (digits (suc k) n)
digits-any k n = elim (dec_le 10 n) [
  | yes w ↦ rw (digits_more (suc k) n (some k) w, length-append) (omega arith)
  | no f ↦ rw (digits-one (suc k) n (some k) (omega (arith, f))) (omega arith)
]

-- the first digit of a number above 0 is no 0
pub no_zero_in_front : (k n : ℕ) → 0 < n → n < 10 ^ k → 48 < get_or (digits k n) 0 0
no_zero_in_front zero n p h = absurd (omega arith)
no_zero_in_front (suc zero) n p h =
    let w : n < 10 = h in
    rw (digits-one 1 n (some 0) w) (omega arith)
no_zero_in_front (suc (suc k)) n p h = elim (dec_le 10 n) [
  | yes w ↦
      let shorter : suc (suc k) - 1 ≡ suc k = omega arith in
      rw (digits_more (suc (suc k)) n (some (suc k)) w, shorter, get_or-append (digits (suc k) (n / 10)) ((48 + n % 10) ∷ []) 0 0 (digits-any k (n / 10)))
      (no_zero_in_front (suc k) (n / 10) (omega arith) (fewer (suc k) n h))
  | no f ↦
      let w : n < 10 = omega (arith, f) in
      rw (digits-one (suc (suc k)) n (some (suc k)) w) (omega arith)
]

-- and 0 is one digit
pub decimal_of_zero : decimal 0 ≡ 48 ∷ []
decimal_of_zero = digits-one 10 0 (some 9) (lit< tt)

abbrev Digit : ℕ → Type 0
Digit x = (48 ≤ x) × (x ≤ 57)

digit_snoc : (xs : List ℕ) (x : ℕ) → ((i : ℕ) → i < length xs → Digit (get_or xs i 0)) → Digit x → (i : ℕ) → i < length (xs ++ (x ∷ [])) → Digit (get_or (xs ++ (x ∷ [])) i 0)
digit_snoc xs x p d i h = elim (dec_lt i (length xs)) [
  | yes w ↦ rw (get_or-append xs (x ∷ []) 0 i w) (p i w)
  | no f ↦
      let last : i ≡ length xs = omega (arith, f, length-append xs (x ∷ [])) in
      subst (λ (k : ℕ). Digit (get_or (xs ++ (x ∷ [])) k 0)) (sym last) (rw (get_or-append_seam xs x [] 0) d)
]

-- every one of them is a digit
pub digits_are : (k n i : ℕ) → i < length (digits k n) → Digit (get_or (digits k n) i 0)
digits_are zero n i h = absurd (omega (arith, rw (digits-none 0 n refl) at h))
digits_are (suc k) n i h = elim (dec_le 10 n) [
  | yes w ↦
      let shorter : suc k - 1 ≡ k = omega arith in
      let e : digits (suc k) n ≡ digits k (n / 10) ++ ((48 + n % 10) ∷ []) = rw (digits_more (suc k) n (some k) w, shorter) in
      rw e (digit_snoc (digits k (n / 10)) (48 + n % 10) (digits_are k (n / 10)) (omega arith) i (rw e at h))
  | no f ↦
      let e : digits (suc k) n ≡ (48 + n % 10) ∷ [] = digits-one (suc k) n (some k) (omega (arith, f)) in
      rw e (digit_snoc [] (48 + n % 10) (λ i h. absurd (omega arith)) (omega arith) i (rw e at h))
]

pub each_snoc : (f : ℕ → List ℕ) (xs : List ℕ) (x : ℕ) → each f (xs ++ (x ∷ [])) ≡ each f xs ++ f x
unfolding each
each_snoc f [] x = append-nil (f x)
each_snoc f (y ∷ ys) x = rw (each_snoc f ys x) (sym (append_assoc (f y) (each f ys) (f x)))
