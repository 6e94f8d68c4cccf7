-- Laws of words.
use Prim.Native.Nat.{ℕ, ◌+◌, ◌-◌, ◌*◌, ◌/◌, ◌%◌, ◌≤◌, ◌<◌}
use mathlib.Core.Path.{◌≡◌, refl, sym, ap, ◌∙◌}
use mathlib.Core.Logic.{◌⊎◌, inl, inr}
use mathlib.Core.Bool.{Bool, true, false, ◌&&◌}
use mathlib.Core.List.{List, [], ◌∷◌, ◌++◌}
use native.Mathlib.Omega.{arith}
use native.Mathlib.Numerals.{add-one}
use borrow.Author.Tests.{eqb-true, eq-eqb, ne_eqb, leb-true, le-leb}
use lib.Dec.{leb, eqb}
use lib.ListN.{length, get_or, take, drop, length-drop}
use lib.Seq.{drop-cons, get_or-drop, take_all}
use Rattle.octets.specs.Text.{pick, value_from}
use Rattle.octets.specs.Emit.{Emits, on_from, top}
use Rattle.octets.specs.Tests.{all}
use Rattle.octets.proofs.Tests.{all-at, all_of, and_left, and_right, no_true}
use Rattle.replay_line.specs.Word.{up_to, is_digit, digit_of, is_hex, hex_in, pairs_of, is_dash, is_packet, packet_in}
use Rattle.std.specs.Prelude.{Option, Some, None, IsSome, ◌==◌, position, IsTrue, ◌↔◌}
use Rattle.std.specs.List.{position_or_len}

pub either : (b : Bool) → (b ≡ true) ⊎ (b ≡ false)
either true = inl refl
either false = inr refl

pub rest-is : (l : List ℕ) (k : ℕ) → take (length l - k) (drop k l) ≡ drop k l
rest-is l k = take_all (length l - k) (drop k l) (omega (arith, length-drop k l))

-- ---- a test of each octet, by an iterator and by `all`
pub all_says : (p : ℕ → Bool) (n : ℕ) (b : Bool) → (IsTrue b ↔ ((i : ℕ) → i < n → p i ≡ true)) → b ≡ all p n
all_says p n true h = sym (all_of p n (λ i q. (h.0 refl) i q))
all_says p n false h = elim (either (all p n)) [
  | inl e ↦ no_true (h.1 (λ i q. all-at p i n e q))
  | inr e ↦ sym e
]

-- ---- the first octet that is sep
module _ (sep : ℕ) where
  up_to_place : (s : List ℕ) → length (up_to sep s) ≡ position_or_len (λ x. x == sep) s
  unfolding up_to
  up_to_place [] = refl
  up_to_place (x ∷ s) = elim (either (eqb x sep)) [ inl e ↦ rw e | inr e ↦ rw e (omega (arith, up_to_place s)) ]

  pub up_to_short : (s : List ℕ) → length (up_to sep s) ≤ length s
  unfolding up_to
  up_to_short [] = omega arith
  up_to_short (x ∷ s) = elim (either (eqb x sep)) [ inl e ↦ rw e (omega arith) | inr e ↦ rw e (omega (arith, up_to_short s)) ]

  pub up_to_found : (s : List ℕ) (i : ℕ) → position (λ x. x == sep) s ≡ Some i → i ≡ length (up_to sep s)
  up_to_found s i e = grind (arith, up_to_place)

  pub up_to_none : (s : List ℕ) → position (λ x. x == sep) s ≡ None → length (up_to sep s) ≡ length s
  up_to_none s e = grind (arith, up_to_place, up_to_short)

  pub up_to_take : (s : List ℕ) → take (length (up_to sep s)) s ≡ up_to sep s
  unfolding up_to
  up_to_take [] = refl
  up_to_take (x ∷ s) = step x s (eqb x sep) (up_to_take s)
    where
      step : (x : ℕ) (s : List ℕ) (b : Bool) → take (length (up_to sep s)) s ≡ up_to sep s → take (length (pick b [] (x ∷ up_to sep s))) (x ∷ s) ≡ pick b [] (x ∷ up_to sep s)
      step x s true e = refl
      step x s false e = ap (λ (z : List ℕ). x ∷ z) e

-- ---- values
pub digit_low : (x : ℕ) → is_digit x ≡ true → (48 ≤ x) × (x ≤ 57)
digit_low x e = (leb-true 48 x (and_left (leb 48 x) (leb x 57) e), leb-true x 57 (and_right (leb 48 x) (leb x 57) e))

pub value_on : (w : List ℕ) (i v : ℕ) → i < length w → value_from (v * 10 + (get_or w i 0 - 48)) (drop (i + 1) w) ≡ value_from v (drop i w)
value_on w i v h = rw (add-one, drop-cons w i 0 h) refl

-- ---- pairs of digits
hex_told : (x a : ℕ) (r : Option ℕ) → r ≡ hex_in x → r ≡ Some a → a ≡ digit_of x
hex_told x a r e f = elim (either (is_hex x)) [
  | inl h ↦ let k : Some (digit_of x) ≡ Some a = rw h at (sym e ∙ f) in cc
  | inr h ↦ let k : None ≡ Some a = rw h at (sym e ∙ f) in cc
]

pub hex_some : (x : ℕ) (r : Option ℕ) → is_hex x ≡ true → r ≡ hex_in x → IsSome r
hex_some x r h e = rw (e, h) refl

abbrev pub more : List ℕ → List ℕ
more w = take (length w - 2) (drop 2 w)

pub pair_first : (w : List ℕ) (x y : Option ℕ) (a b : ℕ) → 2 ≤ length w → x ≡ hex_in (get_or w 0 0) → x ≡ Some a → y ≡ hex_in (get_or w 1 0) → y ≡ Some b
    → pairs_of w ≡ ((a * 16 + b) ∷ []) ++ pairs_of (more w)
unfolding pairs_of
pair_first [] x y a b h e f g k = absurd (omega arith)
pair_first (v ∷ []) x y a b h e f g k = absurd (omega arith)
pair_first (v ∷ (u ∷ w)) x y a b h e f g k = rw (rest-is (v ∷ (u ∷ w)) 2, hex_told v a x e f, hex_told u b y g k)

pub pair_none : (w : List ℕ) → length w < 2 → pairs_of w ≡ []
unfolding pairs_of
pair_none [] h = refl
pair_none (x ∷ []) h = refl
pair_none (x ∷ (y ∷ w)) h = absurd (omega arith)

pub pairs_half : (w : List ℕ) → length (pairs_of w) ≡ length w / 2
unfolding pairs_of
pairs_half [] = refl
pairs_half (x ∷ []) = refl
pairs_half (x ∷ (y ∷ w)) = omega (arith, pairs_half w)

pub hex-low : (w : List ℕ) (i : ℕ) → all (λ i. is_hex (get_or w i 0)) (length w) ≡ true → i < length w → digit_of (get_or w i 0) ≤ 15
hex-low w i e h = leb-true (digit_of (get_or w i 0)) 15 (all-at (λ i. is_hex (get_or w i 0)) i (length w) e h)

pub placed : {o p xs : List ℕ} {at n : ℕ} → Emits o at xs p n → n ≤ top
unfolding on_from
placed {o} {p} {xs} {at} {n} e = omega (arith, e.place)

pub hex_more : (w : List ℕ) → all (λ i. is_hex (get_or w i 0)) (length w) ≡ true → all (λ i. is_hex (get_or (more w) i 0)) (length (more w)) ≡ true
hex_more w h = rw (rest-is w 2) (all_of (λ i. is_hex (get_or (drop 2 w) i 0)) (length (drop 2 w)) (λ i q. rw (get_or-drop 2 w i 0) (all-at (λ i. is_hex (get_or w i 0)) (2 + i) (length w) h (omega (arith, length-drop 2 w)))))

-- ---- hex digits, read back
module _ (x : ℕ) where
  pub hex_digit_lem : is_digit x ≡ true → x - 48 ≡ digit_of x
  unfolding digit_of
  hex_digit_lem e = rw e

  pub hex-small : is_digit x ≡ false → 97 ≤ x → x ≤ 102 → x - 87 ≡ digit_of x
  unfolding digit_of
  hex-small e l h = rw (e, le-leb 97 x l, le-leb x 102 h)

-- ---- packets
module _ (w : List ℕ) where
  pub dash_none : is_dash w ≡ true → packet_in w ≡ []
  unfolding packet_in
  dash_none e = rw e

  pub hex-packet : is_dash w ≡ false → packet_in w ≡ pairs_of w
  unfolding packet_in
  hex-packet e = rw e

  pub packet_even : is_dash w ≡ false → 1 ≤ length w → length w ≤ 4096 → length w % 2 ≡ 0 → all (λ i. is_hex (get_or w i 0)) (length w) ≡ is_packet w
  unfolding is_packet
  packet_even e l h f = rw (e, le-leb 1 (length w) l, le-leb (length w) 4096 h, eq-eqb (length w % 2) 0 f)

  abbrev hex_tests : Bool
  hex_tests = all (λ i. is_hex (get_or w i 0)) (length w)

  -- what a packet that is no dash says of its word
  pub hex-parts : is_packet w ≡ true → is_dash w ≡ false → (1 ≤ length w) × (length w ≤ 4096) × (length w % 2 ≡ 0) × (hex_tests ≡ true)
  unfolding is_packet
  hex-parts p e =
      let n = length w in
      let k : (leb 1 n && (leb n 4096 && (eqb (n % 2) 0 && hex_tests))) ≡ true = rw e at p in
      let l : (leb n 4096 && (eqb (n % 2) 0 && hex_tests)) ≡ true = and_right (leb 1 n) (leb n 4096 && (eqb (n % 2) 0 && hex_tests)) k in
      let m : (eqb (n % 2) 0 && hex_tests) ≡ true = and_right (leb n 4096) (eqb (n % 2) 0 && hex_tests) l in
      (leb-true 1 n (and_left (leb 1 n) (leb n 4096 && (eqb (n % 2) 0 && hex_tests)) k), leb-true n 4096 (and_left (leb n 4096) (eqb (n % 2) 0 && hex_tests) l), eqb-true (n % 2) 0 (and_left (eqb (n % 2) 0) hex_tests m), and_right (eqb (n % 2) 0) hex_tests m)

  pub long_dash : 1 < length w → is_dash w ≡ false
  long_dash h = rw (ne_eqb (length w) 1 (λ e. omega (arith, e)))
