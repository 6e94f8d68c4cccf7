-- A number in decimal and octets in hex are read back.
use Prim.Native.Nat.{ℕ, suc, zero, ◌+◌, ◌-◌, ◌*◌, ◌/◌, ◌%◌, ◌≤◌, ◌<◌}
use mathlib.Core.Path.{◌≡◌, refl, sym, ◌∙◌}
use mathlib.Core.Bool.{true}
use mathlib.Core.List.{List, [], ◌∷◌, ◌++◌}
use native.Mathlib.Decide.{dec_le, dec_lt}
use native.Mathlib.Omega.{arith}
use borrow.Author.Tests.{ne_eqb, le-leb, lt-leb, lt-ltb, le-ltb}
use lib.ListN.{length, get_or, length-append}
use lib.Seq.{drop-append-add}
use Rattle.octets.specs.Text.{digits, decimal, hex_digit, hex_octet, each, hex}
use Rattle.octets.specs.Tests.{all}
use Rattle.octets.proofs.Tests.{all_of}
use Rattle.octets.proofs.Numbers.{Octets}
use Rattle.octets.proofs.Digits.{digits-none, digits_more, digits-one, digits_are, value_of_decimal}
use Rattle.replay_line.specs.Word.{up_to, word_of, behind_word, is_digit, value_of, is_number, digit_of, is_hex, pairs_of, is_packet, packet_in}
use Rattle.replay_line.proofs.Words.{hex_digit_lem, hex-small, hex-packet, packet_even, long_dash}

-- ---- the first word of a line
pub front : (w r : List ℕ) → ((i : ℕ) → i < length w → get_or w i 0 ≡ 32 → ⊥) → word_of (w ++ (32 ∷ r)) ≡ w
unfolding up_to
front [] r f = refl
front (x ∷ w) r f = rw (ne_eqb x 32 (f 0 (omega arith)), front w r (λ i h. f (suc i) (omega arith)))

pub behind : (w r : List ℕ) → ((i : ℕ) → i < length w → get_or w i 0 ≡ 32 → ⊥) → behind_word (w ++ (32 ∷ r)) ≡ r
behind w r f = rw (front w r f, drop-append-add w (32 ∷ r) 1)

-- ---- decimal
-- a suc is not 0
some : (k : ℕ) → suc k ≡ 0 → ⊥
some k e = omega arith

few : (k n : ℕ) → length (digits k n) ≤ k
few zero n = rw (digits-none 0 n refl) (omega arith)
few (suc k) n = elim (dec_le 10 n) [
  | yes w ↦
      let shorter : suc k - 1 ≡ k = omega arith in
      rw (digits_more (suc k) n (some k) w, shorter, length-append) (omega (arith, few k (n / 10)))
  | no f ↦ rw (digits-one (suc k) n (some k) (omega (arith, f))) (omega arith)
]

any : (k n : ℕ) → 1 ≤ length (digits (suc k) n)
any k n = elim (dec_le 10 n) [
  | yes w ↦ rw (digits_more (suc k) n (some k) w, length-append) (omega arith)
  | no f ↦ rw (digits-one (suc k) n (some k) (omega (arith, f))) (omega arith)
]

pub no_space : (n i : ℕ) → i < length (decimal n) → get_or (decimal n) i 0 ≡ 32 → ⊥
no_space n i h e = omega (arith, digits_are 10 n i h, e)

module _ (n : ℕ) (h : n < 4294967296) where
  pub value-back : value_of (decimal n) ≡ n
  value-back = value_of_decimal n (omega arith)

  pub number-back : is_number (decimal n) ≡ true
  unfolding is_number
  number-back =
      let d : all (λ i. is_digit (get_or (decimal n) i 0)) (length (decimal n)) ≡ true
      = all_of (λ i. is_digit (get_or (decimal n) i 0)) (length (decimal n))
      (λ i q. rw (le-leb 48 (get_or (decimal n) i 0) (digits_are 10 n i q).0, le-leb (get_or (decimal n) i 0) 57 (digits_are 10 n i q).1)) in
      rw (le-leb 1 (length (decimal n)) (any 9 n), le-leb (length (decimal n)) 10 (few 10 n), d, value-back, le-leb n 4294967295 (omega arith))

-- ---- hex
pub digit_back : (n : ℕ) → n < 16 → digit_of (hex_digit n) ≡ n
unfolding hex_digit
digit_back n h = elim (dec_lt n 10) [
  | yes w ↦
      let l : 48 ≤ 48 + n = omega arith in
      let m : 48 + n ≤ 57 = omega arith in
      let e : 48 + n - 48 ≡ n = omega arith in
      rw (lt-ltb n 10 w) (sym (hex_digit_lem (48 + n) (rw (le-leb 48 (48 + n) l, le-leb (48 + n) 57 m))) ∙ e)
  | no f ↦
      let w : 10 ≤ n = omega (arith, f) in
      let l : 48 ≤ 87 + n = omega arith in
      let m : 57 < 87 + n = omega arith in
      let e : 87 + n - 87 ≡ n = omega arith in
      rw (le-ltb n 10 w) (sym (hex-small (87 + n) (rw (le-leb 48 (87 + n) l, lt-leb (87 + n) 57 m)) (omega arith) (omega arith)) ∙ e)
]

pub hex-length : (s : List ℕ) → length (hex s) ≡ 2 * length s
unfolding each hex_octet
hex-length [] = refl
hex-length (x ∷ s) = omega (arith, hex-length s)

pub pairs_back : (s : List ℕ) → Octets s → pairs_of (hex s) ≡ s
unfolding each hex_octet pairs_of
pairs_back [] p = refl
pairs_back (x ∷ s) p =
    let x-low : x < 256 = p 0 (omega arith) in
    let e : x / 16 * 16 + x % 16 ≡ x = omega arith in
    rw (digit_back (x / 16) (omega arith), digit_back (x % 16) (omega arith), pairs_back s (λ i h. p (suc i) (omega arith)), e)

hex-digits : (s : List ℕ) → Octets s → (i : ℕ) → i < length (hex s) → is_hex (get_or (hex s) i 0) ≡ true
unfolding each hex_octet
hex-digits [] p i h = absurd (omega arith)
hex-digits (x ∷ s) p zero h = let x-low : x < 256 = p 0 (omega arith) in rw (digit_back (x / 16) (omega arith)) (le-leb (x / 16) 15 (omega arith))
hex-digits (x ∷ s) p (suc zero) h = rw (digit_back (x % 16) (omega arith)) (le-leb (x % 16) 15 (omega arith))
hex-digits (x ∷ s) p (suc (suc i)) h = hex-digits s (λ j q. p (suc j) (omega arith)) i (omega arith)

module _ (s : List ℕ) (p : Octets s) (low : 1 ≤ length s) (high : length s ≤ 2048) where
  pub packet-back : is_packet (hex s) ≡ true
  packet-back =
      let n : length (hex s) ≡ 2 * length s = hex-length s in
      sym (packet_even (hex s) (long_dash (hex s) (omega arith)) (omega arith) (omega arith) (omega arith))
      ∙ all_of (λ i. is_hex (get_or (hex s) i 0)) (length (hex s)) (hex-digits s p)

  pub octets-back : packet_in (hex s) ≡ s
  octets-back = hex-packet (hex s) (long_dash (hex s) (omega (arith, hex-length s))) ∙ pairs_back s p

pub dash_back : is_packet (45 ∷ []) ≡ true
unfolding is_packet
dash_back = refl

pub none-back : packet_in (45 ∷ []) ≡ []
unfolding packet_in
none-back = refl
