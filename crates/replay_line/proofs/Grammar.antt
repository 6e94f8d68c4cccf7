-- Laws of the grammar: its limits, and the lines that are read back.
use Prim.Native.Nat.{ℕ, suc, zero, ◌+◌, ◌-◌, ◌≤◌, ◌<◌}
use mathlib.Core.Path.{◌≡◌, refl, sym, ap, subst, ◌∙◌}
use mathlib.Core.Logic.{inl, inr}
use mathlib.Core.Bool.{Bool, true, false, ◌&&◌}
use mathlib.Core.List.{List, [], ◌∷◌, ◌++◌}
use native.Mathlib.Omega.{arith}
use borrow.Author.Tests.{eqb-true, leb-true}
use lib.Dec.{leb, eqb}
use lib.ListN.{length, get_or, drop, length-drop}
use Rattle.std.specs.Prelude.{Option, Some, None}
use Rattle.octets.specs.Text.{pick, decimal, hex}
use Rattle.octets.specs.Tests.{all}
use Rattle.octets.proofs.Tests.{and_left, and_right, no_true}
use Rattle.octets.proofs.Numbers.{Octets}
use Rattle.replay_line.specs.Word.{word_of, behind_word, is_digit, is_number, value_of, digit_of, pairs_of, is_dash, is_packet, packet_in}
use Rattle.replay_line.specs.Line.{seconds_of, push_of, packet_word, line_by, line_of, has_packet, word_at, packet_of}
use Rattle.replay_line.specs.declared.line.Store.{Store}
use Rattle.replay_line.specs.declared.line.Store.TheVariants as store
use Rattle.replay_line.specs.declared.line.Order.TheVariants as order
use Rattle.replay_line.specs.declared.line.Line.{Line}
use Rattle.replay_line.specs.declared.line.Line.TheVariants as line
use Rattle.replay_line.proofs.Words.{either, hex-low, hex-parts, pairs_half, dash_none, hex-packet}
use Rattle.replay_line.proofs.Lines.{by_letter, word-pushed, line-is, packet-there, packet-is, packet-none}
use Rattle.replay_line.proofs.Spelt.{front, behind, no_space, value-back, number-back, packet-back, octets-back, dash_back, none-back}

-- ---- limits
number_short : (w : List ℕ) → is_number w ≡ true → length w ≤ 10
unfolding is_number
number_short w e =
    let n = length w in
    let rest = all (λ i. is_digit (get_or w i 0)) n && leb (value_of w) 4294967295 in
    leb-true n 10 (and_left (leb n 10) rest (and_right (leb 1 n) (leb n 10 && rest) e))

word-short : (w : List ℕ) → is_packet w ≡ true → length w ≤ 4096
word-short w p = elim (either (is_dash w)) [
  | inl e ↦ omega (arith, eqb-true (length w) 1 (and_left (eqb (length w) 1) (eqb (get_or w 0 0) 45) e))
  | inr e ↦ (hex-parts w p e).1
]

refused : (b : Bool) (x : Option Line) → (b ≡ true → x ≡ None) → pick b x None ≡ None
refused true x k = k refl
refused false x k = refl

-- two numbers, a packet and two spaces
too_long : (r : List ℕ) (n : ℕ) → 4118 < length r → line_by n r ≡ None
too_long r n h =
    let a = is_number (word_of r) in
    let b = is_number (word_of (behind_word r)) in
    let k : length (behind_word r) ≡ length r - (length (word_of r) + 1) = length-drop (length (word_of r) + 1) r in
    let m : length (packet_word r) ≡ length (behind_word r) - (length (word_of (behind_word r)) + 1) = length-drop (length (word_of (behind_word r)) + 1) (behind_word r) in
    by_letter r (λ n x. x ≡ None)
    (λ s n _ _. refused a _ (λ p. refused (b && is_packet (packet_word r)) _ (λ q.
    absurd (omega (arith, k, m, number_short (word_of r) p, number_short (word_of (behind_word r)) (and_left b (is_packet (packet_word r)) q), word-short (packet_word r) (and_right b (is_packet (packet_word r)) q))))))
    (refused (a && is_number (behind_word r)) _ (λ p. absurd (omega (arith, k, number_short (word_of r) (and_left a (is_number (behind_word r)) p), number_short (behind_word r) (and_right a (is_number (behind_word r)) p)))))
    (refused (is_number r) _ (λ p. absurd (omega (arith, number_short r p))))
    (refused (is_packet r) _ (λ p. absurd (omega (arith, word-short r p))))
    (refused (is_packet r) _ (λ p. absurd (omega (arith, word-short r p))))
    (λ n. refl)
    n

-- so a reader may drop what stands behind 4,121 octets
pub long_bad : (l : List ℕ) → 4120 < length l → line_of l ≡ None
unfolding line_of
long_bad l h = refused (leb 2 (length l) && eqb (get_or l 1 0) 32) _ (λ _. too_long (drop 2 l) (get_or l 0 0) (omega (arith, length-drop 2 l)))

-- ---- packets
-- the size that a line carries
abbrev pub size_of : Option Line → ℕ
size_of None = 0
size_of (Some (line.X25 n)) = n
size_of (Some (line.Network n)) = n
size_of (Some (line.Ordered (order.Push s at link n))) = n
size_of (Some (line.Ordered (order.Tidy at link))) = 0
size_of (Some (line.Ordered (order.Close link))) = 0

sized : (b : Bool) (x : Option Line) (m : ℕ) → (has_packet x ≡ true → size_of x ≡ m) → has_packet (pick b x None) ≡ true → size_of (pick b x None) ≡ m
sized true x m k h = k h
sized false x m k h = no_true h

size-by : (r : List ℕ) (n : ℕ) → has_packet (line_by n r) ≡ true → size_of (line_by n r) ≡ length (packet_in (word_at n r))
size-by r n =
    let a = is_number (word_of r) in
    let b = is_number (word_of (behind_word r)) in
    by_letter r (λ n x. has_packet x ≡ true → size_of x ≡ length (packet_in (word_at n r)))
    (λ s n e f. sized a _ _ (sized (b && is_packet (packet_word r)) _ _ (λ _. rw (word-pushed n r e f))))
    (sized (a && is_number (behind_word r)) _ _ (λ q. no_true q))
    (sized (is_number r) _ _ (λ q. no_true q))
    (sized (is_packet r) _ _ (λ _. refl))
    (sized (is_packet r) _ _ (λ _. refl))
    (λ n q. no_true q)
    n

pub packet-size : (l : List ℕ) → has_packet (line_of l) ≡ true → size_of (line_of l) ≡ length (packet_of l)
unfolding line_of
packet-size l h = rw (← packet-is l h) (sized (leb 2 (length l) && eqb (get_or l 1 0) 32) _ _ (size-by (drop 2 l) (get_or l 0 0)) h)

in_short : (w : List ℕ) → is_packet w ≡ true → length (packet_in w) ≤ 2048
in_short w p = elim (either (is_dash w)) [
  | inl e ↦ rw (dash_none w e) (omega arith)
  | inr e ↦ rw (hex-packet w e) (omega (arith, pairs_half w, (hex-parts w p e).1))
]

pub packet-short : (l : List ℕ) → length (packet_of l) ≤ 2048
packet-short l = elim (either (has_packet (line_of l))) [
  | inl h ↦ rw (← packet-is l h) (in_short (word_at (get_or l 0 0) (drop 2 l)) (packet-there l h))
  | inr h ↦ rw (← packet-none l h) (omega arith)
]

pairs_octets : (w : List ℕ) → ((i : ℕ) → i < length w → digit_of (get_or w i 0) ≤ 15) → Octets (pairs_of w)
unfolding pairs_of
pairs_octets [] p i h = absurd (omega arith)
pairs_octets (x ∷ []) p i h = absurd (omega arith)
pairs_octets (x ∷ (y ∷ w)) p zero h = omega (arith, p 0 (omega arith), p 1 (omega arith))
pairs_octets (x ∷ (y ∷ w)) p (suc i) h = pairs_octets w (λ j q. p (suc (suc j)) (omega arith)) i (omega arith)

in_octets : (w : List ℕ) → is_packet w ≡ true → Octets (packet_in w)
in_octets w p = elim (either (is_dash w)) [
  | inl e ↦ subst Octets (sym (dash_none w e)) (λ i h. absurd (omega arith))
  | inr e ↦ subst Octets (sym (hex-packet w e)) (pairs_octets w (λ i h. hex-low w i (hex-parts w p e).3 h))
]

pub packet-octets : (l : List ℕ) → Octets (packet_of l)
packet-octets l = elim (either (has_packet (line_of l))) [
  | inl h ↦ subst Octets (packet-is l h) (in_octets (word_at (get_or l 0 0) (drop 2 l)) (packet-there l h))
  | inr h ↦ subst Octets (packet-none l h) (λ i q. absurd (omega arith))
]

-- ---- lines that are read back
lined : (n : ℕ) (r : List ℕ) → line_of (n ∷ (32 ∷ r)) ≡ line_by n r
lined n r = sym (line-is (n ∷ (32 ∷ r)) (omega arith) refl)

-- the packet of a line with one, by its word
carried : (n : ℕ) (r w : List ℕ) → has_packet (line_of (n ∷ (32 ∷ r))) ≡ true → word_at n r ≡ w → packet_of (n ∷ (32 ∷ r)) ≡ packet_in w
carried n r w h e = sym (packet-is (n ∷ (32 ∷ r)) h) ∙ ap packet_in e

abbrev pub letter_of : Store → ℕ
letter_of store.X25 = 88
letter_of store.Clnp = 67
letter_of store.Cotp = 84

pushes : (s : Store) (r : List ℕ) → line_by (letter_of s) r ≡ push_of s r
unfolding line_by
pushes store.X25 r = refl
pushes store.Clnp r = refl
pushes store.Cotp r = refl

pushed-word : (s : Store) (r : List ℕ) → word_at (letter_of s) r ≡ packet_word r
pushed-word store.X25 r = refl
pushed-word store.Clnp r = refl
pushed-word store.Cotp r = refl

module _ (ms link : ℕ) (ms-fits : ms < 4294967296) (link_fits : link < 4294967296) where
  abbrev two : List ℕ → List ℕ
  two w = decimal ms ++ (32 ∷ (decimal link ++ (32 ∷ w)))

  two_words : (w : List ℕ) → packet_word (two w) ≡ w
  two_words w = rw (behind (decimal ms) (decimal link ++ (32 ∷ w)) (no_space ms), behind (decimal link) w (no_space link))

  pushed : (s : Store) (w : List ℕ) → is_packet w ≡ true → line_of (letter_of s ∷ (32 ∷ two w)) ≡ Some (line.Ordered (order.Push s (seconds_of ms) link (length (packet_in w))))
  pushed s w p = lined (letter_of s) (two w) ∙ pushes s (two w)
      ∙ rw (behind (decimal ms) (decimal link ++ (32 ∷ w)) (no_space ms), front (decimal ms) (decimal link ++ (32 ∷ w)) (no_space ms), behind (decimal link) w (no_space link), front (decimal link) w (no_space link), number-back ms ms-fits, number-back link link_fits, p, value-back ms ms-fits, value-back link link_fits)

  push-packet : (s : Store) (w : List ℕ) → is_packet w ≡ true → packet_of (letter_of s ∷ (32 ∷ two w)) ≡ packet_in w
  push-packet s w p = carried (letter_of s) (two w) w (rw (pushed s w p)) (pushed-word s (two w) ∙ two_words w)

  -- X, C, T with octets, and with none
  pub push-back : (s : Store) (x : List ℕ) → Octets x → 1 ≤ length x → length x ≤ 2048
      → (line_of (letter_of s ∷ (32 ∷ (decimal ms ++ (32 ∷ (decimal link ++ (32 ∷ hex x)))))) ≡ Some (line.Ordered (order.Push s (seconds_of ms) link (length x))))
      × (packet_of (letter_of s ∷ (32 ∷ (decimal ms ++ (32 ∷ (decimal link ++ (32 ∷ hex x)))))) ≡ x)
  push-back s x p low high =
      let e : packet_in (hex x) ≡ x = octets-back x p low high in
      (pushed s (hex x) (packet-back x p low high) ∙ ap (λ (w : List ℕ). Some (line.Ordered (order.Push s (seconds_of ms) link (length w)))) e, push-packet s (hex x) (packet-back x p low high) ∙ e)

  pub push-back-none : (s : Store)
      → (line_of (letter_of s ∷ (32 ∷ (decimal ms ++ (32 ∷ (decimal link ++ (32 ∷ (45 ∷ []))))))) ≡ Some (line.Ordered (order.Push s (seconds_of ms) link 0)))
      × (packet_of (letter_of s ∷ (32 ∷ (decimal ms ++ (32 ∷ (decimal link ++ (32 ∷ (45 ∷ []))))))) ≡ [])
  push-back-none s = (pushed s (45 ∷ []) dash_back ∙ ap (λ (w : List ℕ). Some (line.Ordered (order.Push s (seconds_of ms) link (length w)))) none-back, push-packet s (45 ∷ []) dash_back ∙ none-back)

  -- E
  pub tidy-back : line_of (69 ∷ (32 ∷ (decimal ms ++ (32 ∷ decimal link)))) ≡ Some (line.Ordered (order.Tidy (seconds_of ms) link))
  unfolding line_by
  tidy-back = lined 69 (decimal ms ++ (32 ∷ decimal link))
      ∙ rw (behind (decimal ms) (decimal link) (no_space ms), front (decimal ms) (decimal link) (no_space ms), number-back ms ms-fits, number-back link link_fits, value-back ms ms-fits, value-back link link_fits)

-- Q
pub close-back : (link : ℕ) → link < 4294967296 → line_of (81 ∷ (32 ∷ decimal link)) ≡ Some (line.Ordered (order.Close link))
unfolding line_by
close-back link h = lined 81 (decimal link) ∙ rw (number-back link h, value-back link h)

-- P and N
x25_shown : (w : List ℕ) → is_packet w ≡ true → (line_of (80 ∷ (32 ∷ w)) ≡ Some (line.X25 (length (packet_in w)))) × (packet_of (80 ∷ (32 ∷ w)) ≡ packet_in w)
unfolding line_by
x25_shown w p = let e : line_of (80 ∷ (32 ∷ w)) ≡ Some (line.X25 (length (packet_in w))) = lined 80 w ∙ rw p in (e, carried 80 w w (rw e) refl)

network_shown : (w : List ℕ) → is_packet w ≡ true → (line_of (78 ∷ (32 ∷ w)) ≡ Some (line.Network (length (packet_in w)))) × (packet_of (78 ∷ (32 ∷ w)) ≡ packet_in w)
unfolding line_by
network_shown w p = let e : line_of (78 ∷ (32 ∷ w)) ≡ Some (line.Network (length (packet_in w))) = lined 78 w ∙ rw p in (e, carried 78 w w (rw e) refl)

module _ (x : List ℕ) (p : Octets x) (low : 1 ≤ length x) (high : length x ≤ 2048) where
  pub x25_back : (line_of (80 ∷ (32 ∷ hex x)) ≡ Some (line.X25 (length x))) × (packet_of (80 ∷ (32 ∷ hex x)) ≡ x)
  x25_back =
      let e : packet_in (hex x) ≡ x = octets-back x p low high in
      let k = x25_shown (hex x) (packet-back x p low high) in
      (k.0 ∙ ap (λ (w : List ℕ). Some (line.X25 (length w))) e, k.1 ∙ e)

  pub network_back : (line_of (78 ∷ (32 ∷ hex x)) ≡ Some (line.Network (length x))) × (packet_of (78 ∷ (32 ∷ hex x)) ≡ x)
  network_back =
      let e : packet_in (hex x) ≡ x = octets-back x p low high in
      let k = network_shown (hex x) (packet-back x p low high) in
      (k.0 ∙ ap (λ (w : List ℕ). Some (line.Network (length w))) e, k.1 ∙ e)

pub x25_back-none : (line_of (80 ∷ (32 ∷ (45 ∷ []))) ≡ Some (line.X25 0)) × (packet_of (80 ∷ (32 ∷ (45 ∷ []))) ≡ [])
unfolding line_of line_by is_packet packet_in packet_of
x25_back-none = (refl, refl)

pub network_back-none : (line_of (78 ∷ (32 ∷ (45 ∷ []))) ≡ Some (line.Network 0)) × (packet_of (78 ∷ (32 ∷ (45 ∷ []))) ≡ [])
unfolding line_of line_by is_packet packet_in packet_of
network_back-none = (refl, refl)

-- ---- refusals
pub empty_bad : line_of [] ≡ None
unfolding line_of
empty_bad = refl

-- Q 00000000001: eleven digits
pub eleven_bad : line_of (81 ∷ 32 ∷ 48 ∷ 48 ∷ 48 ∷ 48 ∷ 48 ∷ 48 ∷ 48 ∷ 48 ∷ 48 ∷ 48 ∷ 49 ∷ []) ≡ None
unfolding line_of line_by is_number
eleven_bad = refl
