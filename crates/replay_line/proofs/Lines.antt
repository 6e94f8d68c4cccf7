-- Laws of lines.
use Prim.Native.Nat.{ℕ, ◌+◌, ◌≤◌}
use mathlib.Core.Path.{◌≡◌, refl, sym, subst}
use mathlib.Core.Logic.{◌⊎◌, inl, inr}
use mathlib.Core.Bool.{Bool, true, false, ◌&&◌}
use mathlib.Core.List.{List, []}
use native.Mathlib.Nat.{zero-add}
use native.Mathlib.Omega.{arith}
use borrow.Author.Tests.{eqb-true, eq-eqb, ne_eqb, leb-true, le-leb}
use lib.Dec.{leb, eqb}
use lib.ListN.{length, get_or, take, drop}
use Rattle.std.specs.Prelude.{Option, None}
use Rattle.octets.specs.Text.{pick}
use Rattle.octets.proofs.Tests.{and_left, and_right, no_true}
use Rattle.replay_line.specs.Word.{up_to, word_of, behind_word, is_number, is_packet, packet_in}
use Rattle.replay_line.specs.Line.{shown, close_of, tidy_of, push_of, packet_word, line_by, line_of, has_packet, word_at, packet_of}
use Rattle.replay_line.specs.declared.line.Store.{Store}
use Rattle.replay_line.specs.declared.line.Store.TheVariants as store
use Rattle.replay_line.specs.declared.line.Line.{Line}
use Rattle.replay_line.specs.declared.line.Line.TheVariants as line
use Rattle.replay_line.proofs.Words.{either, up_to_take}

-- the first word, by its place
pub word-is : (l : List ℕ) (end : ℕ) → end ≡ 0 + length (up_to 32 l) → take end l ≡ word_of l
word-is l end e = rw (e, zero-add) (up_to_take 32 l)

-- ---- the letter
tested : (P : ℕ → Option Line → Type 0) (n k : ℕ) (a b : Option Line) → P k a → P n b → P n (pick (eqb n k) a b)
tested P n k a b y z = elim (either (eqb n k)) [ inl h ↦ rw h (subst (λ (m : ℕ). P m a) (sym (eqb-true n k h)) y) | inr h ↦ rw h z ]

-- what holds of each letter's line and of a bad one holds of every line
pub by_letter : (r : List ℕ) (P : ℕ → Option Line → Type 0) → ((s : Store) (n : ℕ) → (n ≡ 80 → ⊥) → (n ≡ 78 → ⊥) → P n (push_of s r)) → P 69 (tidy_of r)
    → P 81 (close_of r) → P 80 (shown line.X25 r) → P 78 (shown line.Network r) → ((n : ℕ) → P n None) → (n : ℕ) → P n (line_by n r)
unfolding line_by
by_letter r P x e q p w bad n =
    tested P n 88 (push_of store.X25 r) _ (x store.X25 88 (λ h. omega (arith, h)) (λ h. omega (arith, h)))
    (tested P n 67 (push_of store.Clnp r) _ (x store.Clnp 67 (λ h. omega (arith, h)) (λ h. omega (arith, h)))
    (tested P n 84 (push_of store.Cotp r) _ (x store.Cotp 84 (λ h. omega (arith, h)) (λ h. omega (arith, h)))
    (tested P n 69 (tidy_of r) _ e (tested P n 81 (close_of r) _ q (tested P n 80 (shown line.X25 r) _ p (tested P n 78 (shown line.Network r) _ w (bad n)))))))

-- ---- a line with a packet
picked : (b : Bool) (x : Option Line) → has_packet (pick b x None) ≡ true → (b ≡ true) × (has_packet x ≡ true)
picked true x h = (refl, h)
picked false x h = no_true h

word-shown : (n : ℕ) (r : List ℕ) → (n ≡ 80) ⊎ (n ≡ 78) → word_at n r ≡ r
word-shown n r (inl e) = rw e
word-shown n r (inr e) = rw e

pub word-pushed : (n : ℕ) (r : List ℕ) → (n ≡ 80 → ⊥) → (n ≡ 78 → ⊥) → word_at n r ≡ packet_word r
word-pushed n r e f = rw (ne_eqb n 80 e, ne_eqb n 78 f)

-- its word is a packet's
pub packet-by : (r : List ℕ) (n : ℕ) → has_packet (line_by n r) ≡ true → is_packet (word_at n r) ≡ true
packet-by r n = by_letter r (λ n x. has_packet x ≡ true → is_packet (word_at n r) ≡ true)
    (λ s n e f h. rw (word-pushed n r e f) (and_right (is_number (word_of (behind_word r))) (is_packet (packet_word r)) (picked (is_number (word_of (behind_word r)) && is_packet (packet_word r)) _ (picked (is_number (word_of r)) _ h).1).0))
    (λ h. no_true (picked (is_number (word_of r) && is_number (behind_word r)) _ h).1)
    (λ h. no_true (picked (is_number r) _ h).1)
    (λ h. (picked (is_packet r) _ h).0)
    (λ h. (picked (is_packet r) _ h).0)
    (λ n h. no_true h)
    n

module _ (l : List ℕ) where
  pub line-is : 2 ≤ length l → get_or l 1 0 ≡ 32 → line_by (get_or l 0 0) (drop 2 l) ≡ line_of l
  unfolding line_of
  line-is h e = rw (le-leb 2 (length l) h, eq-eqb (get_or l 1 0) 32 e)

  module _ (h : has_packet (line_of l) ≡ true) where
    pub packet-long-enough : 2 ≤ length l
    unfolding line_of
    packet-long-enough =
        leb-true 2 (length l) (and_left (leb 2 (length l)) (eqb (get_or l 1 0) 32) (picked (leb 2 (length l) && eqb (get_or l 1 0) 32) (line_by (get_or l 0 0) (drop 2 l)) h).0)

    pub packet-there : is_packet (word_at (get_or l 0 0) (drop 2 l)) ≡ true
    unfolding line_of
    packet-there = packet-by (drop 2 l) (get_or l 0 0) (picked (leb 2 (length l) && eqb (get_or l 1 0) 32) (line_by (get_or l 0 0) (drop 2 l)) h).1

    pub packet-is : packet_in (word_at (get_or l 0 0) (drop 2 l)) ≡ packet_of l
    unfolding packet_of
    packet-is = rw h

  pub packet-none : has_packet (line_of l) ≡ false → [] ≡ packet_of l
  unfolding packet_of
  packet-none h = rw h
