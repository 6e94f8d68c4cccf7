-- DT TPDUs as pieces of units: the piece, and the user data within the octets.
use Prim.Native.Nat.{ℕ, ◌+◌, ◌/◌, ◌%◌, ◌≤◌}
use mathlib.Core.Path.{◌≡◌}
use mathlib.Core.List.{List}
use mathlib.Core.Bool.{not}
use native.Mathlib.Omega.{arith}
use borrow.Author.Tests.{le-ltb, ltb-false, eq-eqb, ne_eqb}
use lib.Dec.{ltb, eqb}
use lib.ListN.{length, get_or}
use Rattle.std.specs.Prelude.{Option, Some}
use Rattle.octets.specs.Text.{pick}
use Rattle.octets.specs.Read.{be16}
use Rattle.octets.proofs.Picks.{pick_elim}
use Rattle.cotp.specs.Tpdu.{seq_of}
use Rattle.cotp.specs.Segment.{segment_of, user_from}
use Rattle.cotp.specs.declared.segment.Segment.{Segment}

abbrev pub piece : ℕ → ℕ → ℕ → ℕ → Option Segment
piece dst eot number user = Some (record { dst = dst; eot = eot; number = number; user = user })

pub is-piece : (s : List ℕ) (li : ℕ) → get_or s 0 0 ≡ li → li + 1 ≤ length s → (li ≡ 0 → ⊥) → (li ≡ 255 → ⊥) → get_or s 1 0 / 16 ≡ 15
    → pick (eqb (li % 2) 1) 8 5 ≤ length s → segment_of s ≡ piece (be16 (get_or s 2 0) (get_or s 3 0)) (get_or s 4 0 / 128) (seq_of s (eqb (li % 2) 1)) (li + 1)
unfolding segment_of
is-piece s li e whole some low code least =
    simp (e, le-ltb (length s) (li + 1) whole, ne_eqb li 0 some, ne_eqb li 255 low, eq-eqb (get_or s 1 0 / 16) 15 code, le-ltb (length s) (pick (eqb (li % 2) 1) 8 5) least)

-- user data begin within the octets, so that they are all that stands behind the header
abbrev Within : List ℕ → Option Segment → Type 0
Within s g = user_from s g ≤ length s

pub user_within : (s : List ℕ) → user_from s (segment_of s) ≤ length s
unfolding segment_of
user_within s =
    let li = get_or s 0 0 in
    pick_elim (Within s) (ltb (length s) (li + 1)) (λ h. omega arith)
    (λ l. pick_elim (Within s) (eqb li 0) (λ h. omega arith)
    (λ h. pick_elim (Within s) (eqb li 255) (λ h. omega arith)
    (λ h. pick_elim (Within s) (not (eqb (get_or s 1 0 / 16) 15)) (λ h. omega arith)
    (λ h. pick_elim (Within s) (ltb (length s) (pick (eqb (li % 2) 1) 8 5)) (λ h. omega arith) (λ h. ltb-false (length s) (li + 1) l)))))
