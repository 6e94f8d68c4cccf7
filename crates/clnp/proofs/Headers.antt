-- What a full header says of the octets, and each part that is found there.
use Prim.Native.Nat.{ℕ, ◌+◌, ◌%◌, ◌≤◌, ◌<◌}
use mathlib.Core.Path.{◌≡◌, refl}
use mathlib.Core.List.{List}
use mathlib.Core.Bool.{Bool, true, false, not, ◌&&◌}
use native.Mathlib.Omega.{arith}
use borrow.Author.Tests.{not-false, le-ltb, le-leb, lt-leb, ltb-true, leb-true, eq-eqb}
use lib.Dec.{ltb, leb, eqb}
use lib.ListN.{length, get_or}
use Rattle.std.specs.Prelude.{Option, Some, None}
use Rattle.octets.proofs.Picks.{pick_elim}
use Rattle.clnp.specs.Segment.{headed, sp, behind, seg_at, fields_at, segment_of, address_ok, addresses_of, is_piece, tpdu_of, tpdu_place}
use Rattle.clnp.specs.declared.segment.Addresses.{Addresses}

pub both : (a b : Bool) → (a && b) ≡ true → (a ≡ true) × (b ≡ true)
both true b e = (refl, e)
both false true e = (e, refl)
both false false e = (e, e)

-- ---- a full header
pub is-full : (s : List ℕ) → 9 ≤ length s → get_or s 0 0 ≡ 0x81 → 9 ≤ get_or s 1 0 → get_or s 1 0 ≤ length s → headed s ≡ true
is-full s n p h l = simp (le-leb 9 (length s) n, eq-eqb (get_or s 0 0) 0x81 p, le-leb 9 (get_or s 1 0) h, le-leb (get_or s 1 0) (length s) l)

pub full : (s : List ℕ) → headed s ≡ true → (9 ≤ length s) × (9 ≤ get_or s 1 0) × (get_or s 1 0 ≤ length s)
full s e =
    let p = both (leb 9 (length s)) (eqb (get_or s 0 0) 0x81 && (leb 9 (get_or s 1 0) && leb (get_or s 1 0) (length s))) e in
    let q = both (eqb (get_or s 0 0) 0x81) (leb 9 (get_or s 1 0) && leb (get_or s 1 0) (length s)) p.1 in
    let r = both (leb 9 (get_or s 1 0)) (leb (get_or s 1 0) (length s)) q.1 in
    (leb-true 9 (length s) p.0, leb-true 9 (get_or s 1 0) r.0, leb-true (get_or s 1 0) (length s) r.1)

-- ---- addresses
pub there : (s : List ℕ) (p : ℕ) → address_ok s p ≡ true → (p < length s) × (behind s p ≤ length s) × (get_or s p 0 ≤ 20)
there s p e =
    let a = both (ltb p (length s)) (leb (behind s p) (length s) && leb (get_or s p 0) 20) e in
    let b = both (leb (behind s p) (length s)) (leb (get_or s p 0) 20) a.1 in
    (ltb-true p (length s) a.0, leb-true (behind s p) (length s) b.0, leb-true (get_or s p 0) 20 b.1)

abbrev pub addresses : ℕ → ℕ → ℕ → ℕ → Option Addresses
addresses dst dstlen src srclen = Some (record { dst = dst; dstlen = dstlen; src = src; srclen = srclen })

pub two : (s : List ℕ) → address_ok s 9 ≡ true → address_ok s (behind s 9) ≡ true
    → addresses_of s ≡ addresses 10 (get_or s 9 0) (behind s 9 + 1) (get_or s (behind s 9) 0)
unfolding addresses_of
two s p q = simp (p, q)

module _ (s : List ℕ) (headed-is : headed s ≡ true) where
  -- ---- the segmentation part
  pub no_sp : get_or s 4 0 < 128 → segment_of s ≡ None
  unfolding segment_of
  no_sp h = simp (headed-is, lt-leb 128 (get_or s 4 0) h)

  pub is-there : 128 ≤ get_or s 4 0 → behind s 9 < length s → seg_at s + 6 ≤ length s → segment_of s ≡ Some (fields_at s (seg_at s))
  unfolding segment_of
  is-there set l m =
      simp (headed-is, le-leb 128 (get_or s 4 0) set, lt-leb (length s) 9 (omega (arith, l)), lt-leb (length s) (behind s 9) l, le-ltb (length s) (seg_at s + 6) m)

  -- ---- the data part
  module _ (dt : get_or s 4 0 % 32 ≡ 0x1C) where
    pub a_piece : (sp s && is_piece (segment_of s)) ≡ true → tpdu_of s ≡ None
    unfolding tpdu_of
    a_piece h = simp (headed-is, eq-eqb (get_or s 4 0 % 32) 0x1C dt, h)

    pub whole : (sp s && is_piece (segment_of s)) ≡ false → tpdu_of s ≡ Some (get_or s 1 0)
    unfolding tpdu_of
    whole h = simp (headed-is, eq-eqb (get_or s 4 0 % 32) 0x1C dt, h)

-- it begins within the octets
abbrev Within : List ℕ → Option ℕ → Type 0
Within s t = tpdu_place s t ≤ length s

from-within : (s : List ℕ) (n : ℕ) → n ≤ length s → Within s (Some n)
from-within s n h = pick_elim (λ (k : ℕ). k ≤ length s) (ltb 65535 (length s)) (λ e. omega arith) (λ e. h)

pub within : (s : List ℕ) → tpdu_place s (tpdu_of s) ≤ length s
unfolding tpdu_of
within s =
    pick_elim (Within s) (not (headed s)) (λ h. omega arith)
    (λ h. pick_elim (Within s) (not (eqb (get_or s 4 0 % 32) 0x1C)) (λ d. omega arith)
    (λ d. pick_elim (Within s) (sp s && is_piece (segment_of s)) (λ p. omega arith) (λ p. from-within s (get_or s 1 0) (full s (not-false (headed s) h)).2)))
