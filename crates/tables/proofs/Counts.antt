-- The ledger's counts against those of the words.
use Prim.Native.Nat.{ℕ, ◌+◌, ◌-◌, ◌≤◌, ◌<◌}
use mathlib.Core.Path.{◌≡◌, refl, sym, ap, ◌∙◌}
use mathlib.Core.Bool.{Bool, true, false}
use mathlib.Core.List.{List}
use native.Mathlib.Omega.{arith}
use lib.Dec.{eqb}
use lib.ListN.{length, get_or, set, drop, length-drop}
use lib.Seq.{get_or-take, get_or-drop, get_or-set_same, get_or-set_other, length-take-le}
use borrow.Author.Tests.{eqb-true, eqb-false}
use Rattle.octets.specs.Tests.{all}
use Rattle.octets.proofs.Tests.{all-at, and_right}
use Rattle.tables.specs.Tables.{links, reserve, count, units, settings_ok, idle, link_at, used_of, excess_of, counts, total, over}
use Rattle.tables.proofs.Laws.{settings, idle-is, counts-low}
use Rattle.tables.proofs.Sums.{sum_same, sum_one, sum_past}

pub count_at : (w : List ℕ) (l : ℕ) → l < 16 → get_or (counts w) l 0 ≡ count w l
count_at w l h = get_or-take 16 (drop 8 w) l 0 h ∙ get_or-drop 8 w l 0

pub length-counts : (w : List ℕ) → 24 ≤ length w → length (counts w) ≡ 16
length-counts w h = length-take-le 16 (drop 8 w) (omega (arith, length-drop 8 w))

module _ (w : List ℕ) (set-up : settings_ok w ≡ true) (each : all (link_at w) 16 ≡ true) where
  pub ledger_low : (l : ℕ) → l < 16 → get_or (counts w) l 0 ≤ 1024
  ledger_low l h = omega (arith, count_at w l h, counts-low w set-up each l h)

  -- links past the last have no blocks
  past : (l : ℕ) → links w ≤ l → l < 16 → count w l ≡ 0
  unfolding idle
  past l a b = eqb-true (count w l) 0 (and_right (eqb (units w l) 0) _ (sym (idle-is w l a) ∙ all-at (link_at w) l 16 each b))

  pub total-is : total (counts w) ≡ used_of w (links w)
  total-is = sum_same (λ l. get_or (counts w) l 0) (count w) 16 (count_at w) ∙ sum_past (count w) (links w) 16 (settings w set-up).few-links past

  pub over-is : over (reserve w) (counts w) ≡ excess_of w (links w)
  over-is =
      sum_same (λ l. get_or (counts w) l 0 - reserve w) (λ l. count w l - reserve w) 16 (λ l h. ap (λ (x : ℕ). x - reserve w) (count_at w l h))
      ∙ sum_past (λ l. count w l - reserve w) (links w) 16 (settings w set-up).few-links (λ l a b. omega (arith, past l a b))

-- one count changed
pub over-set : (r : ℕ) (g : List ℕ) (l x : ℕ) → l < 16 → length g ≡ 16 → over r (set g l x) + (get_or g l 0 - r) ≡ over r g + (x - r)
over-set r g l x h n =
    sum_one (λ i. get_or g i 0 - r) (λ i. get_or (set g l x) i 0 - r) 16 l h (λ i q ne. ap (λ (y : ℕ). y - r) (get_or-set_other g l i x 0 ne))
    ∙ ap (λ (y : ℕ). over r g + (y - r)) (get_or-set_same g l x 0 (omega arith))

module _ (w : List ℕ) (set-up : settings_ok w ≡ true) (each : all (link_at w) 16 ≡ true) (l x : ℕ) (h : l < 16) (long : 24 ≤ length w) where
  pub over-after : over (reserve w) (set (counts w) l x) + (count w l - reserve w) ≡ excess_of w (links w) + (x - reserve w)
  over-after =
      ap (λ (y : ℕ). over (reserve w) (set (counts w) l x) + (y - reserve w)) (sym (count_at w l h))
      ∙ over-set (reserve w) (counts w) l x h (length-counts w long)
      ∙ ap (λ (y : ℕ). y + (x - reserve w)) (over-is w set-up each)

  pub after-low : x ≤ 1024 → (i : ℕ) → i < 16 → get_or (set (counts w) l x) i 0 ≤ 1024
  after-low low i q = go (eqb i l) refl
    where
      go : (t : Bool) → eqb i l ≡ t → get_or (set (counts w) l x) i 0 ≤ 1024
      go true e = let z : i ≡ l = eqb-true i l e in rw z (omega (arith, low, get_or-set_same (counts w) l x 0 (omega (arith, h, length-counts w long))))
      go false e = omega (arith, get_or-set_other (counts w) l i x 0 (eqb-false i l e), ledger_low w set-up each i q)

-- a ledger with one count changed, stored, by what the functions ensure: the ledger g of w, then h of it, then w' with h's count
pub stored : (w w' g h : List ℕ) (l x : ℕ) → g ≡ counts w → h ≡ set g l x → w' ≡ set w (8 + l) (get_or h l 0) → l < 16 → 24 ≤ length w → w' ≡ set w (8 + l) x
stored w w' g h l x a b c low long =
    let n : length g ≡ 16 = ap length a ∙ length-counts w long in
    c ∙ ap (set w (8 + l)) (ap (λ (q : List ℕ). get_or q l 0) b ∙ get_or-set_same g l x 0 (omega arith))
