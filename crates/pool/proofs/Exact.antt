-- The soundness test holds exactly where tables and chains spell pending units that meet the share rules.
use Prim.Native.Nat.{ℕ, ◌+◌, ◌*◌, ◌<◌}
use mathlib.Core.Path.{◌≡◌, refl, sym, ◌∙◌}
use mathlib.Core.Bool.{Bool, true, false, not}
use mathlib.Core.List.{List, []}
use native.Mathlib.Omega.{arith}
use lib.Dec.{ltb}
use lib.Ieee.{Float}
use lib.ListN.{length, get_or}
use borrow.Author.Tests.{eq-eqb, eqb-true, ltb-true, ltb-false}
use Rattle.octets.proofs.Tests.{all-at, all_of}
use Rattle.tables.specs.Tables.{links, blocks_in, reserve, cap, count, units, word, place_ok, word_eq, key_eq, key_new, idle, link_at}
use Rattle.tables.proofs.Laws.{Tables, Link, link_of_lem, link-is, idle-is}
use Rattle.pool.specs.View.{tab, pend, sound}
use Rattle.pool.specs.Shares.{Shared}
use Rattle.pool.specs.Kinds.{Spelt}
use Rattle.pool.proofs.Tab.{tab-same}
use Rattle.pool.proofs.Good.{Good, good, good_of}
use Rattle.pool.proofs.Keys.{key_of}
use Rattle.pool.proofs.Expired.{view-long}
use Rattle.pool.proofs.Counts.{good-spelt, use_spelt, common-spelt}

-- a sound store's tables and chains spell pending units
pub spelt_of : (w : List ℕ) (t : List Float) (list home bs : List ℕ) → sound w t list home bs ≡ true → Spelt w t list home bs
spelt_of w t list home bs h = good-spelt w t list home bs (good w t list home bs h)

-- places whose keys are tested equal have one key
key-same : (w : List ℕ) (p q : ℕ) → key_eq w p q ≡ true → tab (word w q) 6 ≡ tab (word w p) 6
key-same w p q h = tab-same (word w q) (word w p) 6 (λ i k. sym (eqb-true (word w p i) (word w q i) (all-at (word_eq w p q) i 6 h k)))

idle_of : (w : List ℕ) (l : ℕ) → units w l ≡ 0 → count w l ≡ 0 → idle w l ≡ true
unfolding idle
idle_of w l a b = rw (eq-eqb (units w l) 0 a, eq-eqb (count w l) 0 b)

module _ (w : List ℕ) (t : List Float) (list home bs : List ℕ) (g : Spelt w t list home bs) (s : Shared (links w) (blocks_in w) (reserve w) (cap w) (pend w t list bs)) where
  module _ (l : ℕ) (hl : l < links w) where
    -- keys that differ in the view are tested different
    key-new : (i j : ℕ) → i < j → j < units w l → not (key_eq w (8 * l + j) (8 * l + i)) ≡ true
    key-new i j h k = go (key_eq w (8 * l + j) (8 * l + i)) refl
      where
        n : length (get_or (pend w t list bs) l []) ≡ units w l
        n = view-long w t list bs l hl

        go : (b : Bool) → key_eq w (8 * l + j) (8 * l + i) ≡ b → not (key_eq w (8 * l + j) (8 * l + i)) ≡ true
        go true e =
            absurd ((s.each l hl).apart i j h (omega (arith, n)) (key_of w t list bs l i hl (omega arith) ∙ key-same w (8 * l + j) (8 * l + i) e ∙ sym (key_of w t list bs l j hl k)))
        go false e = rw e

    link-from : Link w l
    link-from = record {
      few = omega (arith, view-long w t list bs l hl, (s.each l hl).few);
      right = all_of (λ j. place_ok w (8 * l + j)) (units w l) (λ j h. g.parts l j hl h);
      agrees = g.counts l hl;
      within = omega (arith, use_spelt w t list home bs g l hl, (s.each l hl).capped);
      apart = all_of (key_new w (8 * l)) (units w l) (λ j k. all_of (λ i. not (key_eq w (8 * l + j) (8 * l + i))) j (λ i h. key-new i j h k));
    }

  each_from : (l : ℕ) → l < 16 → link_at w l ≡ true
  each_from l h = go (ltb l (links w)) refl
    where
      go : (b : Bool) → ltb l (links w) ≡ b → link_at w l ≡ true
      go true e = let hl = ltb-true l (links w) e in link-is w l hl ∙ link_of_lem w l (link-from l hl)
      go false e =
          let hl = ltb-false l (links w) e in
          let p = g.past l hl h in
          idle-is w l hl ∙ idle_of w l p.0 p.1

  tables-from : Tables w
  tables-from = record { long = g.long; set = g.allowed; each = all_of (link_at w) 16 each_from; rest = omega (arith, common-spelt w t list home bs g, s.common) }

  good-from : Good w t list home bs
  good-from = record { tab = tables-from; places = g.times; listed = g.listed; homes = g.homes; room = g.room; chain = g.chain }

-- a store that spells pending units within the share rules is sound
pub sound-from : (w : List ℕ) (t : List Float) (list home bs : List ℕ) → Spelt w t list home bs → Shared (links w) (blocks_in w) (reserve w) (cap w) (pend w t list bs) → sound w t list home bs ≡ true
sound-from w t list home bs g s = good_of w t list home bs (good-from w t list home bs g s)
