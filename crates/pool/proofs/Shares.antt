-- A sound store's pending units meet the share rules, and the counts are theirs.
use Prim.Native.Nat.{ℕ, zero, suc, ◌+◌, ◌*◌, ◌-◌, ◌<◌}
use mathlib.Core.Path.{◌≡◌, refl, sym, ap, ap₂, ◌∙◌}
use mathlib.Core.Bool.{Bool, true, false, not}
use mathlib.Core.List.{List, [], ◌∷◌}
use native.Mathlib.Omega.{arith}
use lib.Dec.{ltb}
use lib.Ieee.{Float}
use lib.ListN.{length, get_or, set}
use borrow.Author.Tests.{eq-eqb, not-true, ltb-true, ltb-false, lt-ltb, le-ltb}
use Rattle.octets.proofs.Tests.{all-at, all_of, no_true}
use Rattle.tables.specs.Tables.{links, blocks_in, reserve, cap, count, units, word, word_eq, key_eq, key_new, excess_of}
use Rattle.pool.specs.View.{Unit, tab, pend, sound, refusal}
use Rattle.pool.specs.Shares.{in_use, excesses, Fine, Shared, room_for}
use Rattle.pool.specs.Kinds.{Spelt}
use Rattle.pool.proofs.Good.{Good, good}
use Rattle.pool.proofs.Tab.{get_or-tab}
use Rattle.pool.proofs.Near.{own}
use Rattle.pool.proofs.Keys.{key_of}
use Rattle.pool.proofs.Expired.{pend-long, view-long}
use Rattle.pool.proofs.Counts.{good-spelt, use_spelt, common-spelt}

module _ (w : List ℕ) (tm : List Float) (list home bs : List ℕ) (g : Good w tm list home bs) where
  spelt : Spelt w tm list home bs
  spelt = good-spelt w tm list home bs g

  module _ (l : ℕ) (hl : l < links w) where
    -- the stored count is what the link's units use
    pub use_is : in_use (get_or (pend w tm list bs) l []) ≡ count w l
    use_is = use_spelt w tm list home bs spelt l hl

    pub fine : Fine (cap w) (get_or (pend w tm list bs) l [])
    fine =
        let n : length (get_or (pend w tm list bs) l []) ≡ units w l = view-long w tm list bs l hl in
        record {
          few = omega (arith, n, (own w l g.tab hl).few);
          capped = omega (arith, use_is, (own w l g.tab hl).within);
          apart = λ i j h k e. differ i j h (omega (arith, n)) (sym (key_of w tm list bs l i hl (omega (arith, n))) ∙ e ∙ key_of w tm list bs l j hl (omega (arith, n)));
        }
      where
        differ : (i j : ℕ) → i < j → j < units w l → tab (word w (8 * l + i)) 6 ≡ tab (word w (8 * l + j)) 6 → ⊥
        differ i j h k e =
            let same : key_eq w (8 * l + j) (8 * l + i) ≡ true =
            all_of (word_eq w (8 * l + j) (8 * l + i)) 6 (λ q r. eq-eqb (word w (8 * l + j) q) (word w (8 * l + i) q)
            (sym (sym (get_or-tab (word w (8 * l + i)) 6 q 0 r) ∙ ap (λ (x : List ℕ). get_or x q 0) e ∙ get_or-tab (word w (8 * l + j)) 6 q 0 r))) in
            let no : key_eq w (8 * l + j) (8 * l + i) ≡ false =
            not-true (key_eq w (8 * l + j) (8 * l + i)) (all-at (λ x. not (key_eq w (8 * l + j) (8 * l + x))) i j (all-at (key_new w (8 * l)) j (units w l) (own w l g.tab hl).apart k) h) in
            no_true (sym no ∙ same)

  common-is : excesses (reserve w) (pend w tm list bs) ≡ excess_of w (links w)
  common-is = common-spelt w tm list home bs spelt

  pub shared_good : Shared (links w) (blocks_in w) (reserve w) (cap w) (pend w tm list bs)
  shared_good = record { many = pend-long w tm list bs; each = fine; common = omega (arith, common-is, g.tab.rest) }

-- a sound store's pending units meet the share rules
pub sound_shares : (w : List ℕ) (tm : List Float) (list home bs : List ℕ) → sound w tm list home bs ≡ true → Shared (links w) (blocks_in w) (reserve w) (cap w) (pend w tm list bs)
sound_shares w tm list home bs h = shared_good w tm list home bs (good w tm list home bs h)

-- ---- room by the counts is room by the units

-- the excess, with one link's units changed
excesses-set : (r : ℕ) (st : List (List Unit)) (l : ℕ) (us : List Unit) → l < length st → excesses r (set st l us) + (in_use (get_or st l []) - r) ≡ excesses r st + (in_use us - r)
unfolding excesses
excesses-set r [] l us h = absurd (omega arith)
excesses-set r (x ∷ st) zero us h = omega arith
excesses-set r (x ∷ st) (suc l) us h = omega (arith, excesses-set r st l us (omega arith))

-- one test, with the same on both sides
ltb_both : (a b c d : ℕ) (x : ℕ) → a + x ≡ c → b + x ≡ d → ltb c d ≡ ltb a b
ltb_both a b c d x e f = go (ltb a b) refl
  where
    go : (t : Bool) → ltb a b ≡ t → ltb c d ≡ ltb a b
    go true h = lt-ltb c d (omega (arith, ltb-true a b h, e, f)) ∙ sym h
    go false h = le-ltb c d (omega (arith, ltb-false a b h, e, f)) ∙ sym h

module _ (w : List ℕ) (tm : List Float) (list home bs : List ℕ) (h : sound w tm list home bs ≡ true) (l u k n : ℕ) (hl : l < links w) (us : List Unit) where
  -- the answer of `room` is the share rules' for units us in the place of the link's: u more, of n blocks in the place of k
  pub room-by-units : length us ≡ units w l + u → in_use us ≡ count w l + n - k → refusal w l u k n ≡ room_for (links w) (blocks_in w) (reserve w) (cap w) (pend w tm list bs) l us
  unfolding refusal room_for
  room-by-units a b =
      let g = good w tm list home bs h in
      let st = pend w tm list bs in
      let e = excesses-set (reserve w) st l us (omega (arith, hl, pend-long w tm list bs)) in
      let x = use_is w tm list home bs g l hl in
      let y = common-is w tm list home bs g in
      let z : ltb (blocks_in w - links w * reserve w + (count w l - reserve w)) (excess_of w (links w) + (count w l + n - k - reserve w)) ≡ ltb (blocks_in w - links w * reserve w) (excesses (reserve w) (set st l us)) =
      ltb_both (blocks_in w - links w * reserve w) (excesses (reserve w) (set st l us)) _ _ (count w l - reserve w) refl
      (ap (λ (i : ℕ). excesses (reserve w) (set st l us) + (i - reserve w)) (sym x) ∙ e ∙ ap₂ (λ (i j : ℕ). i + (j - reserve w)) y b) in
      rw (a, b, z)
