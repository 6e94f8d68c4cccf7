-- Where tables and chains spell pending units, the stored counts are what these units use.
use Prim.Native.Nat.{ℕ, zero, suc, ◌+◌, ◌*◌, ◌-◌, ◌≤◌, ◌<◌}
use mathlib.Core.Path.{◌≡◌, refl, sym, ap, ap₂, ◌∙◌}
use mathlib.Core.Bool.{true}
use mathlib.Core.List.{List, [], ◌∷◌, ◌++◌}
use native.Mathlib.Omega.{arith}
use lib.Dec.{eqb}
use lib.Ieee.{Float}
use lib.ListN.{length, get_or, take, drop, length-drop}
use lib.Seq.{length-take-le}
use borrow.Author.Tests.{eqb-true}
use Rattle.octets.proofs.Tests.{all-at, and_left, and_right}
use Rattle.chain.proofs.Spelt.{spelt-long}
use Rattle.model.specs.Cost.{blocks}
use Rattle.tables.specs.Tables.{links, blocks_in, reserve, count, units, word, sum, place_ok, place_cost, idle, link_at, used_of, excess_of}
use Rattle.tables.proofs.Laws.{used_fits, Place, place, idle-is}
use Rattle.pool.specs.View.{Unit, tab, start_of, unit_at, link_units, octets, pend}
use Rattle.pool.specs.Shares.{cost_of, in_use, excesses}
use Rattle.pool.specs.Kinds.{Spelt}
use Rattle.tables.proofs.Sums.{sum_same, sum_in}
use Rattle.pool.proofs.Good.{Good}
use Rattle.pool.proofs.Near.{own, link-inside}
use Rattle.pool.proofs.Expired.{link-view}

pub in_use-last : (xs : List Unit) (u : Unit) → in_use (xs ++ (u ∷ [])) ≡ in_use xs + cost_of u
unfolding in_use
in_use-last [] u = omega arith
in_use-last (x ∷ xs) u = omega (arith, in_use-last xs u)

in_use-tab : (f : ℕ → Unit) (n : ℕ) → in_use (tab f n) ≡ sum (λ i. cost_of (f i)) n
unfolding tab sum in_use
in_use-tab f zero = refl
in_use-tab f (suc n) = in_use-last (tab f n) (f n) ∙ ap (λ (x : ℕ). x + cost_of (f n)) (in_use-tab f n)

excesses-last : (r : ℕ) (xs : List (List Unit)) (us : List Unit) → excesses r (xs ++ (us ∷ [])) ≡ excesses r xs + (in_use us - r)
unfolding excesses
excesses-last r [] us = omega arith
excesses-last r (x ∷ xs) us = omega (arith, excesses-last r xs us)

excesses-tab : (r : ℕ) (f : ℕ → List Unit) (n : ℕ) → excesses r (tab f n) ≡ sum (λ i. in_use (f i) - r) n
unfolding tab sum excesses
excesses-tab r f zero = refl
excesses-tab r f (suc n) = excesses-last r (tab f n) (f n) ∙ ap (λ (x : ℕ). x + (in_use (f n) - r)) (excesses-tab r f n)

-- sound tables and chains spell pending units
pub good-spelt : (w : List ℕ) (tm : List Float) (list home bs : List ℕ) → Good w tm list home bs → Spelt w tm list home bs
unfolding idle
good-spelt w tm list home bs g = record {
  long = g.tab.long;
  times = g.places;
  listed = g.listed;
  homes = g.homes;
  room = g.room;
  allowed = g.tab.set;
  parts = λ l j hl hj. all-at (λ i. place_ok w (8 * l + i)) j (units w l) (own w l g.tab hl).right hj;
  counts = λ l hl. (own w l g.tab hl).agrees;
  past = λ l h k.
      let e : idle w l ≡ true = sym (idle-is w l h) ∙ all-at (link_at w) l 16 g.tab.each k in
      (eqb-true (units w l) 0 (and_left (eqb (units w l) 0) _ e), eqb-true (count w l) 0 (and_right (eqb (units w l) 0) _ e));
  there = used_fits w g.tab;
  chain = g.chain;
}

module _ (w : List ℕ) (tm : List Float) (list home bs : List ℕ) (g : Spelt w tm list home bs) where
  lf : length (octets w list bs) ≡ 64 * used_of w (links w)
  lf = spelt-long home list bs (blocks_in w) (used_of w (links w)) g.chain (omega (arith, g.there, g.listed)) g.room

  module _ (l : ℕ) (hl : l < links w) where
    -- the blocks of a place stand inside those in use
    before : (i : ℕ) → i < units w l → start_of w l i + place_cost w (8 * l + i) ≤ used_of w (links w)
    before i h = omega (arith, g.counts l hl, sum_in (λ j. place_cost w (8 * l + j)) i (units w l) h, link-inside w l hl)

    cost-is : (i : ℕ) → i < units w l → cost_of (unit_at w tm (octets w list bs) (start_of w l i) (8 * l + i)) ≡ place_cost w (8 * l + i)
    cost-is i h =
        let p : Place w (8 * l + i) = place w (8 * l + i) (g.parts l i hl h) in
        let z = before i h in
        let d : length (take (word w (8 * l + i) 7) (drop (64 * start_of w l i) (octets w list bs))) ≡ word w (8 * l + i) 7 =
        length-take-le (word w (8 * l + i) 7) (drop (64 * start_of w l i) (octets w list bs)) (omega (arith, z, p, lf, length-drop (64 * start_of w l i) (octets w list bs))) in
        let e : length (take (word w (8 * l + i) 8) (drop (64 * (start_of w l i + word w (8 * l + i) 9)) (octets w list bs))) ≡ word w (8 * l + i) 8 =
        length-take-le (word w (8 * l + i) 8) (drop (64 * (start_of w l i + word w (8 * l + i) 9)) (octets w list bs)) (omega (arith, z, p, lf, length-drop (64 * (start_of w l i + word w (8 * l + i) 9)) (octets w list bs))) in
        ap₂ (λ (a b : ℕ). blocks a + blocks b) d e ∙ sym (ap₂ ◌+◌ p.body p.top)

    use_link : in_use (link_units w tm (octets w list bs) l) ≡ count w l
    use_link =
        in_use-tab (λ i. unit_at w tm (octets w list bs) (start_of w l i) (8 * l + i)) (units w l)
        ∙ sum_same (λ i. cost_of (unit_at w tm (octets w list bs) (start_of w l i) (8 * l + i))) (λ i. place_cost w (8 * l + i)) (units w l) cost-is
        ∙ sym (g.counts l hl)

    -- the stored count is what the link's units use
    pub use_spelt : in_use (get_or (pend w tm list bs) l []) ≡ count w l
    use_spelt = ap in_use (link-view w tm list bs l hl) ∙ use_link

  -- what the links use above the reserve is what the counts say
  pub common-spelt : excesses (reserve w) (pend w tm list bs) ≡ excess_of w (links w)
  unfolding pend
  common-spelt =
      excesses-tab (reserve w) (link_units w tm (octets w list bs)) (links w)
      ∙ sum_same (λ l. in_use (link_units w tm (octets w list bs) l) - reserve w) (λ l. count w l - reserve w) (links w) (λ l h. ap (λ (x : ℕ). x - reserve w) (use_link l h))
