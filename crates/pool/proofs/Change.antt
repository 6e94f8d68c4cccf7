-- One link of a store changes: what stays.
use Prim.Native.Nat.{ℕ, ◌+◌, ◌*◌, ◌-◌, ◌≤◌, ◌<◌}
use mathlib.Core.Path.{◌≡◌, refl, sym, ap, ap₂, ◌∙◌}
use mathlib.Core.Bool.{Bool, true, false, not, ◌&&◌}
use mathlib.Core.List.{List}
use native.Mathlib.Omega.{arith}
use lib.Dec.{ltb, eqb}
use lib.Ieee.{Float, nan}
use lib.ListN.{length, get_or, set, take, drop}
use lib.Seq.{take-take, drop-drop}
use borrow.Author.Tests.{eqb-true, eqb-false, ltb-true, ltb-false}
use Rattle.octets.proofs.Tests.{all-at, all_of}
use Rattle.chain.proofs.Moves.{take-drop}
use Rattle.tables.specs.Tables.{links, blocks_in, reserve, count, units, word, place_ok, places_ok, place_cost, costs, word_eq, key_eq, key_new, keys_ok, settings_ok, idle, link_at, used_of, excess_of}
use Rattle.tables.proofs.Laws.{Tables, settings, Place, place, Link, link, link_of_lem, link-is, idle-is}
use Rattle.pool.specs.View.{SameSettings, tab, start_of, unit_at, link_units}
use Rattle.tables.proofs.Sums.{all_same, sum_same, sum_in, sum_one}
use Rattle.pool.proofs.Tab.{tab-same, set-tab}

abbrev pub SamePlace : List ℕ → List ℕ → ℕ → Type 0
SamePlace w w' q = (k : ℕ) → k < 11 → word w' q k ≡ word w q k

-- the block counts of a place are right where its words are the same
pub place_same : (w w' : List ℕ) (q : ℕ) → SamePlace w w' q → place_ok w' q ≡ place_ok w q
unfolding place_ok
place_same w w' q h = rw (h 7 (omega arith), h 8 (omega arith), h 9 (omega arith), h 10 (omega arith))

pub cost-same : (w w' : List ℕ) (q : ℕ) → SamePlace w w' q → place_cost w' q ≡ place_cost w q
cost-same w w' q h = ap₂ ◌+◌ (h 9 (omega arith)) (h 10 (omega arith))

pub places_same : (w w' : List ℕ) (p u : ℕ) → ((i : ℕ) → i < u → SamePlace w w' (p + i)) → places_ok w' p u ≡ places_ok w p u
places_same w w' p u h = all_same (λ j. place_ok w' (p + j)) (λ j. place_ok w (p + j)) u (λ i q. place_same w w' (p + i) (h i q))

pub costs-same : (w w' : List ℕ) (p u : ℕ) → ((i : ℕ) → i < u → SamePlace w w' (p + i)) → costs w' p u ≡ costs w p u
costs-same w w' p u h = sum_same (λ j. place_cost w' (p + j)) (λ j. place_cost w (p + j)) u (λ i q. cost-same w w' (p + i) (h i q))

key_eq-same : (w w' : List ℕ) (p q : ℕ) → ((k : ℕ) → k < 6 → word w' p k ≡ word w p k) → ((k : ℕ) → k < 6 → word w' q k ≡ word w q k) → key_eq w' p q ≡ key_eq w p q
key_eq-same w w' p q a b = all_same (word_eq w' p q) (word_eq w p q) 6 (λ k h. ap₂ eqb (a k h) (b k h))

pub keys-kept-by : (w w' : List ℕ) (p u : ℕ) → ((i : ℕ) → i < u → (k : ℕ) → k < 6 → word w' (p + i) k ≡ word w (p + i) k) → keys_ok w' p u ≡ keys_ok w p u
keys-kept-by w w' p u h =
    all_same (key_new w' p) (key_new w p) u (λ i q.
    all_same (λ j. not (key_eq w' (p + i) (p + j))) (λ j. not (key_eq w (p + i) (p + j))) i (λ j r.
    ap not (key_eq-same w w' (p + i) (p + j) (h i q) (h j (omega arith)))))

pub keys-same : (w w' : List ℕ) (p u : ℕ) → ((i : ℕ) → i < u → SamePlace w w' (p + i)) → keys_ok w' p u ≡ keys_ok w p u
keys-same w w' p u h = keys-kept-by w w' p u (λ i q k r. h i q k (omega arith))

-- the block counts of a link's place are right
pub place_at : (w : List ℕ) (l j : ℕ) → Link w l → j < units w l → Place w (8 * l + j)
place_at w l j q h = place w (8 * l + j) (all-at (λ i. place_ok w (8 * l + i)) j (units w l) q.right h)

-- all but link l is as it was
pub record Elsewhere (w w' : List ℕ) (t t' : List Float) (l : ℕ) : Type 0 where
  pub settings : SameSettings w w'
  pub on-counts : (k : ℕ) → k < 16 → (k ≡ l → ⊥) → count w' k ≡ count w k
  pub on-units : (k : ℕ) → k < 16 → (k ≡ l → ⊥) → units w' k ≡ units w k
  pub on-places : (k : ℕ) → k < 16 → (k ≡ l → ⊥) → (i : ℕ) → i < 8 → SamePlace w w' (8 * k + i)
  pub on-times : (k : ℕ) → k < 16 → (k ≡ l → ⊥) → (i : ℕ) → i < 8 → get_or t' (8 * k + i) nan ≡ get_or t (8 * k + i) nan

module _ (w w' : List ℕ) (t t' : List Float) (l : ℕ) (s : Elsewhere w w' t t' l) where
  settings-same : settings_ok w' ≡ settings_ok w
  unfolding settings_ok
  settings-same = rw (s.settings.on-links, s.settings.on-blocks, s.settings.on-reserve, s.settings.on-cap)

  other : (k : ℕ) → k < 16 → (k ≡ l → ⊥) → link_at w k ≡ true → link_at w' k ≡ true
  unfolding idle
  other k h ne ok = go (ltb k (links w)) refl
    where
      go : (b : Bool) → ltb k (links w) ≡ b → link_at w' k ≡ true
      go true e =
          let lt : k < links w = ltb-true k (links w) e in
          let q : Link w k = link w k (sym (link-is w k lt) ∙ ok) in
          let u : units w' k ≡ units w k = s.on-units k h ne in
          let n : count w' k ≡ count w k = s.on-counts k h ne in
          let c : costs w' (8 * k) (units w k) ≡ costs w (8 * k) (units w k) = costs-same w w' (8 * k) (units w k) (λ i r. s.on-places k h ne i (omega (arith, q.few))) in
          let a : keys_ok w' (8 * k) (units w k) ≡ keys_ok w (8 * k) (units w k) = keys-same w w' (8 * k) (units w k) (λ i r. s.on-places k h ne i (omega (arith, q.few))) in
          let q' : Link w' k = record {
            few = omega (arith, u, q.few);
            right = ap (places_ok w' (8 * k)) u ∙ places_same w w' (8 * k) (units w k) (λ i r. s.on-places k h ne i (omega (arith, q.few))) ∙ q.right;
            agrees = n ∙ q.agrees ∙ sym c ∙ ap (costs w' (8 * k)) (sym u);
            within = omega (arith, n, q.within, s.settings.on-cap);
            apart = ap (keys_ok w' (8 * k)) u ∙ a ∙ q.apart;
          } in
          link-is w' k (omega (arith, s.settings.on-links)) ∙ link_of_lem w' k q'
      go false e =
          let ge : links w ≤ k = ltb-false k (links w) e in
          let i : idle w k ≡ true = sym (idle-is w k ge) ∙ ok in
          let same : idle w' k ≡ idle w k = ap₂ (λ (a b : ℕ). eqb a 0 && eqb b 0) (s.on-units k h ne) (s.on-counts k h ne) in
          idle-is w' k (omega (arith, s.settings.on-links)) ∙ same ∙ i

  pub tables_change : Tables w → l < links w → length w' ≡ length w → Link w' l → excess_of w' (links w) ≤ blocks_in w - links w * reserve w → Tables w'
  tables_change g hl len q x = record {
    long = omega (arith, len, g.long);
    set = settings-same ∙ g.set;
    each = all_of (link_at w') 16 (λ k h. go k h (eqb k l) refl);
    rest = omega (arith, ap (excess_of w') s.settings.on-links, same, x);
  }
    where
      same : blocks_in w' - links w' * reserve w' ≡ blocks_in w - links w * reserve w
      same = rw (s.settings.on-links, s.settings.on-blocks, s.settings.on-reserve)

      go : (k : ℕ) → k < 16 → (b : Bool) → eqb k l ≡ b → link_at w' k ≡ true
      go k h true e = rw (eqb-true k l e) (link-is w' l (omega (arith, s.settings.on-links)) ∙ link_of_lem w' l q)
      go k h false e = other k h (eqb-false k l e) (all-at (link_at w) k 16 g.each h)

  -- the excess, with one count changed
  pub excess_change : l < links w → links w ≤ 16 → excess_of w' (links w) + (count w l - reserve w) ≡ excess_of w (links w) + (count w' l - reserve w)
  excess_change hl few =
      sum_one (λ k. count w k - reserve w) (λ k. count w' k - reserve w') (links w) l hl (λ i h ne. ap₂ ◌-◌ (s.on-counts i (omega arith) ne) s.settings.on-reserve)
      ∙ ap (λ (r : ℕ). excess_of w (links w) + (count w' l - r)) s.settings.on-reserve

  -- ---- the view

  pub used_before : (n : ℕ) → n ≤ l → l < 16 → used_of w' n ≡ used_of w n
  used_before n h hl = sum_same (count w') (count w) n (λ i q. s.on-counts i (omega arith) (λ z. omega arith))

  pub used_after : (n : ℕ) → l < n → n ≤ 16 → used_of w' n + count w l ≡ used_of w n + count w' l
  used_after n h few = sum_one (count w) (count w') n l h (λ i q ne. s.on-counts i (omega arith) ne)

  module _ (g : Tables w) (f f' : List ℕ) (hl : l < links w)
      (front : take (64 * used_of w l) f' ≡ take (64 * used_of w l) f)
      (behind : drop (64 * (used_of w l + count w' l)) f' ≡ drop (64 * (used_of w l + count w l)) f) where
    few : links w ≤ 16
    few = (settings w g.set).few-links

    -- a part that stands before the link, or behind it
    low : (o n : ℕ) → o + n ≤ 64 * used_of w l → take n (drop o f') ≡ take n (drop o f)
    low o n h =
        let cut : (x : List ℕ) → take n (drop o x) ≡ drop o (take (o + n) (take (64 * used_of w l) x)) = λ x. sym (ap (drop o) (take-take (o + n) (64 * used_of w l) x h) ∙ take-drop o n x) in
        cut f' ∙ ap (λ (x : List ℕ). drop o (take (o + n) x)) front ∙ sym (cut f)

    high : (o : ℕ) → 64 * (used_of w l + count w l) ≤ o → drop (o + 64 * count w' l - 64 * count w l) f' ≡ drop o f
    high o h =
        let e : ℕ = o - 64 * (used_of w l + count w l) in
        let a : 64 * (used_of w l + count w' l) + e ≡ o + 64 * count w' l - 64 * count w l = omega arith in
        let b : 64 * (used_of w l + count w l) + e ≡ o = omega arith in
        ap (λ (k : ℕ). drop k f') (sym a) ∙ sym (drop-drop e (64 * (used_of w l + count w' l)) f') ∙ ap (drop e) behind ∙ drop-drop e (64 * (used_of w l + count w l)) f ∙ ap (λ (k : ℕ). drop k f) b

    module _ (k : ℕ) (hk : k < links w) (ne : k ≡ l → ⊥) where
      own : Link w k
      own = link w k (sym (link-is w k hk) ∙ all-at (link_at w) k 16 g.each (omega (arith, few)))

      -- where place i stands, then and now
      same_unit : (i : ℕ) → i < units w k → unit_at w' t' f' (start_of w' k i) (8 * k + i) ≡ unit_at w t f (start_of w k i) (8 * k + i)
      same_unit i h =
          let p : SamePlace w w' (8 * k + i) = s.on-places k (omega (arith, few)) ne i (omega (arith, own.few)) in
          let q : get_or t' (8 * k + i) nan ≡ get_or t (8 * k + i) nan = s.on-times k (omega (arith, few)) ne i (omega (arith, own.few)) in
          let c : costs w' (8 * k) i ≡ costs w (8 * k) i = costs-same w w' (8 * k) i (λ j r. s.on-places k (omega (arith, few)) ne j (omega (arith, own.few))) in
          let d : ℕ = word w (8 * k + i) 7 in
          let e : ℕ = word w (8 * k + i) 8 in
          let inside : costs w (8 * k) i + place_cost w (8 * k + i) ≤ count w k = rw own.agrees (sum_in (λ j. place_cost w (8 * k + j)) i (units w k) h) in
          let keys : tab (word w' (8 * k + i)) 6 ≡ tab (word w (8 * k + i)) 6 = tab-same (word w' (8 * k + i)) (word w (8 * k + i)) 6 (λ j r. p j (omega arith)) in
          let octs : (take d (drop (64 * start_of w' k i) f') ≡ take d (drop (64 * start_of w k i) f)) × (take e (drop (64 * (start_of w' k i + word w (8 * k + i) 9)) f') ≡ take e (drop (64 * (start_of w k i + word w (8 * k + i) 9)) f)) = go i c inside (place_at w k i own h) (ltb k l) refl in
          rw (keys, p 6 (omega arith), p 7 (omega arith), p 8 (omega arith), p 9 (omega arith), q, octs.0, octs.1)
        where
          go : (i : ℕ) → costs w' (8 * k) i ≡ costs w (8 * k) i → costs w (8 * k) i + place_cost w (8 * k + i) ≤ count w k → Place w (8 * k + i) → (b : Bool) → ltb k l ≡ b
              → (take (word w (8 * k + i) 7) (drop (64 * start_of w' k i) f') ≡ take (word w (8 * k + i) 7) (drop (64 * start_of w k i) f))
              × (take (word w (8 * k + i) 8) (drop (64 * (start_of w' k i + word w (8 * k + i) 9)) f') ≡ take (word w (8 * k + i) 8) (drop (64 * (start_of w k i + word w (8 * k + i) 9)) f))
          go i c inside pl true b =
              let lt : k < l = ltb-true k l b in
              let u : used_of w' k ≡ used_of w k = used_before k (omega arith) (omega (arith, few)) in
              let st : start_of w' k i ≡ start_of w k i = omega arith in
              let up : used_of w k + count w k ≤ used_of w l = sum_in (count w) k l lt in
              rw st (low (64 * start_of w k i) (word w (8 * k + i) 7) (omega arith), low (64 * (start_of w k i + word w (8 * k + i) 9)) (word w (8 * k + i) 8) (omega arith))
          go i c inside pl false b =
              let gt : l < k = omega (arith, ltb-false k l b, ne) in
              let u : used_of w' k + count w l ≡ used_of w k + count w' l = used_after k gt (omega (arith, few)) in
              let up : used_of w l + count w l ≤ used_of w k = sum_in (count w) l k gt in
              let a : 64 * start_of w' k i ≡ 64 * start_of w k i + 64 * count w' l - 64 * count w l = omega arith in
              let a2 : 64 * (start_of w' k i + word w (8 * k + i) 9) ≡ 64 * (start_of w k i + word w (8 * k + i) 9) + 64 * count w' l - 64 * count w l = omega arith in (
                ap (take (word w (8 * k + i) 7)) (ap (λ (n : ℕ). drop n f') a ∙ high (64 * start_of w k i) (omega arith)),
                ap (take (word w (8 * k + i) 8)) (ap (λ (n : ℕ). drop n f') a2 ∙ high (64 * (start_of w k i + word w (8 * k + i) 9)) (omega arith)),
              )

      same-link : link_units w' t' f' k ≡ link_units w t f k
      same-link =
          ap (tab (λ i. unit_at w' t' f' (start_of w' k i) (8 * k + i))) (s.on-units k (omega (arith, few)) ne)
          ∙ tab-same (λ i. unit_at w' t' f' (start_of w' k i) (8 * k + i)) (λ i. unit_at w t f (start_of w k i) (8 * k + i)) (units w k) same_unit

    pub view_change : tab (link_units w' t' f') (links w') ≡ set (tab (link_units w t f) (links w)) l (link_units w' t' f' l)
    view_change = ap (tab (link_units w' t' f')) s.settings.on-links ∙ set-tab (link_units w t f) (link_units w' t' f') (links w) l hl (λ k h ne. same-link k h ne)
