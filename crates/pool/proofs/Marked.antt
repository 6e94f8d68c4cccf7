-- A unit of a sound store gets a note and a time: the tables and the view.
use Prim.Native.Nat.{ℕ, ◌+◌, ◌*◌, ◌≤◌, ◌<◌}
use mathlib.Core.Path.{◌≡◌, refl, sym, ap, ap₂, ◌∙◌}
use mathlib.Core.List.{List, []}
use native.Mathlib.Omega.{arith}
use lib.Ieee.{Float, nan}
use lib.ListN.{length, get_or, set, take, drop, length-set}
use lib.Seq.{get_or-set_same, get_or-set_other}
use Rattle.chain.specs.Chain.{flat, homed}
use Rattle.tables.specs.Tables.{links, count, units, word, place_ok, places_ok, place_cost, costs, keys_ok, used_of}
use Rattle.tables.proofs.Laws.{Tables, settings, Link}
use Rattle.pool.specs.View.{Unit, blank, marked_u, marked, mark_words, SameSettings, tab, start_of, unit_at, link_units, octets, pend}
use Rattle.pool.proofs.Good.{Good}
use Rattle.tables.proofs.Sums.{all_same, sum_same}
use Rattle.pool.proofs.Tab.{tab-same, set-tab, get_or-tab}
use Rattle.pool.proofs.Change.{keys-kept-by, Elsewhere, tables_change, excess_change, view_change, used_after}
use Rattle.pool.proofs.Near.{own}

module _ (w : List ℕ) (tm : List Float) (l j note : ℕ) (at : Float) (g : Tables w) (pl : 128 ≤ length tm) (hl : l < links w) (hj : j < units w l) where
  abbrev w' : List ℕ
  w' = mark_words w l j note

  abbrev tm' : List Float
  tm' = set tm (8 * l + j) at

  l16 : l < 16
  l16 = omega (arith, (settings w g.set).few-links)

  j8 : j < 8
  j8 = omega (arith, (own w l g hl).few)

  same : (i : ℕ) → (i ≡ 40 + 12 * (8 * l + j) + 6 → ⊥) → get_or w' i 0 ≡ get_or w i 0
  same i ne = get_or-set_other w (40 + 12 * (8 * l + j) + 6) i note 0 ne

  -- a word of any place that is no note
  same_word : (p r : ℕ) → r < 12 → (r ≡ 6 → ⊥) → word w' p r ≡ word w p r
  same_word p r hr ne = same (40 + 12 * p + r) (λ z. omega (arith, z, ne))

  other-time : (i : ℕ) → (i ≡ 8 * l + j → ⊥) → get_or tm' i nan ≡ get_or tm i nan
  other-time i ne = get_or-set_other tm (8 * l + j) i at nan ne

  pub mark_settings : SameSettings w w'
  mark_settings = record {
    on-kind = same 0 (λ z. omega (arith, z));
    on-links = same 1 (λ z. omega (arith, z));
    on-blocks = same 2 (λ z. omega (arith, z));
    on-reserve = same 3 (λ z. omega (arith, z));
    on-cap = same 4 (λ z. omega (arith, z));
  }

  same_count : (i : ℕ) → i < 16 → count w' i ≡ count w i
  same_count i h = same (8 + i) (λ z. omega (arith, z))

  same_units : (i : ℕ) → i < 16 → units w' i ≡ units w i
  same_units i h = same (24 + i) (λ z. omega (arith, z))

  pub else_where : Elsewhere w w' tm tm' l
  else_where = record {
    settings = mark_settings;
    on-counts = λ i h ne. same_count i h;
    on-units = λ i h ne. same_units i h;
    on-places = λ i h ne q hq r hr. same (40 + 12 * (8 * i + q) + r) (λ z. omega (arith, z, ne, j8));
    on-times = λ i h ne q hq. other-time (8 * i + q) (λ z. omega (arith, z, ne, j8));
  }

  -- ---- in the link itself
  same_ok : (p : ℕ) → place_ok w' p ≡ place_ok w p
  unfolding place_ok
  same_ok p = rw (same_word p 7 (omega arith) (λ z. omega (arith, z)), same_word p 8 (omega arith) (λ z. omega (arith, z)), same_word p 9 (omega arith) (λ z. omega (arith, z)), same_word p 10 (omega arith) (λ z. omega (arith, z)))

  same-costs : (p u : ℕ) → costs w' p u ≡ costs w p u
  same-costs p u = sum_same (λ i. place_cost w' (p + i)) (λ i. place_cost w (p + i)) u (λ i h. ap₂ ◌+◌ (same_word (p + i) 9 (omega arith) (λ z. omega (arith, z))) (same_word (p + i) 10 (omega arith) (λ z. omega (arith, z))))

  marked-link : Link w' l
  marked-link =
      let o = own w l g hl in
      let u : units w' l ≡ units w l = same_units l l16 in
      let c : count w' l ≡ count w l = same_count l l16 in
      record {
        few = omega (arith, u, o.few);
        right = ap (places_ok w' (8 * l)) u ∙ all_same (λ i. place_ok w' (8 * l + i)) (λ i. place_ok w (8 * l + i)) (units w l) (λ i h. same_ok (8 * l + i)) ∙ o.right;
        agrees = c ∙ o.agrees ∙ sym (ap (costs w' (8 * l)) u ∙ same-costs (8 * l) (units w l));
        within = omega (arith, c, mark_settings.on-cap, o.within);
        apart = ap (keys_ok w' (8 * l)) u ∙ keys-kept-by w w' (8 * l) (units w l) (λ i h k hk. same_word (8 * l + i) k (omega arith) (λ z. omega (arith, z))) ∙ o.apart;
      }

  pub marked-tables : Tables w'
  marked-tables =
      let e = excess_change w w' tm tm' l else_where hl (settings w g.set).few-links in
      tables_change w w' tm tm' l else_where g hl (length-set w (40 + 12 * (8 * l + j) + 6) note) marked-link (omega (arith, e, same_count l l16, g.rest))

  pub same_used : used_of w' (links w') ≡ used_of w (links w)
  same_used =
      ap (used_of w') mark_settings.on-links
      ∙ omega (arith, used_after w w' tm tm' l else_where (links w) hl (settings w g.set).few-links, same_count l l16)

  -- the blocks before a place of the link
  same_start : (i : ℕ) → start_of w' l i ≡ start_of w l i
  same_start i = ap₂ ◌+◌ (sum_same (count w') (count w) l (λ k h. same_count k (omega (arith, l16)))) (same-costs (8 * l) i)

  module _ (f : List ℕ) where
    abbrev then : ℕ → Unit
    then i = unit_at w tm f (start_of w l i) (8 * l + i)

    abbrev now : ℕ → Unit
    now i = unit_at w' tm' f (start_of w' l i) (8 * l + i)

    keys : (i : ℕ) → tab (word w' (8 * l + i)) 6 ≡ tab (word w (8 * l + i)) 6
    keys i = tab-same (word w' (8 * l + i)) (word w (8 * l + i)) 6 (λ k h. same_word (8 * l + i) k (omega arith) (λ z. omega (arith, z)))

    others : (i : ℕ) → i < units w l → (i ≡ j → ⊥) → now i ≡ then i
    others i h ne =
        rw (keys i, same (40 + 12 * (8 * l + i) + 6) (λ z. omega (arith, z, ne)), other-time (8 * l + i) (λ z. omega (arith, z, ne)), same_start i, same_word (8 * l + i) 7 (omega arith) (λ z. omega (arith, z)), same_word (8 * l + i) 8 (omega arith) (λ z. omega (arith, z)), same_word (8 * l + i) 9 (omega arith) (λ z. omega (arith, z)))

    self : now j ≡ marked_u (then j) note at
    self =
        rw (keys j, get_or-set_same w (40 + 12 * (8 * l + j) + 6) note 0 (omega (arith, g.long, l16, j8)), get_or-set_same tm (8 * l + j) at nan (omega (arith, pl, l16, j8)), same_start j, same_word (8 * l + j) 7 (omega arith) (λ z. omega (arith, z)), same_word (8 * l + j) 8 (omega arith) (λ z. omega (arith, z)), same_word (8 * l + j) 9 (omega arith) (λ z. omega (arith, z)))

    pub marked-units : link_units w' tm' f l ≡ set (link_units w tm f l) j (marked_u (get_or (link_units w tm f l) j blank) note at)
    marked-units =
        ap (tab now) (same_units l l16) ∙ set-tab then now (units w l) j hj others
        ∙ ap (set (tab then (units w l)) j) (self ∙ ap (λ (u : Unit). marked_u u note at) (sym (get_or-tab then (units w l) j blank hj)))

-- ---- the whole store
module _ (w : List ℕ) (tm : List Float) (list home bs : List ℕ) (l j note : ℕ) (at : Float) (g : Good w tm list home bs) (hl : l < links w) (hj : j < units w l) where
  abbrev v : List ℕ
  v = mark_words w l j note

  abbrev tv : List Float
  tv = set tm (8 * l + j) at

  kept : SameSettings w v
  kept = mark_settings w tm l j note at g.tab g.places hl hj

  pub marked-good : Good v tv list home bs
  marked-good = record {
    tab = marked-tables w tm l j note at g.tab g.places hl hj;
    places = omega (arith, length-set tm (8 * l + j) at, g.places);
    listed = omega (arith, kept.on-blocks, g.listed);
    homes = omega (arith, kept.on-blocks, g.homes);
    room = omega (arith, kept.on-blocks, g.room);
    chain = ap₂ (homed home list) kept.on-blocks (same_used w tm l j note at g.tab g.places hl hj) ∙ g.chain;
  }

  pub marked-pend : pend v tv list bs ≡ marked (pend w tm list bs) l j note at
  unfolding pend marked
  marked-pend =
      let f = octets w list bs in
      let c : count v l ≡ count w l = same_count w tm l j note at g.tab g.places hl hj l (omega (arith, hl, (settings w g.tab.set).few-links)) in
      ap (λ (n : ℕ). tab (link_units v tv (flat bs (take n list))) (links v)) (same_used w tm l j note at g.tab g.places hl hj)
      ∙ view_change w v tm tv l (else_where w tm l j note at g.tab g.places hl hj) g.tab f f hl refl (ap (λ (n : ℕ). drop (64 * (used_of w l + n)) f) c)
      ∙ ap (set (tab (link_units w tm f) (links w)) l)
      (marked-units w tm l j note at g.tab g.places hl hj f
      ∙ ap (λ (us : List Unit). set us j (marked_u (get_or us j blank) note at)) (sym (get_or-tab (link_units w tm f) (links w) l [] hl)))
