-- A unit with no octets is added to a link of a sound store: the tables and the view.
use Prim.Native.Nat.{ℕ, ◌+◌, ◌*◌, ◌≤◌, ◌<◌}
use mathlib.Core.Path.{◌≡◌, refl, sym, ap, ap₂, ◌∙◌}
use mathlib.Core.Logic.{◌⊎◌, inl, inr}
use mathlib.Core.Bool.{Bool, true, false, not}
use mathlib.Core.List.{List, [], ◌∷◌, ◌++◌}
use native.Mathlib.Nat.{add-zero}
use native.Mathlib.Numerals.{add-one}
use native.Mathlib.Omega.{arith}
use lib.Dec.{eqb, ltb}
use lib.Ieee.{Float, nan}
use lib.ListN.{length, get_or, set, take, drop, length-set, length-append, get_or-append}
use lib.Seq.{ext_get_or, get_or-append-add, get_or-set_same, get_or-set_other}
use borrow.Author.Tests.{eqb-true, ltb-true, ltb-false}
use Rattle.octets.specs.Emit.{put}
use Rattle.octets.proofs.Tests.{all-at, all_of, all_more}
use Rattle.octets.proofs.Put.{put_other, put_same, length-put}
use Rattle.model.specs.Cost.{blocks as blocksFor}
use Rattle.chain.specs.Chain.{flat, homed}
use Rattle.tables.specs.Tables.{links, count, units, word, place_ok, places_ok, place_cost, costs, key_eq, key_new, keys_ok, used_of}
use Rattle.tables.proofs.Laws.{Tables, settings, Link, place_of}
use Rattle.pool.specs.View.{Unit, Found, place_words, add_words, added_u, added, SameSettings, tab, start_of, unit_at, link_units, octets, pend}
use Rattle.pool.proofs.Good.{Good}
use Rattle.tables.proofs.Sums.{sum_same, sum-suc}
use Rattle.pool.proofs.Tab.{tab-same, length-tab, get_or-tab}
use Rattle.pool.proofs.Change.{SamePlace, places_same, costs-same, keys-same, Elsewhere, tables_change, excess_change, view_change, used_after}
use Rattle.pool.proofs.Near.{own}
use Rattle.pool.proofs.Keys.{key_of}

module _ (w : List ℕ) (tm : List Float) (l : ℕ) (key : List ℕ) (note : ℕ) (at : Float) (g : Tables w) (pl : 128 ≤ length tm) (hl : l < links w) (hu : units w l < 8) (hk : length key ≡ 6) where
  abbrev u : ℕ
  u = units w l

  abbrev p : ℕ
  p = 8 * l + u

  abbrev w' : List ℕ
  w' = add_words w l key note

  abbrev tm' : List Float
  tm' = set tm p at

  l16 : l < 16
  l16 = omega (arith, (settings w g.set).few-links)

  eleven : length (place_words key note) ≡ 11
  eleven = length-append key (note ∷ 0 ∷ 0 ∷ 0 ∷ 0 ∷ []) ∙ omega (arith, hk)

  same : (i : ℕ) → (i ≡ 24 + l → ⊥) → (i < 40 + 12 * p) ⊎ (40 + 12 * p + 11 ≤ i) → get_or w' i 0 ≡ get_or w i 0
  same i ne out =
      get_or-set_other (put w (40 + 12 * p) (place_words key note)) (24 + l) i (u + 1) 0 ne
      ∙ put_other (place_words key note) w (40 + 12 * p) i 0 (go out)
    where
      go : (i < 40 + 12 * p) ⊎ (40 + 12 * p + 11 ≤ i) → (i < 40 + 12 * p) ⊎ (40 + 12 * p + length (place_words key note) ≤ i)
      go (inl h) = inl h
      go (inr h) = inr (omega (arith, eleven))

  -- the words of the new place
  new_word : (k : ℕ) → k < 11 → word w' p k ≡ get_or (place_words key note) k 0
  new_word k h =
      get_or-set_other (put w (40 + 12 * p) (place_words key note)) (24 + l) (40 + 12 * p + k) (u + 1) 0 (λ z. omega (arith, z, l16))
      ∙ put_same (place_words key note) w (40 + 12 * p) k 0 (omega (arith, eleven)) (omega (arith, eleven, g.long, l16, hu))

  more-units : units w' l ≡ u + 1
  more-units = get_or-set_same (put w (40 + 12 * p) (place_words key note)) (24 + l) (u + 1) 0 (omega (arith, length-put w (40 + 12 * p) (place_words key note), g.long, l16))

  pub add-settings : SameSettings w w'
  add-settings = record {
    on-kind = same 0 (λ z. omega (arith, z)) (inl (omega arith));
    on-links = same 1 (λ z. omega (arith, z)) (inl (omega arith));
    on-blocks = same 2 (λ z. omega (arith, z)) (inl (omega arith));
    on-reserve = same 3 (λ z. omega (arith, z)) (inl (omega arith));
    on-cap = same 4 (λ z. omega (arith, z)) (inl (omega arith));
  }

  same_count : (i : ℕ) → i < 16 → count w' i ≡ count w i
  same_count i h = same (8 + i) (λ z. omega (arith, z)) (inl (omega arith))

  -- every place but the new one
  other_place : (q : ℕ) → (q < p) ⊎ (p < q) → SamePlace w w' q
  other_place q (inl h) k hk = same (40 + 12 * q + k) (λ z. omega (arith, z, l16)) (inl (omega arith))
  other_place q (inr h) k hk = same (40 + 12 * q + k) (λ z. omega (arith, z, l16)) (inr (omega arith))

  pub else_where : Elsewhere w w' tm tm' l
  else_where = record {
    settings = add-settings;
    on-counts = λ i h ne. same_count i h;
    on-units = λ i h ne. same (24 + i) (λ z. omega (arith, z, ne)) (inl (omega arith));
    on-places = λ i h ne q hq. other_place (8 * i + q) (apart i q hq ne);
    on-times = λ i h ne q hq. get_or-set_other tm p (8 * i + q) at nan (λ z. omega (arith, z, ne, hu));
  }
    where
      apart : (i q : ℕ) → q < 8 → (i ≡ l → ⊥) → (8 * i + q < p) ⊎ (p < 8 * i + q)
      apart i q hq ne = go (ltb i l) refl
        where
          go : (b : Bool) → ltb i l ≡ b → (8 * i + q < p) ⊎ (p < 8 * i + q)
          go true e = inl (omega (arith, ltb-true i l e))
          go false e = inr (omega (arith, ltb-false i l e, ne, hu))

  -- ---- in the link itself
  before : (i : ℕ) → i < u → SamePlace w w' (8 * l + i)
  before i h = other_place (8 * l + i) (inl (omega arith))

  -- the key, the note, and what follows it
  key-word : (k : ℕ) → k < 6 → word w' p k ≡ get_or key k 0
  key-word k h = new_word k (omega arith) ∙ get_or-append key (note ∷ 0 ∷ 0 ∷ 0 ∷ 0 ∷ []) 0 k (omega (arith, hk))

  tail-word : (k : ℕ) → k < 5 → word w' p (6 + k) ≡ get_or (note ∷ 0 ∷ 0 ∷ 0 ∷ 0 ∷ []) k 0
  tail-word k h =
      new_word (6 + k) (omega arith)
      ∙ ap (λ (n : ℕ). get_or (place_words key note) (n + k) 0) (sym hk) ∙ get_or-append-add key (note ∷ 0 ∷ 0 ∷ 0 ∷ 0 ∷ []) k 0

  new_ok : place_ok w' p ≡ true
  new_ok = place_of w' p (record {
    body = tail-word 3 (omega arith) ∙ sym (ap blocksFor (tail-word 1 (omega arith)));
    top = tail-word 4 (omega arith) ∙ sym (ap blocksFor (tail-word 2 (omega arith)));
  })

  new-cost : place_cost w' p ≡ 0
  new-cost = ap₂ ◌+◌ (tail-word 3 (omega arith)) (tail-word 4 (omega arith))

  same-costs : (i : ℕ) → i ≤ u → costs w' (8 * l) i ≡ costs w (8 * l) i
  same-costs i h = costs-same w w' (8 * l) i (λ k q. before k (omega arith))

  module _ (new : (i : ℕ) → i < u → tab (word w (8 * l + i)) 6 ≡ key → ⊥) where
    -- the new key differs from each before it
    new-key : key_new w' (8 * l) u ≡ true
    new-key = all_of (λ i. not (key_eq w' (8 * l + u) (8 * l + i))) u (λ i h. go i h (key_eq w' (8 * l + u) (8 * l + i)) refl)
      where
        go : (i : ℕ) → i < u → (b : Bool) → key_eq w' (8 * l + u) (8 * l + i) ≡ b → not (key_eq w' (8 * l + u) (8 * l + i)) ≡ true
        go i h false e = ap not e
        go i h true e = absurd (new i h (ext_get_or 0 (tab (word w (8 * l + i)) 6) key (length-tab (word w (8 * l + i)) 6 ∙ sym hk) (λ k q.
            let k6 : k < 6 = omega (arith, length-tab (word w (8 * l + i)) 6) in
            get_or-tab (word w (8 * l + i)) 6 k 0 k6
            ∙ sym (before i h k (omega arith))
            ∙ sym (eqb-true (word w' (8 * l + u) k) (word w' (8 * l + i) k) (all-at (λ x. eqb (word w' (8 * l + u) x) (word w' (8 * l + i) x)) k 6 e k6))
            ∙ key-word k k6)))

    added-link : Link w' l
    added-link =
        let o = own w l g hl in
        let c : count w' l ≡ count w l = same_count l l16 in
        record {
          few = omega (arith, more-units, hu);
          right = ap (places_ok w' (8 * l)) more-units ∙ all_more (λ i. place_ok w' (8 * l + i)) u (places_same w w' (8 * l) u before ∙ o.right) new_ok;
          agrees = c ∙ o.agrees ∙ sym (ap (costs w' (8 * l)) (more-units ∙ add-one u) ∙ sum-suc (λ i. place_cost w' (8 * l + i)) u ∙ ap₂ ◌+◌ (same-costs u (omega arith)) new-cost ∙ add-zero (costs w (8 * l) u));
          within = omega (arith, c, add-settings.on-cap, o.within);
          apart = ap (keys_ok w' (8 * l)) more-units ∙ all_more (key_new w' (8 * l)) u (keys-same w w' (8 * l) u before ∙ o.apart) new-key;
        }

    pub added-tables : Tables w'
    added-tables =
        let e = excess_change w w' tm tm' l else_where hl (settings w g.set).few-links in
        tables_change w w' tm tm' l else_where g hl (length-set (put w (40 + 12 * p) (place_words key note)) (24 + l) (u + 1) ∙ length-put w (40 + 12 * p) (place_words key note)) added-link (omega (arith, e, same_count l l16, g.rest))

  pub same_used : used_of w' (links w') ≡ used_of w (links w)
  same_used =
      ap (used_of w') add-settings.on-links
      ∙ omega (arith, used_after w w' tm tm' l else_where (links w) hl (settings w g.set).few-links, same_count l l16)

  same_start : (i : ℕ) → i ≤ u → start_of w' l i ≡ start_of w l i
  same_start i h = ap₂ ◌+◌ (sum_same (count w') (count w) l (λ k q. same_count k (omega (arith, l16)))) (same-costs i h)

  module _ (f : List ℕ) where
    abbrev then : ℕ → Unit
    then i = unit_at w tm f (start_of w l i) (8 * l + i)

    abbrev now : ℕ → Unit
    now i = unit_at w' tm' f (start_of w' l i) (8 * l + i)

    others : (i : ℕ) → i < u → now i ≡ then i
    others i h =
        let s = before i h in
        let keys : tab (word w' (8 * l + i)) 6 ≡ tab (word w (8 * l + i)) 6 = tab-same (word w' (8 * l + i)) (word w (8 * l + i)) 6 (λ k q. s k (omega arith)) in
        rw (keys, s 6 (omega arith), get_or-set_other tm p (8 * l + i) at nan (λ z. omega (arith, z)), same_start i (omega arith), s 7 (omega arith), s 8 (omega arith), s 9 (omega arith))

    keys : tab (word w' p) 6 ≡ key
    keys = ext_get_or 0 (tab (word w' p) 6) key (length-tab (word w' p) 6 ∙ sym hk) (λ k q. let k6 : k < 6 = omega (arith, length-tab (word w' p) 6) in get_or-tab (word w' p) 6 k 0 k6 ∙ key-word k k6)

    self : now u ≡ added_u key note at
    self =
        rw (keys, tail-word 0 (omega arith), get_or-set_same tm p at nan (omega (arith, pl, l16, hu)), tail-word 1 (omega arith), tail-word 2 (omega arith))

    pub added-units : link_units w' tm' f l ≡ link_units w tm f l ++ (added_u key note at ∷ [])
    unfolding tab
    added-units = ap (tab now) (more-units ∙ add-one u) ∙ ap₂ (λ (us : List Unit) (v : Unit). us ++ (v ∷ [])) (tab-same now then u others) self

-- ---- the whole store
module _ (w : List ℕ) (tm : List Float) (list home bs : List ℕ) (l : ℕ) (key : List ℕ) (note : ℕ) (at : Float) (g : Good w tm list home bs) (hl : l < links w) (hu : units w l < 8) (hk : length key ≡ 6)
    (free : Found (get_or (pend w tm list bs) l []) key (units w l)) where
  abbrev v : List ℕ
  v = add_words w l key note

  abbrev tv : List Float
  tv = set tm (8 * l + units w l) at

  kept : SameSettings w v
  kept = add-settings w tm l key note at g.tab g.places hl hu hk

  new : (i : ℕ) → i < units w l → tab (word w (8 * l + i)) 6 ≡ key → ⊥
  new i h e = free.first i h (key_of w tm list bs l i hl h ∙ e)

  pub added-good : Good v tv list home bs
  added-good = record {
    tab = added-tables w tm l key note at g.tab g.places hl hu hk new;
    places = omega (arith, length-set tm (8 * l + units w l) at, g.places);
    listed = omega (arith, kept.on-blocks, g.listed);
    homes = omega (arith, kept.on-blocks, g.homes);
    room = omega (arith, kept.on-blocks, g.room);
    chain = ap₂ (homed home list) kept.on-blocks (same_used w tm l key note at g.tab g.places hl hu hk) ∙ g.chain;
  }

  pub added-pend : pend v tv list bs ≡ added (pend w tm list bs) l key note at
  unfolding pend added
  added-pend =
      let f = octets w list bs in
      let c : count v l ≡ count w l = same_count w tm l key note at g.tab g.places hl hu hk l (omega (arith, hl, (settings w g.tab.set).few-links)) in
      ap (λ (n : ℕ). tab (link_units v tv (flat bs (take n list))) (links v)) (same_used w tm l key note at g.tab g.places hl hu hk)
      ∙ view_change w v tm tv l (else_where w tm l key note at g.tab g.places hl hu hk) g.tab f f hl refl (ap (λ (n : ℕ). drop (64 * (used_of w l + n)) f) c)
      ∙ ap (set (tab (link_units w tm f) (links w)) l)
      (added-units w tm l key note at g.tab g.places hl hu hk f
      ∙ ap (λ (us : List Unit). us ++ (added_u key note at ∷ [])) (sym (get_or-tab (link_units w tm f) (links w) l [] hl)))

  pub units-now : units v l ≡ units w l + 1
  units-now = more-units w tm l key note at g.tab g.places hl hu hk
