-- A part of a unit of a sound store becomes longer or shorter: the tables and the view.
use Prim.Native.Nat.{ℕ, ◌+◌, ◌*◌, ◌-◌, ◌≤◌, ◌<◌}
use mathlib.Core.Path.{◌≡◌, refl, sym, ap, ◌∙◌}
use mathlib.Core.Logic.{◌⊎◌, inl, inr}
use mathlib.Core.Bool.{Bool, true, false}
use mathlib.Core.List.{List, [], ◌++◌}
use native.Mathlib.Omega.{arith}
use lib.Dec.{ltb, eqb}
use lib.Ieee.{Float}
use lib.ListN.{length, get_or, set, take, drop, length-set}
use lib.Seq.{get_or-set_same, get_or-set_other, take-take}
use borrow.Author.Tests.{eqb-true, eqb-false, ltb-true, ltb-false}
use Rattle.octets.proofs.Tests.{all_of}
use Rattle.model.specs.Cost.{blocks}
use Rattle.chain.specs.Chain.{Spliced, flat, homed}
use Rattle.chain.proofs.Moves.{take-drop}
use Rattle.tables.specs.Tables.{links, blocks_in, reserve, cap, count, units, word, place_ok, places_ok, place_cost, costs, keys_ok, used_of, excess_of}
use Rattle.tables.proofs.Laws.{Tables, settings, Place, place_of, Link}
use Rattle.pool.specs.View.{Unit, blank, part_from, part_at, splice_words, spliced, SameSettings, Room, tab, start_of, unit_at, link_units, octets, pend}
use Rattle.pool.proofs.Good.{Good}
use Rattle.tables.proofs.Sums.{sum_in, sum_one}
use Rattle.pool.proofs.Tab.{tab-same, set-tab, get_or-tab}
use Rattle.pool.proofs.Change.{SamePlace, place_same, cost-same, costs-same, keys-kept-by, place_at, Elsewhere, tables_change, excess_change, view_change, used_before, used_after}
use Rattle.pool.proofs.Near.{two, own, inside, link-inside}

-- from equal fronts, equal parts
pub part_of : (x y : List ℕ) (o n : ℕ) → take (o + n) x ≡ take (o + n) y → take n (drop o x) ≡ take n (drop o y)
part_of x y o n e = sym (take-drop o n x) ∙ ap (drop o) e ∙ take-drop o n y

module _ (w : List ℕ) (tm : List Float) (l j part x n : ℕ) (g : Tables w) (hl : l < links w) (hj : j < units w l) (h2 : part < 2) where
  abbrev w' : List ℕ
  w' = splice_words w l j part x n

  abbrev p : ℕ
  p = 8 * l + j

  abbrev k : ℕ
  k = word w (8 * l + j) (9 + part)

  l16 : l < 16
  l16 = omega (arith, (settings w g.set).few-links)

  j8 : j < 8
  j8 = omega (arith, (own w l g hl).few)

  long : 1576 ≤ length w
  long = g.long

  same : (i : ℕ) → (i ≡ 40 + 12 * (8 * l + j) + (7 + part) → ⊥) → (i ≡ 40 + 12 * (8 * l + j) + (9 + part) → ⊥) → (i ≡ 8 + l → ⊥) → get_or w' i 0 ≡ get_or w i 0
  same i a b c =
      get_or-set_other (set (set w (40 + 12 * (8 * l + j) + (7 + part)) x) (40 + 12 * (8 * l + j) + (9 + part)) n) (8 + l) i (count w l + n - word w (8 * l + j) (9 + part)) 0 c
      ∙ get_or-set_other (set w (40 + 12 * (8 * l + j) + (7 + part)) x) (40 + 12 * (8 * l + j) + (9 + part)) i n 0 b
      ∙ get_or-set_other w (40 + 12 * (8 * l + j) + (7 + part)) i x 0 a

  pub same-long : length w' ≡ length w
  same-long = simp length-set

  pub counted : count w' l ≡ count w l + n - word w (8 * l + j) (9 + part)
  counted =
      get_or-set_same (set (set w (40 + 12 * (8 * l + j) + (7 + part)) x) (40 + 12 * (8 * l + j) + (9 + part)) n) (8 + l) (count w l + n - word w (8 * l + j) (9 + part)) 0
      (simp length-set (omega (arith, long, l16)))

  pub sized : word w' p (7 + part) ≡ x
  sized =
      get_or-set_other (set (set w (40 + 12 * (8 * l + j) + (7 + part)) x) (40 + 12 * (8 * l + j) + (9 + part)) n) (8 + l) (40 + 12 * (8 * l + j) + (7 + part)) (count w l + n - word w (8 * l + j) (9 + part)) 0 (λ z. omega (arith, z, l16))
      ∙ get_or-set_other (set w (40 + 12 * (8 * l + j) + (7 + part)) x) (40 + 12 * (8 * l + j) + (9 + part)) (40 + 12 * (8 * l + j) + (7 + part)) n 0 (λ z. omega (arith, z))
      ∙ get_or-set_same w (40 + 12 * (8 * l + j) + (7 + part)) x 0 (omega (arith, long, l16, j8))

  pub blocked : word w' p (9 + part) ≡ n
  blocked =
      get_or-set_other (set (set w (40 + 12 * (8 * l + j) + (7 + part)) x) (40 + 12 * (8 * l + j) + (9 + part)) n) (8 + l) (40 + 12 * (8 * l + j) + (9 + part)) (count w l + n - word w (8 * l + j) (9 + part)) 0 (λ z. omega (arith, z, l16))
      ∙ get_or-set_same (set w (40 + 12 * (8 * l + j) + (7 + part)) x) (40 + 12 * (8 * l + j) + (9 + part)) n 0 (simp length-set (omega (arith, long, l16, j8)))

  pub settings-kept : SameSettings w w'
  settings-kept = record {
    on-kind = same 0 (λ z. omega (arith, z)) (λ z. omega (arith, z)) (λ z. omega (arith, z));
    on-links = same 1 (λ z. omega (arith, z)) (λ z. omega (arith, z)) (λ z. omega (arith, z));
    on-blocks = same 2 (λ z. omega (arith, z)) (λ z. omega (arith, z)) (λ z. omega (arith, z));
    on-reserve = same 3 (λ z. omega (arith, z)) (λ z. omega (arith, z)) (λ z. omega (arith, z));
    on-cap = same 4 (λ z. omega (arith, z)) (λ z. omega (arith, z)) (λ z. omega (arith, z));
  }

  else_where : Elsewhere w w' tm tm l
  else_where = record {
    settings = settings-kept;
    on-counts = λ i h ne. same (8 + i) (λ z. omega (arith, z)) (λ z. omega (arith, z)) (λ z. omega (arith, z, ne));
    on-units = λ i h ne. same (24 + i) (λ z. omega (arith, z)) (λ z. omega (arith, z)) (λ z. omega (arith, z, l16));
    on-places = λ i h ne q hq r hr. same (40 + 12 * (8 * i + q) + r) (λ z. omega (arith, z, ne, j8)) (λ z. omega (arith, z, ne, j8)) (λ z. omega (arith, z, l16));
    on-times = λ i h ne q hq. refl;
  }

  -- ---- in the link itself
  same_units : units w' l ≡ units w l
  same_units = same (24 + l) (λ z. omega (arith, z)) (λ z. omega (arith, z)) (λ z. omega (arith, z))

  same_word : (i r : ℕ) → i < 8 → r < 11 → (i ≡ j → (r ≡ 7 + part → ⊥) × (r ≡ 9 + part → ⊥)) → word w' (8 * l + i) r ≡ word w (8 * l + i) r
  same_word i r hi hr ne = go (eqb i j) refl
    where
      go : (b : Bool) → eqb i j ≡ b → word w' (8 * l + i) r ≡ word w (8 * l + i) r
      go true e =
          let z : i ≡ j = eqb-true i j e in
          same (40 + 12 * (8 * l + i) + r) (λ y. (ne z).0 (omega (arith, y, z))) (λ y. (ne z).1 (omega (arith, y, z))) (λ y. omega (arith, y, l16))
      go false e =
          let z : i ≡ j → ⊥ = eqb-false i j e in
          same (40 + 12 * (8 * l + i) + r) (λ y. omega (arith, y, z, j8, h2)) (λ y. omega (arith, y, z, j8, h2)) (λ y. omega (arith, y, l16))

  same_place : (i : ℕ) → i < 8 → (i ≡ j → ⊥) → SamePlace w w' (8 * l + i)
  same_place i h ne r hr = same_word i r h hr (λ e. absurd (ne e))

  -- a word of the place itself that is neither
  kept_word : (r : ℕ) → r < 11 → (r ≡ 7 + part → ⊥) → (r ≡ 9 + part → ⊥) → word w' p r ≡ word w p r
  kept_word r hr a b = same_word j r j8 hr (λ _. (a, b))

  module _ (hn : n ≡ blocks x) where
    own-place : Place w (8 * l + j) → Place w' (8 * l + j)
    own-place q = go (two part h2)
      where
        go : (part ≡ 0) ⊎ (part ≡ 1) → Place w' (8 * l + j)
        go (inl e) = record {
          body = subst2 9 7 (omega (arith, e)) (omega (arith, e));
          top = kept_word 10 (omega arith) (λ z. omega (arith, z, e)) (λ z. omega (arith, z, e)) ∙ q.top ∙ ap blocks (sym (kept_word 8 (omega arith) (λ z. omega (arith, z, e)) (λ z. omega (arith, z, e))));
        }
          where
            subst2 : (a b : ℕ) → a ≡ 9 + part → b ≡ 7 + part → word w' p a ≡ blocks (word w' p b)
            subst2 a b ea eb = ap (word w' p) ea ∙ blocked ∙ hn ∙ ap blocks (sym sized ∙ ap (word w' p) (sym eb))
        go (inr e) = record {
          body = kept_word 9 (omega arith) (λ z. omega (arith, z, e)) (λ z. omega (arith, z, e)) ∙ q.body ∙ ap blocks (sym (kept_word 7 (omega arith) (λ z. omega (arith, z, e)) (λ z. omega (arith, z, e))));
          top = subst2 10 8 (omega (arith, e)) (omega (arith, e));
        }
          where
            subst2 : (a b : ℕ) → a ≡ 9 + part → b ≡ 7 + part → word w' p a ≡ blocks (word w' p b)
            subst2 a b ea eb = ap (word w' p) ea ∙ blocked ∙ hn ∙ ap blocks (sym sized ∙ ap (word w' p) (sym eb))

    places-right : places_ok w' (8 * l) (units w l) ≡ true
    places-right = all_of (λ i. place_ok w' (8 * l + i)) (units w l) (λ i h. go i h (eqb i j) refl)
      where
        go : (i : ℕ) → i < units w l → (b : Bool) → eqb i j ≡ b → place_ok w' (8 * l + i) ≡ true
        go i h true e =
            ap (λ (q : ℕ). place_ok w' (8 * l + q)) (eqb-true i j e) ∙ place_of w' (8 * l + j) (own-place (place_at w l j (own w l g hl) hj))
        go i h false e =
            place_same w w' (8 * l + i) (same_place i (omega (arith, (own w l g hl).few)) (eqb-false i j e))
            ∙ place_of w (8 * l + i) (place_at w l i (own w l g hl) h)

    cost-own : place_cost w' p + k ≡ place_cost w p + n
    cost-own = go (two part h2)
      where
        go : (part ≡ 0) ⊎ (part ≡ 1) → place_cost w' p + k ≡ place_cost w p + n
        go (inl e) =
            let a : word w' p 9 ≡ n = ap (λ (q : ℕ). word w' p (9 + q)) (sym e) ∙ blocked in
            let b : word w' p 10 ≡ word w p 10 = kept_word 10 (omega arith) (λ z. omega (arith, z, e)) (λ z. omega (arith, z, e)) in
            let c : k ≡ word w p 9 = ap (λ (q : ℕ). word w p (9 + q)) e in
            omega arith
        go (inr e) =
            let a : word w' p 10 ≡ n = ap (λ (q : ℕ). word w' p (9 + q)) (sym e) ∙ blocked in
            let b : word w' p 9 ≡ word w p 9 = kept_word 9 (omega arith) (λ z. omega (arith, z, e)) (λ z. omega (arith, z, e)) in
            let c : k ≡ word w p 10 = ap (λ (q : ℕ). word w p (9 + q)) e in
            omega arith

    costs_upto : (i : ℕ) → i ≤ j → costs w' (8 * l) i ≡ costs w (8 * l) i
    costs_upto i h = costs-same w w' (8 * l) i (λ q r. same_place q (omega (arith, j8)) (λ z. omega arith))

    costs-past : (i : ℕ) → j < i → i ≤ 8 → costs w' (8 * l) i + k ≡ costs w (8 * l) i + n
    costs-past i h hi =
        let e : costs w' (8 * l) i + place_cost w p ≡ costs w (8 * l) i + place_cost w' p =
        sum_one (λ q. place_cost w (8 * l + q)) (λ q. place_cost w' (8 * l + q)) i j h (λ q r ne. cost-same w w' (8 * l + q) (same_place q (omega arith) ne)) in
        omega (arith, e, cost-own)

    k-inside : k ≤ place_cost w p
    k-inside = go (two part h2)
      where
        go : (part ≡ 0) ⊎ (part ≡ 1) → k ≤ place_cost w p
        go (inl e) = let c : k ≡ word w p 9 = ap (λ (q : ℕ). word w p (9 + q)) e in omega arith
        go (inr e) = let c : k ≡ word w p 10 = ap (λ (q : ℕ). word w p (9 + q)) e in omega arith

    pub k-count : k ≤ count w l
    k-count = omega (arith, k-inside, inside w l j g hl hj)

    spliced-link : count w l + n ≤ cap w + k → Link w' l
    spliced-link h =
        let q = own w l g hl in
        record {
          few = omega (arith, same_units, q.few);
          right = ap (places_ok w' (8 * l)) same_units ∙ places-right;
          agrees = counted ∙ omega (arith, q.agrees, costs-past (units w l) hj q.few, k-count) ∙ ap (costs w' (8 * l)) (sym same_units);
          within = omega (arith, counted, h, settings-kept.on-cap);
          apart = ap (keys_ok w' (8 * l)) same_units ∙ keys-kept-by w w' (8 * l) (units w l) (λ i h r hr. same_word i r (omega (arith, q.few)) (omega arith) (λ _. (λ z. omega (arith, z), λ z. omega (arith, z)))) ∙ q.apart;
        }

    pub spliced-tables : Room w l k n → Tables w'
    spliced-tables r =
        let e : excess_of w' (links w) + (count w l - reserve w) ≡ excess_of w (links w) + (count w' l - reserve w) = excess_change w w' tm tm l else_where hl (settings w g.set).few-links in
        tables_change w w' tm tm l else_where g hl same-long (spliced-link r.own) (omega (arith, e, counted, r.common, excess_in))
      where
        excess_in : count w l - reserve w ≤ excess_of w (links w)
        excess_in = omega (arith, sum_in (λ i. count w i - reserve w) l (links w) hl)

    -- where the part stands among the place's blocks
    part_in : part_at w p part + k ≤ place_cost w p
    part_in = go (two part h2)
      where
        go : (part ≡ 0) ⊎ (part ≡ 1) → part_at w p part + k ≤ place_cost w p
        go (inl e) = let c : k ≡ word w p 9 = ap (λ (q : ℕ). word w p (9 + q)) e in rw (ap (part_at w p) e) (omega arith)
        go (inr e) = let c : k ≡ word w p 10 = ap (λ (q : ℕ). word w p (9 + q)) e in rw (ap (part_at w p) e) (omega arith)

    module _ (f f' src : List ℕ) (d : ℕ) (hx : x ≡ d + length src) (hd : d ≤ word w p (7 + part))
        (sp : Spliced f f' (start_of w l j + part_at w p part) k n d src) where
      abbrev a : ℕ
      a = start_of w l j + part_at w p part

      old : ℕ → Unit
      old i = unit_at w tm f (start_of w l i) (8 * l + i)

      new : ℕ → Unit
      new i = unit_at w' tm f' (start_of w' l i) (8 * l + i)

      used_same : used_of w' l ≡ used_of w l
      used_same = used_before w w' tm tm l else_where l (omega arith) l16

      keys_of : (i : ℕ) → i < 8 → tab (word w' (8 * l + i)) 6 ≡ tab (word w (8 * l + i)) 6
      keys_of i h = tab-same (word w' (8 * l + i)) (word w (8 * l + i)) 6 (λ q r. same_word i q h (omega arith) (λ _. (λ z. omega (arith, z), λ z. omega (arith, z))))

      others : (i : ℕ) → i < units w l → (i ≡ j → ⊥) → new i ≡ old i
      unfolding old new
      others i h ne =
          let i8 : i < 8 = omega (arith, (own w l g hl).few) in
          let q : SamePlace w w' (8 * l + i) = same_place i i8 ne in
          let o = go (place_at w l i (own w l g hl) h) (ltb i j) refl in
          rw (keys_of i i8, q 6 (omega arith), q 7 (omega arith), q 8 (omega arith), q 9 (omega arith), o.0, o.1)
        where
          go : Place w (8 * l + i) → (b : Bool) → ltb i j ≡ b
              → (take (word w (8 * l + i) 7) (drop (64 * start_of w' l i) f') ≡ take (word w (8 * l + i) 7) (drop (64 * start_of w l i) f))
              × (take (word w (8 * l + i) 8) (drop (64 * (start_of w' l i + word w (8 * l + i) 9)) f') ≡ take (word w (8 * l + i) 8) (drop (64 * (start_of w l i + word w (8 * l + i) 9)) f))
          go pl true b =
              let lt : i < j = ltb-true i j b in
              let st : start_of w' l i ≡ start_of w l i = omega (arith, used_same, costs_upto i (omega arith)) in
              let up : costs w (8 * l) i + place_cost w (8 * l + i) ≤ costs w (8 * l) j = sum_in (λ q. place_cost w (8 * l + q)) i j lt in
              rw st (
                part_of f' f (64 * start_of w l i) (word w (8 * l + i) 7) (sp.front (64 * start_of w l i + word w (8 * l + i) 7) (omega arith)),
                part_of f' f (64 * (start_of w l i + word w (8 * l + i) 9)) (word w (8 * l + i) 8) (sp.front (64 * (start_of w l i + word w (8 * l + i) 9) + word w (8 * l + i) 8) (omega arith)),
              )
          go pl false b =
              let gt : j < i = omega (arith, ltb-false i j b, ne) in
              let cp : costs w' (8 * l) i + k ≡ costs w (8 * l) i + n = costs-past i gt (omega (arith, (own w l g hl).few)) in
              let up : costs w (8 * l) j + place_cost w (8 * l + j) ≤ costs w (8 * l) i = sum_in (λ q. place_cost w (8 * l + q)) j i gt in
              let y : 64 * start_of w' l i ≡ 64 * start_of w l i + 64 * n - 64 * k = omega (arith, used_same, part_in) in
              let z : 64 * (start_of w' l i + word w (8 * l + i) 9) ≡ 64 * (start_of w l i + word w (8 * l + i) 9) + 64 * n - 64 * k = omega (arith, used_same, part_in) in (
                ap (take (word w (8 * l + i) 7)) (ap (λ (q : ℕ). drop q f') y ∙ sp.behind (64 * start_of w l i) (omega (arith, part_in))),
                ap (take (word w (8 * l + i) 8)) (ap (λ (q : ℕ). drop q f') z ∙ sp.behind (64 * (start_of w l i + word w (8 * l + i) 9)) (omega (arith, part_in))),
              )

      st : start_of w' l j ≡ start_of w l j
      st = omega (arith, used_same, costs_upto j (omega arith))

      note-kept : word w' p 6 ≡ word w p 6
      note-kept = kept_word 6 (omega arith) (λ z. omega (arith, z)) (λ z. omega (arith, z))

      -- the part itself
      own-part : (e : ℕ) → d ≤ e → take x (drop (64 * a) f') ≡ take d (take e (drop (64 * a) f)) ++ src
      own-part e h = ap (λ (q : ℕ). take q (drop (64 * a) f')) hx ∙ sp.own ∙ ap (λ (y : List ℕ). y ++ src) (sym (take-take d e (drop (64 * a) f) h))

      self : new j ≡ part_from part (old j) d src
      unfolding old new
      self = go (two part h2)
        where
          pl : Place w (8 * l + j)
          pl = place_at w l j (own w l g hl) hj

          go : (part ≡ 0) ⊎ (part ≡ 1) → unit_at w' tm f' (start_of w' l j) (8 * l + j) ≡ part_from part (unit_at w tm f (start_of w l j) (8 * l + j)) d src
          go (inl e) =
              let s7 : word w' p 7 ≡ x = ap (λ (q : ℕ). word w' p (7 + q)) (sym e) ∙ sized in
              let s9 : word w' p 9 ≡ n = ap (λ (q : ℕ). word w' p (9 + q)) (sym e) ∙ blocked in
              let s8 : word w' p 8 ≡ word w p 8 = kept_word 8 (omega arith) (λ z. omega (arith, z, e)) (λ z. omega (arith, z, e)) in
              let at : a ≡ start_of w l j = let c : part_at w p part ≡ 0 = ap (part_at w p) e in omega arith in
              let kk : k ≡ word w p 9 = ap (λ (q : ℕ). word w p (9 + q)) e in
              let d7 : d ≤ word w p 7 = let c : word w p (7 + part) ≡ word w p 7 = ap (λ (q : ℕ). word w p (7 + q)) e in omega arith in
              let body : take x (drop (64 * start_of w l j) f') ≡ take d (take (word w p 7) (drop (64 * start_of w l j) f)) ++ src =
              ap (λ (q : ℕ). take x (drop (64 * q) f')) (sym at) ∙ own-part (word w p 7) d7 ∙ ap (λ (q : ℕ). take d (take (word w p 7) (drop (64 * q) f)) ++ src) at in
              let y : 64 * (start_of w l j + n) ≡ 64 * (start_of w l j + word w p 9) + 64 * n - 64 * k = omega arith in
              let top : take (word w p 8) (drop (64 * (start_of w l j + n)) f') ≡ take (word w p 8) (drop (64 * (start_of w l j + word w p 9)) f) =
              ap (take (word w p 8)) (ap (λ (q : ℕ). drop q f') y ∙ sp.behind (64 * (start_of w l j + word w p 9)) (omega arith)) in
              rw (keys_of j j8, note-kept, s7, s8, s9, st, body, top, e)
          go (inr e) =
              let s8 : word w' p 8 ≡ x = ap (λ (q : ℕ). word w' p (7 + q)) (sym e) ∙ sized in
              let s7 : word w' p 7 ≡ word w p 7 = kept_word 7 (omega arith) (λ z. omega (arith, z, e)) (λ z. omega (arith, z, e)) in
              let s9 : word w' p 9 ≡ word w p 9 = kept_word 9 (omega arith) (λ z. omega (arith, z, e)) (λ z. omega (arith, z, e)) in
              let at : a ≡ start_of w l j + word w p 9 = let c : part_at w p part ≡ word w p 9 = ap (part_at w p) e in omega arith in
              let d8 : d ≤ word w p 8 = let c : word w p (7 + part) ≡ word w p 8 = ap (λ (q : ℕ). word w p (7 + q)) e in omega arith in
              let body : take (word w p 7) (drop (64 * start_of w l j) f') ≡ take (word w p 7) (drop (64 * start_of w l j) f) =
              part_of f' f (64 * start_of w l j) (word w p 7) (sp.front (64 * start_of w l j + word w p 7) (omega (arith, pl.body))) in
              let top : take x (drop (64 * (start_of w l j + word w p 9)) f') ≡ take d (take (word w p 8) (drop (64 * (start_of w l j + word w p 9)) f)) ++ src =
              ap (λ (q : ℕ). take x (drop (64 * q) f')) (sym at) ∙ own-part (word w p 8) d8 ∙ ap (λ (q : ℕ). take d (take (word w p 8) (drop (64 * q) f)) ++ src) at in
              rw (keys_of j j8, note-kept, s7, s8, s9, st, body, top, e)

      pub spliced-units : link_units w' tm f' l ≡ set (link_units w tm f l) j (part_from part (get_or (link_units w tm f l) j blank) d src)
      unfolding old new
      spliced-units =
          ap (tab (λ i. unit_at w' tm f' (start_of w' l i) (8 * l + i))) same_units
          ∙ set-tab old new (units w l) j hj others
          ∙ ap (set (tab old (units w l)) j) (self ∙ ap (λ (u : Unit). part_from part u d src) (sym (get_or-tab old (units w l) j blank hj)))

-- ---- the whole store
module _ (w : List ℕ) (tm : List Float) (list home bs list' home' bs' : List ℕ) (l j part d : ℕ) (src : List ℕ) (g : Good w tm list home bs)
    (hl : l < links w) (hj : j < units w l) (h2 : part < 2) (hd : d ≤ word w (8 * l + j) (7 + part))
    (r : Room w l (word w (8 * l + j) (9 + part)) (blocks (d + length src)))
    (ll : length list' ≡ length list) (lh : length home' ≡ length home) (lb : length bs' ≡ length bs)
    (ch : homed home' list' (blocks_in w) (used_of w (links w) + blocks (d + length src) - word w (8 * l + j) (9 + part)) ≡ true)
    (sp : Spliced (flat bs (take (used_of w (links w)) list)) (flat bs' (take (used_of w (links w) + blocks (d + length src) - word w (8 * l + j) (9 + part)) list'))
    (start_of w l j + part_at w (8 * l + j) part) (word w (8 * l + j) (9 + part)) (blocks (d + length src)) d src) where
  abbrev m : ℕ
  m = used_of w (links w)

  abbrev v : List ℕ
  v = splice_words w l j part (d + length src) (blocks (d + length src))

  kept : SameSettings w v
  kept = settings-kept w tm l j part (d + length src) (blocks (d + length src)) g.tab hl hj h2

  count-now : count v l ≡ count w l + blocks (d + length src) - word w (8 * l + j) (9 + part)
  count-now = counted w tm l j part (d + length src) (blocks (d + length src)) g.tab hl hj h2

  k-fits : word w (8 * l + j) (9 + part) ≤ count w l
  k-fits = k-count w tm l j part (d + length src) (blocks (d + length src)) g.tab hl hj h2 refl

  used_now : used_of v (links v) ≡ used_of w (links w) + blocks (d + length src) - word w (8 * l + j) (9 + part)
  used_now =
      let s = else_where w tm l j part (d + length src) (blocks (d + length src)) g.tab hl hj h2 in
      let e : used_of v (links w) + count w l ≡ used_of w (links w) + count v l = used_after w v tm tm l s (links w) hl (settings w g.tab.set).few-links in
      ap (used_of v) kept.on-links ∙ omega (arith, e, count-now, k-fits, link-inside w l hl)

  pub spliced-good : Good v tm list' home' bs'
  spliced-good = record {
    tab = spliced-tables w tm l j part (d + length src) (blocks (d + length src)) g.tab hl hj h2 refl r;
    places = g.places;
    listed = omega (arith, kept.on-blocks, ll, g.listed);
    homes = omega (arith, kept.on-blocks, lh, g.homes);
    room = omega (arith, kept.on-blocks, lb, g.room);
    chain = ap (λ (b : ℕ). homed home' list' b (used_of v (links v))) kept.on-blocks ∙ ap (homed home' list' (blocks_in w)) used_now ∙ ch;
  }

  pub spliced-pend : pend v tm list' bs' ≡ spliced (pend w tm list bs) l j part d src
  unfolding pend spliced
  spliced-pend =
      let s = else_where w tm l j part (d + length src) (blocks (d + length src)) g.tab hl hj h2 in
      let f = octets w list bs in
      let f' = flat bs' (take (used_of w (links w) + blocks (d + length src) - word w (8 * l + j) (9 + part)) list') in
      let e : octets v list' bs' ≡ f' = ap (λ (q : ℕ). flat bs' (take q list')) used_now in
      let ins = inside w l j g.tab hl hj in
      let pin = part_in w tm l j part (d + length src) (blocks (d + length src)) g.tab hl hj h2 refl in
      let fr : take (64 * used_of w l) f' ≡ take (64 * used_of w l) f = sp.front (64 * used_of w l) (omega arith) in
      let q : 64 * (used_of w l + count v l) ≡ 64 * (used_of w l + count w l) + 64 * blocks (d + length src) - 64 * word w (8 * l + j) (9 + part) = omega (arith, count-now, k-fits) in
      let bh : drop (64 * (used_of w l + count v l)) f' ≡ drop (64 * (used_of w l + count w l)) f =
      ap (λ (o : ℕ). drop o f') q ∙ sp.behind (64 * (used_of w l + count w l)) (omega (arith, ins, pin)) in
      ap (λ (y : List ℕ). tab (link_units v tm y) (links v)) e
      ∙ view_change w v tm tm l s g.tab f f' hl fr bh
      ∙ ap (set (tab (link_units w tm f) (links w)) l)
      (spliced-units w tm l j part (d + length src) (blocks (d + length src)) g.tab hl hj h2 refl f f' src d refl hd sp
      ∙ ap (λ (us : List Unit). set us j (part_from part (get_or us j blank) d src)) (sym (get_or-tab (link_units w tm f) (links w) l [] hl)))
