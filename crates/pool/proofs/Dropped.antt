-- A unit of a sound store is taken out: the tables and the view.
use Prim.Native.Nat.{ℕ, zero, suc, ◌+◌, ◌*◌, ◌-◌, ◌≤◌, ◌<◌}
use mathlib.Core.Path.{◌≡◌, refl, sym, ap, ap₂, ◌∙◌, subst}
use mathlib.Core.Bool.{Bool, true, false, not, cond}
use mathlib.Core.List.{List, [], ◌++◌}
use native.Mathlib.Omega.{arith}
use lib.Dec.{ltb, eqb}
use lib.Ieee.{Float, nan}
use lib.ListN.{length, get_or, set, take, drop, length-set, length-append, length-drop, get_or-append}
use lib.Seq.{get_or-set_same, get_or-set_other, get_or-append-add, get_or-take, get_or-drop, length-take-le, ext_get_or, take-append-le, drop-append-add, drop-drop, take-take}
use borrow.Author.Tests.{eqb-true, eqb-false, ltb-true, ltb-false, lt-ltb, le-ltb}
use Rattle.chain.specs.Chain.{flat, homed}
use Rattle.octets.proofs.Tests.{all-at, all_of}
use Rattle.chain.proofs.Spelt.{spelt-long, spelt-front, spelt-behind}
use Rattle.chain.proofs.Flat.{flat_append}
use Rattle.shift.specs.Shift.{shifted}
use Rattle.shift.proofs.Laws.{shifted-is}
use Rattle.tables.specs.Tables.{links, blocks_in, reserve, count, units, word, sum, place_ok, places_ok, place_cost, costs, word_eq, key_eq, key_new, keys_ok, used_of, excess_of}
use Rattle.tables.proofs.Laws.{Tables, settings, Place, place_of, Link, used_fits}
use Rattle.pool.specs.View.{Unit, blank, SameSettings, less_words, less_times, tab, start_of, unit_at, link_units, octets, pend, without, removed}
use Rattle.tables.proofs.Sums.{all_same, sum_same, sum_in, sum-suc}
use Rattle.pool.proofs.Tab.{tab-same, length-tab, get_or-tab}
use Rattle.pool.proofs.Change.{place_at, Elsewhere, tables_change, excess_change, view_change, used_before, used_after}
use Rattle.pool.proofs.Good.{Good}
use Rattle.pool.proofs.Near.{own, inside, link-inside}
use Rattle.pool.proofs.Parts.{part_of}

-- ---- entries after a shift
module _ {A : Type 0} (w : List A) (p s i : ℕ) (z : A) (hp : p ≤ i) (hi : i + s ≤ length w) where
  lp : length (take p w) ≡ p
  lp = length-take-le p w (omega arith)

  lm : length (take (i - p) (drop (p + s) w)) ≡ i - p
  lm = length-take-le (i - p) (drop (p + s) w) (simp length-drop (omega arith))

  pub at_front : (q : ℕ) → q < p → get_or (shifted w p s i) q z ≡ get_or w q z
  at_front q h =
      ap (λ (l : List A). get_or l q z) (shifted-is w p s i)
      ∙ get_or-append (take p w) (take (i - p) (drop (p + s) w) ++ drop i w) z q (omega (arith, lp))
      ∙ get_or-take p w q z h

  pub at_moved : (q : ℕ) → p ≤ q → q < i → get_or (shifted w p s i) q z ≡ get_or w (q + s) z
  at_moved q h k =
      let e : q ≡ length (take p w) + (q - p) = omega (arith, lp) in
      let e2 : p + s + (q - p) ≡ q + s = omega arith in
      ap (λ (l : List A). get_or l q z) (shifted-is w p s i)
      ∙ ap (λ (n : ℕ). get_or (take p w ++ (take (i - p) (drop (p + s) w) ++ drop i w)) n z) e
      ∙ get_or-append-add (take p w) (take (i - p) (drop (p + s) w) ++ drop i w) (q - p) z
      ∙ get_or-append (take (i - p) (drop (p + s) w)) (drop i w) z (q - p) (omega (arith, lm))
      ∙ get_or-take (i - p) (drop (p + s) w) (q - p) z (omega arith)
      ∙ get_or-drop (p + s) w (q - p) z
      ∙ ap (λ (n : ℕ). get_or w n z) e2

  pub at-behind : (q : ℕ) → i ≤ q → get_or (shifted w p s i) q z ≡ get_or w q z
  at-behind q h =
      let e : q ≡ length (take p w) + (length (take (i - p) (drop (p + s) w)) + (q - i)) = omega (arith, lp, lm) in
      let e2 : i + (q - i) ≡ q = omega arith in
      ap (λ (l : List A). get_or l q z) (shifted-is w p s i)
      ∙ ap (λ (n : ℕ). get_or (take p w ++ (take (i - p) (drop (p + s) w) ++ drop i w)) n z) e
      ∙ get_or-append-add (take p w) (take (i - p) (drop (p + s) w) ++ drop i w) (length (take (i - p) (drop (p + s) w)) + (q - i)) z
      ∙ get_or-append-add (take (i - p) (drop (p + s) w)) (drop i w) (q - i) z
      ∙ get_or-drop i w (q - i) z
      ∙ ap (λ (n : ℕ). get_or w n z) e2

  pub shifted-long : length (shifted w p s i) ≡ length w
  shifted-long =
      ap length (shifted-is w p s i) ∙ length-append (take p w) (take (i - p) (drop (p + s) w) ++ drop i w)
      ∙ omega (arith, lp, lm, length-append (take (i - p) (drop (p + s) w)) (drop i w), length-drop i w)

-- ---- one left out
abbrev pub up : ℕ → ℕ → ℕ
up j i = cond (ltb i j) i (suc i)

pub up-low : (j i : ℕ) → i < j → up j i ≡ i
up-low j i h = rw (lt-ltb i j h)

pub up-high : (j i : ℕ) → j ≤ i → up j i ≡ suc i
up-high j i h = rw (le-ltb i j h)

up_bounds : (j i : ℕ) → (i ≤ up j i) × (up j i ≤ suc i)
up_bounds j i = go (ltb i j)
  where
    go : (b : Bool) → (i ≤ cond b i (suc i)) × (cond b i (suc i) ≤ suc i)
    go true = (omega arith, omega arith)
    go false = (omega arith, omega arith)

up_more : (j x i : ℕ) → x < i → up j x < up j i
up_more j x i h = go (ltb x j) refl
  where
    go : (b : Bool) → ltb x j ≡ b → up j x < up j i
    go true e = omega (arith, up-low j x (ltb-true x j e), up_bounds j i)
    go false e = omega (arith, up-high j x (ltb-false x j e), up-high j i (omega (arith, ltb-false x j e)))

-- a sum with one term left out
sum_skip : (f g : ℕ → ℕ) (j i : ℕ) → j ≤ i → ((x : ℕ) → x < i → g x ≡ f (up j x)) → sum g i + f j ≡ sum f (suc i)
unfolding sum
sum_skip f g j zero h s = let z : j ≡ 0 = omega arith in rw z
sum_skip f g j (suc i) h s = go (λ k. sum_skip f g j i k (λ x q. s x (omega arith))) (eqb j (suc i)) refl
  where
    go : (j ≤ i → sum g i + f j ≡ sum f (suc i)) → (b : Bool) → eqb j (suc i) ≡ b → sum g i + g i + f j ≡ sum f i + f i + f (suc i)
    go ih true e =
        let k : j ≡ suc i = eqb-true j (suc i) e in
        let a : sum g i ≡ sum f i = sum_same g f i (λ x q. s x (omega arith) ∙ ap f (up-low j x (omega arith))) in
        let b : g i ≡ f i = s i (omega arith) ∙ ap f (up-low j i (omega arith)) in
        rw (a, b, k)
    go ih false e =
        let k : j ≤ i = omega (arith, eqb-false j (suc i) e) in
        let b : g i ≡ f (suc i) = s i (omega arith) ∙ ap f (up-high j i k) in
        omega (arith, ih k, sum-suc f i)

module _ {A : Type 0} where
  pub tab_skip : (f g : ℕ → A) (u j : ℕ) (z : A) → j < u → ((x : ℕ) → x < u - 1 → g x ≡ f (up j x)) → tab g (u - 1) ≡ without j (tab f u)
  unfolding without
  tab_skip f g u j z h s = ext_get_or z (tab g (u - 1)) (take j (tab f u) ++ drop (suc j) (tab f u)) long (λ i q. go i (omega (arith, length-tab g (u - 1))) (ltb i j) refl)
    where
      lt : length (take j (tab f u)) ≡ j
      lt = length-take-le j (tab f u) (omega (arith, length-tab f u))

      long : length (tab g (u - 1)) ≡ length (take j (tab f u) ++ drop (suc j) (tab f u))
      long = length-tab g (u - 1) ∙ sym (length-append (take j (tab f u)) (drop (suc j) (tab f u)) ∙ omega (arith, lt, length-drop (suc j) (tab f u), length-tab f u))

      go : (i : ℕ) → i < u - 1 → (b : Bool) → ltb i j ≡ b → get_or (tab g (u - 1)) i z ≡ get_or (take j (tab f u) ++ drop (suc j) (tab f u)) i z
      go i q true e =
          let k : i < j = ltb-true i j e in
          get_or-tab g (u - 1) i z q ∙ s i q ∙ ap f (up-low j i k) ∙ sym (get_or-tab f u i z (omega arith)) ∙ sym (get_or-take j (tab f u) i z k)
          ∙ sym (get_or-append (take j (tab f u)) (drop (suc j) (tab f u)) z i (omega (arith, lt)))
      go i q false e =
          let k : j ≤ i = ltb-false i j e in
          let e2 : i ≡ length (take j (tab f u)) + (i - j) = omega (arith, lt) in
          let e3 : suc j + (i - j) ≡ suc i = omega arith in
          get_or-tab g (u - 1) i z q ∙ s i q ∙ ap f (up-high j i k) ∙ sym (get_or-tab f u (suc i) z (omega arith))
          ∙ ap (λ (n : ℕ). get_or (tab f u) n z) (sym e3) ∙ sym (get_or-drop (suc j) (tab f u) (i - j) z)
          ∙ sym (get_or-append-add (take j (tab f u)) (drop (suc j) (tab f u)) (i - j) z)
          ∙ ap (λ (n : ℕ). get_or (take j (tab f u) ++ drop (suc j) (tab f u)) n z) (sym e2)

-- ---- the tables
module _ (w : List ℕ) (tm : List Float) (l j : ℕ) (g : Tables w) (pl : 128 ≤ length tm) (hl : l < links w) (hj : j < units w l) where
  abbrev w' : List ℕ
  w' = less_words w l j

  abbrev tm' : List Float
  tm' = less_times w tm l j

  l16 : l < 16
  l16 = omega (arith, (settings w g.set).few-links)

  u8 : units w l ≤ 8
  u8 = (own w l g hl).few

  abbrev a₀ : ℕ
  a₀ = 40 + 12 * (8 * l + j)

  abbrev e₀ : ℕ
  e₀ = 40 + 12 * (8 * l + units w l) - 12

  abbrev x₀ : List ℕ
  x₀ = shifted w a₀ 12 e₀

  two : (i : ℕ) → (i ≡ 24 + l → ⊥) → (i ≡ 8 + l → ⊥) → get_or w' i 0 ≡ get_or x₀ i 0
  two i a b = get_or-set_other (set x₀ (24 + l) (units w l - 1)) (8 + l) i (count w l - place_cost w (8 * l + j)) 0 b ∙ get_or-set_other x₀ (24 + l) i (units w l - 1) 0 a

  front : (i : ℕ) → i < a₀ → (i ≡ 24 + l → ⊥) → (i ≡ 8 + l → ⊥) → get_or w' i 0 ≡ get_or w i 0
  front i h a b = two i a b ∙ at_front w a₀ 12 e₀ 0 (omega arith) (omega (arith, g.long, l16, u8)) i h

  behind : (i : ℕ) → e₀ ≤ i → get_or w' i 0 ≡ get_or w i 0
  behind i h = two i (λ z. omega (arith, z, l16)) (λ z. omega (arith, z, l16)) ∙ at-behind w a₀ 12 e₀ 0 (omega arith) (omega (arith, g.long, l16, u8)) i h

  moved : (i : ℕ) → a₀ ≤ i → i < e₀ → get_or w' i 0 ≡ get_or w (i + 12) 0
  moved i h k = two i (λ z. omega (arith, z, l16)) (λ z. omega (arith, z, l16)) ∙ at_moved w a₀ 12 e₀ 0 (omega arith) (omega (arith, g.long, l16, u8)) i h k

  long' : length w' ≡ length w
  long' =
      length-set (set x₀ (24 + l) (units w l - 1)) (8 + l) (count w l - place_cost w (8 * l + j)) ∙ length-set x₀ (24 + l) (units w l - 1)
      ∙ shifted-long w a₀ 12 e₀ 0 (omega arith) (omega (arith, g.long, l16, u8))

  pub counted : count w' l ≡ count w l - place_cost w (8 * l + j)
  counted = get_or-set_same (set x₀ (24 + l) (units w l - 1)) (8 + l) (count w l - place_cost w (8 * l + j)) 0
      (omega (arith, length-set x₀ (24 + l) (units w l - 1), shifted-long w a₀ 12 e₀ 0 (omega arith) (omega (arith, g.long, l16, u8)), g.long, l16))

  unit_count : units w' l ≡ units w l - 1
  unit_count =
      get_or-set_other (set x₀ (24 + l) (units w l - 1)) (8 + l) (24 + l) (count w l - place_cost w (8 * l + j)) 0 (λ z. omega (arith, z))
      ∙ get_or-set_same x₀ (24 + l) (units w l - 1) 0 (omega (arith, shifted-long w a₀ 12 e₀ 0 (omega arith) (omega (arith, g.long, l16, u8)), g.long, l16))

  place_else : (k : ℕ) → k < 16 → (k ≡ l → ⊥) → (i : ℕ) → i < 8 → (q : ℕ) → q < 11 → word w' (8 * k + i) q ≡ word w (8 * k + i) q
  place_else k h ne i hi q hq = go (ltb k l) refl
    where
      go : (b : Bool) → ltb k l ≡ b → word w' (8 * k + i) q ≡ word w (8 * k + i) q
      go true e = front (40 + 12 * (8 * k + i) + q) (omega (arith, ltb-true k l e)) (λ z. omega (arith, z, l16)) (λ z. omega (arith, z, l16))
      go false e = behind (40 + 12 * (8 * k + i) + q) (omega (arith, ltb-false k l e, ne, u8))

  time_else : (k : ℕ) → k < 16 → (k ≡ l → ⊥) → (i : ℕ) → i < 8 → get_or tm' (8 * k + i) nan ≡ get_or tm (8 * k + i) nan
  time_else k h ne i hi = go (ltb k l) refl
    where
      go : (b : Bool) → ltb k l ≡ b → get_or tm' (8 * k + i) nan ≡ get_or tm (8 * k + i) nan
      go true e = at_front tm (8 * l + j) 1 (8 * l + units w l - 1) nan (omega arith) (omega (arith, pl, l16, u8)) (8 * k + i) (omega (arith, ltb-true k l e))
      go false e = at-behind tm (8 * l + j) 1 (8 * l + units w l - 1) nan (omega arith) (omega (arith, pl, l16, u8)) (8 * k + i) (omega (arith, ltb-false k l e, ne, u8))

  pub less-settings : SameSettings w w'
  less-settings = record {
    on-kind = front 0 (omega arith) (λ z. omega (arith, z)) (λ z. omega (arith, z));
    on-links = front 1 (omega arith) (λ z. omega (arith, z)) (λ z. omega (arith, z));
    on-blocks = front 2 (omega arith) (λ z. omega (arith, z)) (λ z. omega (arith, z));
    on-reserve = front 3 (omega arith) (λ z. omega (arith, z)) (λ z. omega (arith, z));
    on-cap = front 4 (omega arith) (λ z. omega (arith, z)) (λ z. omega (arith, z));
  }

  pub else_where : Elsewhere w w' tm tm' l
  else_where = record {
    settings = less-settings;
    on-counts = λ k h ne. front (8 + k) (omega arith) (λ z. omega (arith, z)) (λ z. omega (arith, z, ne));
    on-units = λ k h ne. front (24 + k) (omega arith) (λ z. omega (arith, z, ne)) (λ z. omega (arith, z, l16));
    on-places = place_else;
    on-times = time_else;
  }

  -- in the link
  pub here : (i : ℕ) → i < units w l - 1 → (q : ℕ) → q < 11 → word w' (8 * l + i) q ≡ word w (8 * l + up j i) q
  here i h q hq = go (ltb i j) refl
    where
      go : (b : Bool) → ltb i j ≡ b → word w' (8 * l + i) q ≡ word w (8 * l + up j i) q
      go true e =
          let k : i < j = ltb-true i j e in
          front (40 + 12 * (8 * l + i) + q) (omega arith) (λ z. omega (arith, z, l16)) (λ z. omega (arith, z, l16)) ∙ ap (λ (x : ℕ). word w (8 * l + x) q) (sym (up-low j i k))
      go false e =
          let k : j ≤ i = ltb-false i j e in
          let n : 40 + 12 * (8 * l + i) + q + 12 ≡ 40 + 12 * (8 * l + suc i) + q = omega arith in
          moved (40 + 12 * (8 * l + i) + q) (omega arith) (omega arith) ∙ ap (λ (x : ℕ). get_or w x 0) n ∙ ap (λ (x : ℕ). word w (8 * l + x) q) (sym (up-high j i k))

  pub here-time : (i : ℕ) → i < units w l - 1 → get_or tm' (8 * l + i) nan ≡ get_or tm (8 * l + up j i) nan
  here-time i h = go (ltb i j) refl
    where
      go : (b : Bool) → ltb i j ≡ b → get_or tm' (8 * l + i) nan ≡ get_or tm (8 * l + up j i) nan
      go true e =
          let k : i < j = ltb-true i j e in
          at_front tm (8 * l + j) 1 (8 * l + units w l - 1) nan (omega arith) (omega (arith, pl, l16, u8)) (8 * l + i) (omega arith) ∙ ap (λ (x : ℕ). get_or tm (8 * l + x) nan) (sym (up-low j i k))
      go false e =
          let k : j ≤ i = ltb-false i j e in
          let n : 8 * l + i + 1 ≡ 8 * l + suc i = omega arith in
          at_moved tm (8 * l + j) 1 (8 * l + units w l - 1) nan (omega arith) (omega (arith, pl, l16, u8)) (8 * l + i) (omega arith) (omega arith) ∙ ap (λ (x : ℕ). get_or tm x nan) n ∙ ap (λ (x : ℕ). get_or tm (8 * l + x) nan) (sym (up-high j i k))

  cost-here : (i : ℕ) → i < units w l - 1 → place_cost w' (8 * l + i) ≡ place_cost w (8 * l + up j i)
  cost-here i h = ap₂ ◌+◌ (here i h 9 (omega arith)) (here i h 10 (omega arith))

  places-left : places_ok w' (8 * l) (units w l - 1) ≡ true
  unfolding place_ok
  places-left = all_of (λ i. place_ok w' (8 * l + i)) (units w l - 1) (λ i h.
      rw (here i h 7 (omega arith), here i h 8 (omega arith), here i h 9 (omega arith), here i h 10 (omega arith))
      (place_of w (8 * l + up j i) (place_at w l (up j i) (own w l g hl) (omega (arith, up_bounds j i)))))

  pub costs_upto : (i : ℕ) → i ≤ j → costs w' (8 * l) i ≡ costs w (8 * l) i
  costs_upto i h = sum_same (λ x. place_cost w' (8 * l + x)) (λ x. place_cost w (8 * l + x)) i (λ x q. cost-here x (omega arith) ∙ ap (λ (y : ℕ). place_cost w (8 * l + y)) (up-low j x (omega arith)))

  pub costs-past : (i : ℕ) → j ≤ i → i < units w l → costs w' (8 * l) i + place_cost w (8 * l + j) ≡ costs w (8 * l) (suc i)
  costs-past i h k = sum_skip (λ x. place_cost w (8 * l + x)) (λ x. place_cost w' (8 * l + x)) j i h (λ x q. cost-here x (omega arith))

  keys-left : keys_ok w' (8 * l) (units w l - 1) ≡ true
  keys-left =
      all_of (key_new w' (8 * l)) (units w l - 1) (λ i q. all_of (λ x. not (key_eq w' (8 * l + i) (8 * l + x))) i (λ x r.
      let same : key_eq w' (8 * l + i) (8 * l + x) ≡ key_eq w (8 * l + up j i) (8 * l + up j x) =
      all_same (word_eq w' (8 * l + i) (8 * l + x)) (word_eq w (8 * l + up j i) (8 * l + up j x)) 6 (λ k h. ap₂ eqb (here i q k (omega arith)) (here x (omega arith) k (omega arith))) in
      ap not same ∙ all-at (λ y. not (key_eq w (8 * l + up j i) (8 * l + y))) (up j x) (up j i) (all-at (key_new w (8 * l)) (up j i) (units w l) (own w l g hl).apart (omega (arith, up_bounds j i))) (up_more j x i r)))

  less-link : Link w' l
  less-link =
      let q = own w l g hl in
      let c : costs w' (8 * l) (units w l - 1) + place_cost w (8 * l + j) ≡ costs w (8 * l) (suc (units w l - 1)) = costs-past (units w l - 1) (omega arith) (omega arith) in
      let n : suc (units w l - 1) ≡ units w l = omega arith in
      let k : costs w (8 * l) (suc (units w l - 1)) ≡ costs w (8 * l) (units w l) = ap (costs w (8 * l)) n in
      record {
        few = omega (arith, unit_count, u8);
        right = ap (places_ok w' (8 * l)) unit_count ∙ places-left;
        agrees = omega (arith, counted, q.agrees, c, k, ap (costs w' (8 * l)) unit_count);
        within = omega (arith, counted, q.within, less-settings.on-cap);
        apart = ap (keys_ok w' (8 * l)) unit_count ∙ keys-left;
      }

  pub less-tables : Tables w'
  less-tables =
      let e : excess_of w' (links w) + (count w l - reserve w) ≡ excess_of w (links w) + (count w' l - reserve w) = excess_change w w' tm tm' l else_where hl (settings w g.set).few-links in
      tables_change w w' tm tm' l else_where g hl long' less-link (omega (arith, e, counted, g.rest))

  pub less_settled : units w' l ≡ units w l - 1
  less_settled = unit_count

  -- ---- the view of the link
  module _ (f f' : List ℕ) (lf : length f ≡ 64 * used_of w (links w)) (sp : f' ≡ take (64 * start_of w l j) f ++ drop (64 * (start_of w l j + place_cost w (8 * l + j))) f) where
    fits : start_of w l j + place_cost w (8 * l + j) ≤ used_of w (links w)
    fits = omega (arith, inside w l j g hl hj, link-inside w l hl)

    ls : length (take (64 * start_of w l j) f) ≡ 64 * start_of w l j
    ls = length-take-le (64 * start_of w l j) f (omega (arith, lf, fits))

    pub cut-front : (n : ℕ) → n ≤ 64 * start_of w l j → take n f' ≡ take n f
    cut-front n h =
        ap (take n) sp ∙ take-append-le n (take (64 * start_of w l j) f) (drop (64 * (start_of w l j + place_cost w (8 * l + j))) f) (omega (arith, ls)) ∙ take-take n (64 * start_of w l j) f h

    pub cut-behind : (o o' : ℕ) → 64 * (start_of w l j + place_cost w (8 * l + j)) ≤ o → o' + 64 * place_cost w (8 * l + j) ≡ o → drop o' f' ≡ drop o f
    cut-behind o o' h e =
        let x : ℕ = o - 64 * (start_of w l j + place_cost w (8 * l + j)) in
        let a : o' ≡ length (take (64 * start_of w l j) f) + x = omega (arith, ls) in
        let b : 64 * (start_of w l j + place_cost w (8 * l + j)) + x ≡ o = omega arith in
        ap (drop o') sp
        ∙ ap (λ (k : ℕ). drop k (take (64 * start_of w l j) f ++ drop (64 * (start_of w l j + place_cost w (8 * l + j))) f)) a
        ∙ drop-append-add (take (64 * start_of w l j) f) (drop (64 * (start_of w l j + place_cost w (8 * l + j))) f) x
        ∙ drop-drop x (64 * (start_of w l j + place_cost w (8 * l + j))) f
        ∙ ap (λ (k : ℕ). drop k f) b

    old : ℕ → Unit
    old i = unit_at w tm f (start_of w l i) (8 * l + i)

    new : ℕ → Unit
    new i = unit_at w' tm' f' (start_of w' l i) (8 * l + i)

    used_same : used_of w' l ≡ used_of w l
    used_same = used_before w w' tm tm' l else_where l (omega arith) l16

    unit_here : (i : ℕ) → i < units w l - 1 → new i ≡ old (up j i)
    unfolding old new
    unit_here i h =
        let keys : tab (word w' (8 * l + i)) 6 ≡ tab (word w (8 * l + up j i)) 6 = tab-same (word w' (8 * l + i)) (word w (8 * l + up j i)) 6 (λ q r. here i h q (omega arith)) in
        let o = go (place_at w l (up j i) (own w l g hl) (omega (arith, up_bounds j i))) (ltb i j) refl in
        rw (keys, here i h 6 (omega arith), here i h 7 (omega arith), here i h 8 (omega arith), here i h 9 (omega arith), here-time i h, o.0, o.1)
      where
        go : Place w (8 * l + up j i) → (b : Bool) → ltb i j ≡ b
            → (take (word w (8 * l + up j i) 7) (drop (64 * start_of w' l i) f') ≡ take (word w (8 * l + up j i) 7) (drop (64 * start_of w l (up j i)) f))
            × (take (word w (8 * l + up j i) 8) (drop (64 * (start_of w' l i + word w (8 * l + up j i) 9)) f') ≡ take (word w (8 * l + up j i) 8) (drop (64 * (start_of w l (up j i) + word w (8 * l + up j i) 9)) f))
        go pl₀ true b =
            let lt : i < j = ltb-true i j b in
            let pl₁ : Place w (8 * l + i) = subst (λ (q : ℕ). Place w (8 * l + q)) (up-low j i lt) pl₀ in
            let st : start_of w' l i ≡ start_of w l i = omega (arith, used_same, costs_upto i (omega arith)) in
            let inn : costs w (8 * l) i + place_cost w (8 * l + i) ≤ costs w (8 * l) j = sum_in (λ k. place_cost w (8 * l + k)) i j lt in
            rw (up-low j i lt, st) (
              part_of f' f (64 * start_of w l i) (word w (8 * l + i) 7) (cut-front (64 * start_of w l i + word w (8 * l + i) 7) (omega arith)),
              part_of f' f (64 * (start_of w l i + word w (8 * l + i) 9)) (word w (8 * l + i) 8) (cut-front (64 * (start_of w l i + word w (8 * l + i) 9) + word w (8 * l + i) 8) (omega arith)),
            )
        go pl₀ false b =
            let ge : j ≤ i = ltb-false i j b in
            let c : costs w' (8 * l) i + place_cost w (8 * l + j) ≡ costs w (8 * l) (suc i) = costs-past i ge (omega arith) in
            let inn : costs w (8 * l) j + place_cost w (8 * l + j) ≤ costs w (8 * l) (suc i) = sum_in (λ k. place_cost w (8 * l + k)) j (suc i) (omega arith) in
            rw (up-high j i ge) (
              ap (take (word w (8 * l + suc i) 7)) (cut-behind (64 * start_of w l (suc i)) (64 * start_of w' l i) (omega arith) (omega (arith, used_same, c))),
              ap (take (word w (8 * l + suc i) 8)) (cut-behind (64 * (start_of w l (suc i) + word w (8 * l + suc i) 9)) (64 * (start_of w' l i + word w (8 * l + suc i) 9)) (omega arith) (omega (arith, used_same, c))),
            )

    pub less-units : link_units w' tm' f' l ≡ without j (link_units w tm f l)
    unfolding old new
    less-units = ap (tab (λ i. unit_at w' tm' f' (start_of w' l i) (8 * l + i))) unit_count ∙ tab_skip old new (units w l) j blank hj unit_here

-- ---- the whole store
module _ (w : List ℕ) (tm : List Float) (list home bs list' home' : List ℕ) (l j : ℕ) (g : Good w tm list home bs) (hl : l < links w) (hj : j < units w l)
    (ll : length list' ≡ length list) (lh : length home' ≡ length home)
    (rl : take (used_of w (links w) - place_cost w (8 * l + j)) list' ≡ take (start_of w l j) list ++ take (used_of w (links w) - (start_of w l j + place_cost w (8 * l + j))) (drop (start_of w l j + place_cost w (8 * l + j)) list))
    (ch : homed home' list' (blocks_in w) (used_of w (links w) - place_cost w (8 * l + j)) ≡ true) where
  abbrev v : List ℕ
  v = less_words w l j

  abbrev tv : List Float
  tv = less_times w tm l j

  k : ℕ
  k = place_cost w (8 * l + j)

  s : Elsewhere w v tm tv l
  s = else_where w tm l j g.tab g.places hl hj

  used_now : used_of v (links v) ≡ used_of w (links w) - place_cost w (8 * l + j)
  used_now =
      let e : used_of v (links w) + count w l ≡ used_of w (links w) + count v l = used_after w v tm tv l s (links w) hl (settings w g.tab.set).few-links in
      ap (used_of v) s.settings.on-links ∙ omega (arith, e, counted w tm l j g.tab g.places hl hj, inside w l j g.tab hl hj)

  pub less-good : Good v tv list' home' bs
  less-good = record {
    tab = less-tables w tm l j g.tab g.places hl hj;
    places = omega (arith, g.places, shifted-long tm (8 * l + j) 1 (8 * l + units w l - 1) nan (omega arith) (omega (arith, g.places, (own w l g.tab hl).few, (settings w g.tab.set).few-links)));
    listed = omega (arith, s.settings.on-blocks, ll, g.listed);
    homes = omega (arith, s.settings.on-blocks, lh, g.homes);
    room = omega (arith, s.settings.on-blocks, g.room);
    chain = ap (λ (b : ℕ). homed home' list' b (used_of v (links v))) s.settings.on-blocks ∙ ap (homed home' list' (blocks_in w)) used_now ∙ ch;
  }

  pub less-pend : pend v tv list' bs ≡ removed (pend w tm list bs) l j
  unfolding pend removed
  less-pend =
      let f = octets w list bs in
      let f' = flat bs (take (used_of w (links w) - place_cost w (8 * l + j)) list') in
      let m = used_of w (links w) in
      let hm : m ≤ length list = omega (arith, used_fits w g.tab, g.listed) in
      let ins = inside w l j g.tab hl hj in
      let lin = link-inside w l hl in
      let lf : length f ≡ 64 * m = spelt-long home list bs (blocks_in w) m g.chain hm g.room in
      let sp : f' ≡ take (64 * start_of w l j) f ++ drop (64 * (start_of w l j + place_cost w (8 * l + j))) f =
      ap (flat bs) rl ∙ flat_append bs (take (start_of w l j) list) (take (m - (start_of w l j + place_cost w (8 * l + j))) (drop (start_of w l j + place_cost w (8 * l + j)) list))
      ∙ ap₂ ◌++◌ (spelt-front home list bs (blocks_in w) m g.chain hm g.room (start_of w l j) (omega arith)) (spelt-behind home list bs (blocks_in w) m g.chain hm g.room (start_of w l j + place_cost w (8 * l + j)) (omega arith)) in
      let c : count v l ≡ count w l - place_cost w (8 * l + j) = counted w tm l j g.tab g.places hl hj in
      let e : octets v list' bs ≡ f' = ap (λ (n : ℕ). flat bs (take n list')) used_now in
      let fr : take (64 * used_of w l) f' ≡ take (64 * used_of w l) f = cut-front w tm l j g.tab g.places hl hj f f' lf sp (64 * used_of w l) (omega arith) in
      let bh : drop (64 * (used_of w l + count v l)) f' ≡ drop (64 * (used_of w l + count w l)) f =
      cut-behind w tm l j g.tab g.places hl hj f f' lf sp (64 * (used_of w l + count w l)) (64 * (used_of w l + count v l)) (omega arith) (omega (arith, c)) in
      ap (λ (x : List ℕ). tab (link_units v tv x) (links v)) e
      ∙ view_change w v tm tv l s g.tab f f' hl fr bh
      ∙ ap (set (tab (link_units w tm f) (links w)) l)
      (less-units w tm l j g.tab g.places hl hj f f' lf sp
      ∙ ap (without j) (sym (get_or-tab (link_units w tm f) (links w) l [] hl)))
