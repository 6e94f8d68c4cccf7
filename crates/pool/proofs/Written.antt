-- Octets are written inside a part of a unit of a sound store.
use Prim.Native.Nat.{ℕ, ◌+◌, ◌*◌, ◌-◌, ◌≤◌, ◌<◌}
use mathlib.Core.Path.{◌≡◌, refl, sym, ap, ap₂, ◌∙◌}
use mathlib.Core.Logic.{◌⊎◌, inl, inr}
use mathlib.Core.Bool.{Bool, true, false}
use mathlib.Core.List.{List, []}
use native.Mathlib.Omega.{arith}
use lib.Dec.{ltb}
use lib.Ieee.{Float}
use lib.ListN.{length, get_or, set, take, drop}
use borrow.Author.Tests.{ltb-true, ltb-false}
use Rattle.octets.specs.Emit.{put}
use Rattle.chain.specs.Chain.{flat}
use Rattle.chain.proofs.Spelt.{spelt-long}
use Rattle.chain.proofs.Spliced.{put_front, put-behind}
use Rattle.chain.proofs.Window.{window_before, window_behind, window_over}
use Rattle.tables.specs.Tables.{links, blocks_in, count, units, word, place_cost, costs, used_of}
use Rattle.tables.proofs.Laws.{Place, used_fits}
use Rattle.pool.specs.View.{Unit, blank, part_at, part_put, written, tab, start_of, unit_at, link_units, octets, pend}
use Rattle.pool.proofs.Good.{Good}
use Rattle.tables.proofs.Sums.{sum_in}
use Rattle.pool.proofs.Tab.{set-tab, get_or-tab}
use Rattle.pool.proofs.Change.{place_at, Elsewhere, view_change}
use Rattle.pool.proofs.Near.{two, own, inside, Ready, ready, sizes}
use Rattle.pool.proofs.Expired.{settings-refl}

module _ (w : List ℕ) (tm : List Float) (list home bs : List ℕ) (l j part o : ℕ) (src : List ℕ) (g : Good w tm list home bs) (hl : l < links w) (hj : j < units w l) (h2 : part < 2)
    (ho : o + length src ≤ word w (8 * l + j) (7 + part)) where
  -- where it is written
  abbrev v : ℕ
  v = 64 * (start_of w l j + part_at w (8 * l + j) part) + o

  rd : Ready w l j part
  rd = ready w l j part g.tab hl hj h2

  part_in : part_at w (8 * l + j) part + word w (8 * l + j) (9 + part) ≤ place_cost w (8 * l + j)
  part_in = go (two part h2)
    where
      go : (part ≡ 0) ⊎ (part ≡ 1) → part_at w (8 * l + j) part + word w (8 * l + j) (9 + part) ≤ place_cost w (8 * l + j)
      go (inl e) = rw e (omega arith)
      go (inr e) = rw e (omega arith)

  module _ (f : List ℕ) (lf : length f ≡ 64 * used_of w (links w)) where
    fits : v + length src ≤ length f
    fits = omega (arith, lf, rd.inside, rd.filled, ho)

    abbrev then : ℕ → Unit
    then i = unit_at w tm f (start_of w l i) (8 * l + i)

    abbrev now : ℕ → Unit
    now i = unit_at w tm (put f v src) (start_of w l i) (8 * l + i)

    abbrev made : List ℕ → List ℕ → Unit
    made x y = record { key = (then j).key; note = (then j).note; time = (then j).time; body = x; top = y }

    -- a unit whose blocks all stand before, or all behind
    apart : (i : ℕ) → i < units w l → (i ≡ j → ⊥) → now i ≡ then i
    apart i hi ne = go (ltb i j) refl
      where
        p : Place w (8 * l + i)
        p = place_at w l i (own w l g.tab hl) hi

        go : (b : Bool) → ltb i j ≡ b → now i ≡ then i
        go true e =
            let lt : i < j = ltb-true i j e in
            let u : costs w (8 * l) i + place_cost w (8 * l + i) ≤ costs w (8 * l) j = sum_in (λ k. place_cost w (8 * l + k)) i j lt in
            rw (window_before f v src fits (64 * start_of w l i) (word w (8 * l + i) 7) (omega (arith, u, p.body)), window_before f v src fits (64 * (start_of w l i + word w (8 * l + i) 9)) (word w (8 * l + i) 8) (omega (arith, u, p.body, p.top)))
        go false e =
            let gt : j < i = omega (arith, ltb-false i j e, ne) in
            let u : costs w (8 * l) j + place_cost w (8 * l + j) ≤ costs w (8 * l) i = sum_in (λ k. place_cost w (8 * l + k)) j i gt in
            let z : v + length src ≤ 64 * start_of w l i = omega (arith, u, part_in, rd.filled, ho) in
            rw (window_behind f v src fits (64 * start_of w l i) (word w (8 * l + i) 7) z, window_behind f v src fits (64 * (start_of w l i + word w (8 * l + i) 9)) (word w (8 * l + i) 8) (omega (arith, z)))

    self : now j ≡ part_put part (then j) o src
    self = go (two part h2)
      where
        go : (part ≡ 0) ⊎ (part ≡ 1) → now j ≡ part_put part (then j) o src
        go (inl e) =
            let z = sizes w l j g.tab hl hj in
            let a : part_at w (8 * l + j) part ≡ 0 = rw e in
            let h : o + length src ≤ word w (8 * l + j) 7 = rw e at ho in
            let k : v - 64 * start_of w l j ≡ o = omega (arith, a) in
            let b = window_over f v src fits (64 * start_of w l j) (word w (8 * l + j) 7) (omega (arith, a)) (omega (arith, a, h)) (omega (arith, lf, z.right.body, z.before)) ∙ ap (λ (i : ℕ). put (then j).body i src) k in
            let c = window_behind f v src fits (64 * (start_of w l j + word w (8 * l + j) 9)) (word w (8 * l + j) 8) (omega (arith, a, h, z.right.body)) in
            ap₂ made b c ∙ ap (λ (i : ℕ). part_put i (then j) o src) (sym e)
        go (inr e) =
            let z = sizes w l j g.tab hl hj in
            let a : part_at w (8 * l + j) part ≡ word w (8 * l + j) 9 = rw e in
            let h : o + length src ≤ word w (8 * l + j) 8 = rw e at ho in
            let k : v - 64 * (start_of w l j + word w (8 * l + j) 9) ≡ o = omega (arith, a) in
            let b = window_before f v src fits (64 * start_of w l j) (word w (8 * l + j) 7) (omega (arith, a, z.right.body)) in
            let c = window_over f v src fits (64 * (start_of w l j + word w (8 * l + j) 9)) (word w (8 * l + j) 8) (omega (arith, a)) (omega (arith, a, h)) (omega (arith, lf, z.right.top, z.before)) ∙ ap (λ (i : ℕ). put (then j).top i src) k in
            ap₂ made b c ∙ ap (λ (i : ℕ). part_put i (then j) o src) (sym e)

    written-units : link_units w tm (put f v src) l ≡ set (link_units w tm f l) j (part_put part (get_or (link_units w tm f l) j blank) o src)
    written-units =
        set-tab then now (units w l) j hj apart
        ∙ ap (set (tab then (units w l)) j) (self ∙ ap (λ (u : Unit). part_put part u o src) (sym (get_or-tab then (units w l) j blank hj)))

  still : Elsewhere w w tm tm l
  still = record {
    settings = settings-refl w;
    on-counts = λ i h ne. refl;
    on-units = λ i h ne. refl;
    on-places = λ i h ne q hq r hr. refl;
    on-times = λ i h ne q hq. refl;
  }

  module _ (bs' : List ℕ) (lb : length bs' ≡ length bs) (wr : flat bs' (take (used_of w (links w)) list) ≡ put (octets w list bs) v src) where
    pub written-good : Good w tm list home bs'
    written-good = record { tab = g.tab; places = g.places; listed = g.listed; homes = g.homes; room = omega (arith, lb, g.room); chain = g.chain }

    pub written-pend : pend w tm list bs' ≡ written (pend w tm list bs) l j part o src
    unfolding pend written
    written-pend =
        let f = octets w list bs in
        let lf : length f ≡ 64 * used_of w (links w) = spelt-long home list bs (blocks_in w) (used_of w (links w)) g.chain (omega (arith, used_fits w g.tab, g.listed)) g.room in
        let ins = inside w l j g.tab hl hj in
        let fr : take (64 * used_of w l) (put f v src) ≡ take (64 * used_of w l) f = put_front f v src (fits f lf) (64 * used_of w l) (omega arith) in
        let bh : drop (64 * (used_of w l + count w l)) (put f v src) ≡ drop (64 * (used_of w l + count w l)) f = put-behind f v src (fits f lf) (64 * (used_of w l + count w l)) (omega (arith, ins, part_in, rd.filled, ho)) in
        ap (λ (y : List ℕ). tab (link_units w tm y) (links w)) wr
        ∙ view_change w w tm tm l still g.tab f (put f v src) hl fr bh
        ∙ ap (set (tab (link_units w tm f) (links w)) l)
        (written-units f lf
        ∙ ap (λ (us : List Unit). set us j (part_put part (get_or us j blank) o src)) (sym (get_or-tab (link_units w tm f) (links w) l [] hl)))
