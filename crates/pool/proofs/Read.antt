-- A part of a unit of a sound store, where its place spells it.
use Prim.Native.Nat.{ℕ, ◌+◌, ◌*◌, ◌<◌}
use mathlib.Core.Path.{◌≡◌, sym, ap, ◌∙◌}
use mathlib.Core.Logic.{◌⊎◌, inl, inr}
use mathlib.Core.List.{List}
use native.Mathlib.Nat.{add-zero}
use native.Mathlib.Omega.{arith}
use lib.Ieee.{Float}
use lib.ListN.{length, get_or, take, drop, length-drop}
use lib.Seq.{length-take-le}
use Rattle.chain.proofs.Spelt.{spelt-long}
use Rattle.tables.specs.Tables.{links, blocks_in, units, word, used_of}
use Rattle.tables.proofs.Laws.{used_fits}
use Rattle.pool.specs.View.{Unit, blank, unit_of, part_of, part_at, start_of, unit_at, octets, pend}
use Rattle.pool.proofs.Good.{Good}
use Rattle.pool.proofs.Tab.{get_or-tab}
use Rattle.pool.proofs.Near.{two, ready}
use Rattle.pool.proofs.Expired.{link-view}

module _ (w : List ℕ) (tm : List Float) (list home bs : List ℕ) (l j part : ℕ) (g : Good w tm list home bs) (hl : l < links w) (hj : j < units w l) (h2 : part < 2) where
  unit_is : unit_of (pend w tm list bs) l j ≡ unit_at w tm (octets w list bs) (start_of w l j) (8 * l + j)
  unit_is =
      ap (λ (us : List Unit). get_or us j blank) (link-view w tm list bs l hl)
      ∙ get_or-tab (λ i. unit_at w tm (octets w list bs) (start_of w l i) (8 * l + i)) (units w l) j blank hj

  pub part-is : part_of part (unit_of (pend w tm list bs) l j) ≡ take (word w (8 * l + j) (7 + part)) (drop (64 * (start_of w l j + part_at w (8 * l + j) part)) (octets w list bs))
  part-is = ap (part_of part) unit_is ∙ go (two part h2)
    where
      go : (part ≡ 0) ⊎ (part ≡ 1) → part_of part (unit_at w tm (octets w list bs) (start_of w l j) (8 * l + j)) ≡ take (word w (8 * l + j) (7 + part)) (drop (64 * (start_of w l j + part_at w (8 * l + j) part)) (octets w list bs))
      go (inl e) = rw e (ap (λ (s : ℕ). take (word w (8 * l + j) 7) (drop (64 * s) (octets w list bs))) (sym (add-zero (start_of w l j))))
      go (inr e) = rw e

  pub part-long : length (part_of part (unit_of (pend w tm list bs) l j)) ≡ word w (8 * l + j) (7 + part)
  part-long =
      let r = ready w l j part g.tab hl hj h2 in
      let o : ℕ = 64 * (start_of w l j + part_at w (8 * l + j) part) in
      let lf : length (octets w list bs) ≡ 64 * used_of w (links w) = spelt-long home list bs (blocks_in w) (used_of w (links w)) g.chain (omega (arith, used_fits w g.tab, g.listed)) g.room in
      ap length part-is ∙ length-take-le (word w (8 * l + j) (7 + part)) (drop o (octets w list bs)) (omega (arith, lf, r.inside, r.filled, length-drop o (octets w list bs)))
