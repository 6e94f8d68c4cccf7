-- The units of a link expire, one place after the other.
use Prim.Native.Nat.{ℕ, suc, ◌+◌, ◌*◌, ◌<◌}
use mathlib.Core.Path.{◌≡◌, refl, sym, ap, ap₂, ◌∙◌}
use mathlib.Core.Bool.{Bool, true, false, cond}
use mathlib.Core.List.{List, [], ◌∷◌, ◌++◌, append_assoc, append-nil}
use native.Mathlib.Numerals.{add-one}
use native.Mathlib.Omega.{arith}
use lib.Ieee.{Float, nan}
use lib.ListN.{length, get_or, set, take, drop, length-set}
use lib.Seq.{take-suc, drop-cons, take_all, take_at, drop_at, length-take-le, get_or-set_same, set-set, set-get_or, drop-length}
use Rattle.clock.specs.Time.{fresh_t}
use Rattle.tables.specs.Tables.{links, units}
use Rattle.pool.specs.View.{Unit, SameSettings, blank, start_of, unit_at, link_units, octets, pend, without, removed, keep_u, expired}
use Rattle.pool.proofs.Tab.{length-tab, get_or-tab}

-- ---- the view of a link
module _ (w : List ℕ) (tm : List Float) (list bs : List ℕ) where
  pub pend-long : length (pend w tm list bs) ≡ links w
  unfolding pend
  pend-long = length-tab (link_units w tm (octets w list bs)) (links w)

  module _ (l : ℕ) (hl : l < links w) where
    pub link-view : get_or (pend w tm list bs) l [] ≡ link_units w tm (octets w list bs) l
    unfolding pend
    link-view = get_or-tab (link_units w tm (octets w list bs)) (links w) l [] hl

    pub view-long : length (get_or (pend w tm list bs) l []) ≡ units w l
    view-long = ap length link-view ∙ length-tab (λ i. unit_at w tm (octets w list bs) (start_of w l i) (8 * l + i)) (units w l)

    pub view-time : (j : ℕ) → j < units w l → (get_or (get_or (pend w tm list bs) l []) j blank).time ≡ get_or tm (8 * l + j) nan
    view-time j hj =
        ap (λ (us : List Unit). (get_or us j blank).time) link-view
        ∙ ap (λ (u : Unit). u.time) (get_or-tab (λ i. unit_at w tm (octets w list bs) (start_of w l i) (8 * l + i)) (units w l) j blank hj)

-- ---- settings stay, call after call
pub settings-refl : (w : List ℕ) → SameSettings w w
settings-refl w = record { on-kind = refl; on-links = refl; on-blocks = refl; on-reserve = refl; on-cap = refl }

pub settings_trans : (u v w : List ℕ) → SameSettings u v → SameSettings v w → SameSettings u w
settings_trans u v w a b = record {
  on-kind = b.on-kind ∙ a.on-kind;
  on-links = b.on-links ∙ a.on-links;
  on-blocks = b.on-blocks ∙ a.on-blocks;
  on-reserve = b.on-reserve ∙ a.on-reserve;
  on-cap = b.on-cap ∙ a.on-cap;
}

-- ---- a turn
keep_cons : (at : Float) (u : Unit) (us : List Unit) → keep_u at (u ∷ us) ≡ cond (fresh_t at u.time) (u ∷ keep_u at us) (keep_u at us)
unfolding keep_u
keep_cons at u us = refl

keep-none : (at : Float) → keep_u at [] ≡ []
unfolding keep_u
keep-none at = refl

without_is : (j : ℕ) (us : List Unit) → without j us ≡ take j us ++ drop (suc j) us
unfolding without
without_is j us = refl

module _ (at : Float) (us : List Unit) (j : ℕ) where
  kept_fresh : j < length us → fresh_t at (get_or us j blank).time ≡ true → take (j + 1) us ++ keep_u at (drop (j + 1) us) ≡ take j us ++ keep_u at (drop j us)
  kept_fresh h e =
      let u : Unit = get_or us j blank in
      let a : keep_u at (drop j us) ≡ u ∷ keep_u at (drop (suc j) us) = ap (keep_u at) (drop-cons us j blank h) ∙ keep_cons at u (drop (suc j) us) ∙ ap (λ (b : Bool). cond b (u ∷ keep_u at (drop (suc j) us)) (keep_u at (drop (suc j) us))) e in
      ap (λ (n : ℕ). take n us ++ keep_u at (drop n us)) (add-one j)
      ∙ ap (λ (x : List Unit). x ++ keep_u at (drop (suc j) us)) (take-suc us j blank h)
      ∙ append_assoc (take j us) (u ∷ []) (keep_u at (drop (suc j) us))
      ∙ ap (λ (x : List Unit). take j us ++ x) (sym a)

  kept_stale : j < length us → fresh_t at (get_or us j blank).time ≡ false → take j (without j us) ++ keep_u at (drop j (without j us)) ≡ take j us ++ keep_u at (drop j us)
  kept_stale h e =
      let u : Unit = get_or us j blank in
      let lt : length (take j us) ≡ j = length-take-le j us (omega arith) in
      let a : keep_u at (drop j us) ≡ keep_u at (drop (suc j) us) = ap (keep_u at) (drop-cons us j blank h) ∙ keep_cons at u (drop (suc j) us) ∙ ap (λ (b : Bool). cond b (u ∷ keep_u at (drop (suc j) us)) (keep_u at (drop (suc j) us))) e in
      ap (λ (x : List Unit). take j x ++ keep_u at (drop j x)) (without_is j us)
      ∙ ap₂ (λ (x y : List Unit). x ++ keep_u at y) (take_at (take j us) (drop (suc j) us) j lt) (drop_at (take j us) (drop (suc j) us) j lt)
      ∙ ap (λ (x : List Unit). take j us ++ x) (sym a)

  kept-all : length us ≡ j → take j us ++ keep_u at (drop j us) ≡ us
  kept-all h =
      ap (λ (n : ℕ). take n us ++ keep_u at (drop n us)) (sym h)
      ∙ ap₂ (λ (x y : List Unit). x ++ keep_u at y) (take_all (length us) us (omega arith)) (drop-length us)
      ∙ ap (λ (x : List Unit). us ++ x) (keep-none at) ∙ append-nil us

-- ---- where the loop is: j places of link l are done
pub record Going (at : Float) (st₀ st : List (List Unit)) (l j : ℕ) : Type 0 where
  pub long : length st ≡ length st₀
  pub others : st ≡ set st₀ l (get_or st l [])
  pub kept : take j (get_or st l []) ++ keep_u at (drop j (get_or st l [])) ≡ keep_u at (get_or st₀ l [])

pub going_start : (at : Float) (st : List (List Unit)) (l : ℕ) → Going at st st l 0
going_start at st l = record { long = refl; others = sym (set-get_or st l []); kept = refl }

module _ (at : Float) (st₀ st : List (List Unit)) (l j : ℕ) (hl : l < length st₀) (g : Going at st₀ st l j) where
  pub going-fresh : j < length (get_or st l []) → fresh_t at (get_or (get_or st l []) j blank).time ≡ true → Going at st₀ st l (j + 1)
  going-fresh h e = record { long = g.long; others = g.others; kept = kept_fresh at (get_or st l []) j h e ∙ g.kept }

  pub going_stale : (st' : List (List Unit)) → st' ≡ removed st l j → j < length (get_or st l []) → fresh_t at (get_or (get_or st l []) j blank).time ≡ false → Going at st₀ st' l j
  unfolding removed
  going_stale st' r h e =
      let here : get_or st' l [] ≡ without j (get_or st l []) = ap (λ (x : List (List Unit)). get_or x l []) r ∙ get_or-set_same st l (without j (get_or st l [])) [] (omega (arith, g.long)) in
      record {
        long = ap length r ∙ length-set st l (without j (get_or st l [])) ∙ g.long;
        others = r ∙ ap (λ (x : List (List Unit)). set x l (without j (get_or st l []))) g.others ∙ set-set st₀ l (get_or st l []) (without j (get_or st l [])) ∙ ap (set st₀ l) (sym here);
        kept = ap (λ (x : List Unit). take j x ++ keep_u at (drop j x)) here ∙ kept_stale at (get_or st l []) j h e ∙ g.kept;
      }

  pub going_end : length (get_or st l []) ≡ j → st ≡ expired st₀ l at
  unfolding expired
  going_end h = g.others ∙ ap (set st₀ l) (sym (kept-all at (get_or st l []) j h) ∙ g.kept)
