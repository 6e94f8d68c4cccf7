-- A store is sound for a kind exactly where it spells pending units that the kind reads as a sound store of the model.
use Prim.Native.Nat.{ℕ, zero, suc, ◌+◌, ◌-◌, ◌<◌}
use mathlib.Core.Path.{◌≡◌, refl, sym, ap, ap₂, ◌∙◌}
use mathlib.Core.Bool.{Bool, true, false, cond}
use mathlib.Core.Option.{none, some}
use mathlib.Core.List.{List, [], ◌∷◌, map}
use native.Mathlib.Omega.{arith}
use lib.Dec.{eqb}
use lib.Ieee.{Float}
use lib.ListN.{length, get_or, length-map}
use borrow.Author.Tests.{eqb-true, eq-eqb}
use Rattle.octets.proofs.Tests.{and_left, and_right}
use Rattle.model.specs.Kind.{Kind}
use Rattle.model.specs.Store as model
use Rattle.model.specs.Store.{Settings, lookup, Uniq, AllGood, Every, Sound}
use Rattle.pool.specs.View.{Unit, blank, pend, sound}
use Rattle.pool.specs.Shares.{in_use, excesses, Fine, Shared}
use Rattle.pool.specs.Kinds.{Reading, Spelt, pass_u, passing, sound_of, settings_of}
use Rattle.pool.proofs.Shares.{sound_shares}
use Rattle.pool.proofs.Exact.{spelt_of, sound-from}
use Rattle.pool.proofs.Passing.{pass_head, pass_tail, passing-head, passing-tail, sound-is}

no_some : {A : Type 0} (x : A) → some x ≡ none → ⊥
no_some x e = let z : ◌≡◌ {A = ℕ} 0 1 = cc in absurd (omega arith)

module _ (Z : Kind) (R : Reading Z) where
  -- the units of a link, and of all links, as the kind reads them
  abbrev pub units_as : List Unit → model.Units Z
  units_as = map R.reads

  abbrev pub links_as : List (List Unit) → model.Links Z
  links_as = map units_as

  -- two keys are the same for the kind exactly where their words are
  pub same_yes : (u v : Unit) → u.key ≡ v.key → Z.same (R.reads u).key (R.reads v).key ≡ true
  same_yes u v e = ap (Z.same (R.reads u).key) (sym (R.same u v e)) ∙ Z.same_refl (R.reads u).key

  pub same_no : (u v : Unit) → R.test u ≡ true → R.test v ≡ true → (u.key ≡ v.key → ⊥) → Z.same (R.reads u).key (R.reads v).key ≡ false
  same_no u v a b h = go (Z.same (R.reads u).key (R.reads v).key) refl
    where
      go : (t : Bool) → Z.same (R.reads u).key (R.reads v).key ≡ t → Z.same (R.reads u).key (R.reads v).key ≡ false
      go true e = absurd (h (R.keys u v a b (Z.same_eq (R.reads u).key (R.reads v).key e)))
      go false e = e

  pub use_as : (us : List Unit) → pass_u R.test us ≡ true → model.in_use Z (units_as us) ≡ in_use us
  unfolding in_use
  use_as [] h = refl
  use_as (u ∷ us) h = ap₂ ◌+◌ (R.costs u (pass_head R.test u us h)) (use_as us (pass_tail R.test u us h))

  pub excess_as : (r : ℕ) (st : List (List Unit)) → passing R.test st ≡ true → model.excesses Z r (links_as st) ≡ excesses r st
  unfolding excesses
  excess_as r [] h = refl
  excess_as r (us ∷ st) h = ap₂ (λ (x y : ℕ). x - r + y) (use_as us (passing-head R.test us st h)) (excess_as r st (passing-tail R.test us st h))

  -- every unit that passes is good
  pub good_as : (us : List Unit) → pass_u R.test us ≡ true → AllGood Z (units_as us)
  good_as [] h = tt
  good_as (u ∷ us) h = (R.good u (pass_head R.test u us h), good_as us (pass_tail R.test u us h))

  -- ---- no key twice, in the view and in the model
  no_other : (u : Unit) (us : List Unit) → R.test u ≡ true → pass_u R.test us ≡ true → ((i : ℕ) → i < length us → u.key ≡ (get_or us i blank).key → ⊥) → lookup Z (R.reads u).key (units_as us) ≡ none
  no_other u [] p q h = refl
  no_other u (v ∷ us) p q h =
      rw (same_no v u (pass_head R.test v us q) p (λ e. h 0 (omega arith) (sym e)))
      (no_other u us p (pass_tail R.test v us q) (λ i k. h (suc i) (omega arith)))

  uniq_as : (us : List Unit) → pass_u R.test us ≡ true → ((i j : ℕ) → i < j → j < length us → (get_or us i blank).key ≡ (get_or us j blank).key → ⊥) → Uniq Z (units_as us)
  uniq_as [] q h = tt
  uniq_as (u ∷ us) q h = (
    no_other u us (pass_head R.test u us q) (pass_tail R.test u us q) (λ i k. h 0 (suc i) (omega arith) (omega arith)),
    uniq_as us (pass_tail R.test u us q) (λ i j a b. h (suc i) (suc j) (omega arith) (omega arith)),
  )

  other : (u : Unit) (us : List Unit) (i : ℕ) → i < length us → u.key ≡ (get_or us i blank).key → lookup Z (R.reads u).key (units_as us) ≡ none → ⊥
  other u [] i h e k = absurd (omega arith)
  other u (v ∷ us) zero h e k =
      no_some (R.reads v).it (ap (λ (b : Bool). cond b (some (R.reads v).it) (lookup Z (R.reads u).key (units_as us))) (sym (same_yes v u (sym e))) ∙ k)
  other u (v ∷ us) (suc i) h e k = go (other u us i (omega arith) e) (Z.same (R.reads v).key (R.reads u).key) k
    where
      go : (lookup Z (R.reads u).key (units_as us) ≡ none → ⊥) → (b : Bool) → cond b (some (R.reads v).it) (lookup Z (R.reads u).key (units_as us)) ≡ none → ⊥
      go ih true k = no_some (R.reads v).it k
      go ih false k = ih k

  apart_as : (us : List Unit) → Uniq Z (units_as us) → (i j : ℕ) → i < j → j < length us → (get_or us i blank).key ≡ (get_or us j blank).key → ⊥
  apart_as [] q i j h k e = absurd (omega arith)
  apart_as (u ∷ us) q i zero h k e = absurd (omega arith)
  apart_as (u ∷ us) q zero (suc j) h k e = other u us j (omega arith) e q.0
  apart_as (u ∷ us) q (suc i) (suc j) h k e = apart_as us q.1 i j (omega arith) (omega arith) e

  -- ---- the share rules, in the view and in the model
  module _ (s : Settings) where
    fine_to : (us : List Unit) → pass_u R.test us ≡ true → Fine s.cap us → model.Fine Z s (units_as us)
    fine_to us p f = record { few = omega (arith, length-map us R.reads, f.few); capped = omega (arith, use_as us p, f.capped); uniq = uniq_as us p f.apart; good = good_as us p }

    fine-from : (us : List Unit) → pass_u R.test us ≡ true → model.Fine Z s (units_as us) → Fine s.cap us
    fine-from us p f = record { few = omega (arith, length-map us R.reads, f.few); capped = omega (arith, use_as us p, f.capped); apart = apart_as us f.uniq }

    every_to : (st : List (List Unit)) → passing R.test st ≡ true → ((l : ℕ) → l < length st → Fine s.cap (get_or st l [])) → Every Z (model.Fine Z s) (links_as st)
    every_to [] p f = tt
    every_to (us ∷ st) p f = (fine_to us (passing-head R.test us st p) (f 0 (omega arith)), every_to st (passing-tail R.test us st p) (λ l h. f (suc l) (omega arith)))

    every-from : (st : List (List Unit)) → passing R.test st ≡ true → Every Z (model.Fine Z s) (links_as st) → (l : ℕ) → l < length st → Fine s.cap (get_or st l [])
    every-from [] p f l h = absurd (omega arith)
    every-from (us ∷ st) p f zero h = fine-from us (passing-head R.test us st p) f.0
    every-from (us ∷ st) p f (suc l) h = every-from st (passing-tail R.test us st p) f.1 l (omega arith)

    pub shared_to : (st : List (List Unit)) → passing R.test st ≡ true → Shared s.links s.blocks s.reserve s.cap st → Sound Z s (links_as st)
    shared_to st p h = record {
      count = length-map st units_as ∙ h.many;
      each = every_to st p (λ l q. h.each l (omega (arith, h.many)));
      common = omega (arith, excess_as s.reserve st p, h.common);
    }

    pub shared_from : (st : List (List Unit)) → passing R.test st ≡ true → Sound Z s (links_as st) → Shared s.links s.blocks s.reserve s.cap st
    shared_from st p h =
        let n : length st ≡ s.links = sym (length-map st units_as) ∙ h.count in
        record {
          many = n;
          each = λ l q. every-from st p h.each l (omega (arith, n));
          common = omega (arith, excess_as s.reserve st p, h.common);
        }

  -- ---- the soundness test, exactly
  module _ (kind : ℕ) (w : List ℕ) (t : List Float) (list home bs : List ℕ) where
    pub exactly_to : sound_of kind R.test w t list home bs ≡ true → Spelt w t list home bs × (get_or w 0 0 ≡ kind) × (passing R.test (pend w t list bs) ≡ true) × Sound Z (settings_of w) (links_as (pend w t list bs))
    exactly_to h =
        let e = sym (sound-is kind R.test w t list home bs) ∙ h in
        let a = and_left (sound w t list home bs) _ e in
        let f = and_right (sound w t list home bs) _ e in
        let p = and_right (eqb (get_or w 0 0) kind) _ f in
        (spelt_of w t list home bs a, eqb-true (get_or w 0 0) kind (and_left (eqb (get_or w 0 0) kind) _ f), p, shared_to (settings_of w) (pend w t list bs) p (sound_shares w t list home bs a))

    pub exactly_from : Spelt w t list home bs → get_or w 0 0 ≡ kind → passing R.test (pend w t list bs) ≡ true → Sound Z (settings_of w) (links_as (pend w t list bs)) → sound_of kind R.test w t list home bs ≡ true
    exactly_from g k p m =
        sound-is kind R.test w t list home bs
        ∙ rw (sound-from w t list home bs g (shared_from (settings_of w) (pend w t list bs) p m), eq-eqb (get_or w 0 0) kind k, p)
