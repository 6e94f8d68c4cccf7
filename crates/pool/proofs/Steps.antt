-- What the operations leave, read as a kind reads it, is what the model's own steps leave.
use Prim.Native.Nat.{ℕ, zero, suc, ◌<◌}
use mathlib.Core.Path.{◌≡◌, refl, sym, ap, ◌∙◌}
use mathlib.Core.Bool.{Bool, true, false, cond}
use mathlib.Core.Option.{none, some}
use mathlib.Core.List.{List, [], ◌∷◌, ◌++◌}
use native.Mathlib.Numerals.{add-one}
use native.Mathlib.Omega.{arith}
use lib.Dec.{ltb}
use lib.Ieee.{Float}
use lib.ListN.{length, get_or, set, replicate, length-map, replicate-append-replicate}
use borrow.Author.Tests.{ltb-true, ltb-false, lt-ltb, le-ltb}
use Rattle.clock.specs.Time.{fresh_t}
use Rattle.model.specs.Kind.{Kind}
use Rattle.model.specs.Store.{Settings, keep, lookup, admit, remove, room, fresh}
use Rattle.model.specs.Store as model
use Rattle.pool.specs.View.{Unit, blank, tab, Found, without, keep_u, expired, emptied}
use Rattle.pool.specs.Shares.{Fine, room_for}
use Rattle.pool.specs.Kinds.{Reading, pass_u, passing, placed}
use Rattle.pool.proofs.Passing.{pass_head, pass_tail, passing-set}
use Rattle.pool.proofs.Model.{units_as, links_as, same_yes, same_no, use_as, excess_as}

-- the first unit with a key, among the units behind the first of all
found-tail : (u : Unit) (us : List Unit) (key : List ℕ) (r : ℕ) → Found (u ∷ us) key (suc r) → Found us key r
found-tail u us key r f = record { within = omega (arith, f.within); first = λ i h. f.first (suc i) (omega arith); has = λ h. f.has (omega arith) }

ltb_suc : (a b : ℕ) → ltb (suc a) (suc b) ≡ ltb a b
ltb_suc a b = go (ltb a b) refl
  where
    go : (t : Bool) → ltb a b ≡ t → ltb (suc a) (suc b) ≡ ltb a b
    go true h = lt-ltb (suc a) (suc b) (omega (arith, ltb-true a b h)) ∙ sym h
    go false h = le-ltb (suc a) (suc b) (omega (arith, ltb-false a b h)) ∙ sym h

placed-none : (v : Unit) (r : ℕ) → placed [] r v ≡ v ∷ []
placed-none v r = rw (le-ltb r 0 (omega arith))

placed-here : (u v : Unit) (us : List Unit) → placed (u ∷ us) 0 v ≡ v ∷ us
placed-here u v us = rw (lt-ltb 0 (suc (length us)) (omega arith))

placed-behind : (u v : Unit) (us : List Unit) (r : ℕ) → placed (u ∷ us) (suc r) v ≡ u ∷ placed us r v
placed-behind u v us r = rw (ltb_suc r (length us)) (go (ltb r (length us)))
  where
    go : (b : Bool) → cond b (u ∷ set us r v) (u ∷ (us ++ (v ∷ []))) ≡ u ∷ cond b (set us r v) (us ++ (v ∷ []))
    go true = refl
    go false = refl

without-behind : (u : Unit) (us : List Unit) (r : ℕ) → without (suc r) (u ∷ us) ≡ u ∷ without r us
unfolding without
without-behind u us r = refl

without-here : (u : Unit) (us : List Unit) → without 0 (u ∷ us) ≡ us
unfolding without
without-here u us = refl

tab-none : (n : ℕ) → tab (λ (l : ℕ). []) n ≡ replicate {A = List Unit} n []
unfolding tab
tab-none zero = refl
tab-none (suc n) = ap (λ (x : List (List Unit)). x ++ ([] ∷ [])) (tab-none n) ∙ replicate-append-replicate n 1 [] ∙ ap (λ (k : ℕ). replicate k []) (add-one n)

module _ (Z : Kind) (R : Reading Z) where
  pub set_as : (st : List (List Unit)) (l : ℕ) (us : List Unit) → links_as Z R (set st l us) ≡ set (links_as Z R st) l (units_as Z R us)
  set_as [] l us = refl
  set_as (x ∷ st) zero us = refl
  set_as (x ∷ st) (suc l) us = ap (λ (y : model.Links Z). units_as Z R x ∷ y) (set_as st l us)

  pub link_as : (st : List (List Unit)) (l : ℕ) → get_or (links_as Z R st) l [] ≡ units_as Z R (get_or st l [])
  link_as [] l = refl
  link_as (x ∷ st) zero = refl
  link_as (x ∷ st) (suc l) = link_as st l

  -- ---- expiry, and a link with no units
  pub keep_as : (at : Float) (us : List Unit) → units_as Z R (keep_u at us) ≡ keep Z at (units_as Z R us)
  unfolding keep_u
  keep_as at [] = refl
  keep_as at (u ∷ us) = go (keep_as at us) (fresh_t at u.time) (fresh_t at (Z.time (R.reads u).it)) (ap (fresh_t at) (sym (R.times u)))
    where
      go : units_as Z R (keep_u at us) ≡ keep Z at (units_as Z R us) → (b c : Bool) → b ≡ c
          → units_as Z R (cond b (u ∷ keep_u at us) (keep_u at us)) ≡ cond c (R.reads u ∷ keep Z at (units_as Z R us)) (keep Z at (units_as Z R us))
      go ih true c e = rw (← e, ih)
      go ih false c e = rw (← e, ih)

  pub expired_as : (st : List (List Unit)) (l : ℕ) (at : Float) → links_as Z R (expired st l at) ≡ set (links_as Z R st) l (keep Z at (get_or (links_as Z R st) l []))
  unfolding expired
  expired_as st l at =
      set_as st l (keep_u at (get_or st l []))
      ∙ ap (set (links_as Z R st) l) (keep_as at (get_or st l []) ∙ ap (keep Z at) (sym (link_as st l)))

  pub emptied_as : (st : List (List Unit)) (l : ℕ) → links_as Z R (emptied st l) ≡ set (links_as Z R st) l []
  unfolding emptied
  emptied_as st l = set_as st l []

  -- ---- the unit of a key
  module _ (v : Unit) (tv : R.test v ≡ true) where
    pub lookup-some : (us : List Unit) (r : ℕ) → pass_u R.test us ≡ true → Found us v.key r → r < length us → lookup Z (R.reads v).key (units_as Z R us) ≡ some (R.reads (get_or us r blank)).it
    lookup-some [] r p f h = absurd (omega arith)
    lookup-some (u ∷ us) zero p f h = rw (same_yes Z R u v (f.has (omega arith)))
    lookup-some (u ∷ us) (suc r) p f h =
        rw (same_no Z R u v (pass_head R.test u us p) tv (f.first 0 (omega arith)))
        (lookup-some us r (pass_tail R.test u us p) (found-tail u us v.key r f) (omega arith))

    none-by : (us : List Unit) → pass_u R.test us ≡ true → ((i : ℕ) → i < length us → (get_or us i blank).key ≡ v.key → ⊥) → lookup Z (R.reads v).key (units_as Z R us) ≡ none
    none-by [] p f = refl
    none-by (u ∷ us) p f =
        rw (same_no Z R u v (pass_head R.test u us p) tv (f 0 (omega arith)))
        (none-by us (pass_tail R.test u us p) (λ i h. f (suc i) (omega arith)))

    pub lookup-none : (us : List Unit) → pass_u R.test us ≡ true → Found us v.key (length us) → lookup Z (R.reads v).key (units_as Z R us) ≡ none
    lookup-none us p f = none-by us p f.first

    -- in the place of the unit of its key, or behind the others
    pub admit_as : (us : List Unit) (r : ℕ) → pass_u R.test us ≡ true → Found us v.key r → units_as Z R (placed us r v) ≡ admit Z (R.reads v) (units_as Z R us)
    admit_as [] r p f = ap (units_as Z R) (placed-none v r)
    admit_as (u ∷ us) zero p f = ap (units_as Z R) (placed-here u v us) ∙ rw (same_yes Z R u v (f.has (omega arith)))
    admit_as (u ∷ us) (suc r) p f =
        ap (units_as Z R) (placed-behind u v us r)
        ∙ rw (same_no Z R u v (pass_head R.test u us p) tv (f.first 0 (omega arith)))
        (ap (λ (x : model.Units Z). R.reads u ∷ x) (admit_as us r (pass_tail R.test u us p) (found-tail u us v.key r f)))

    remove-none : (us : List Unit) → pass_u R.test us ≡ true → ((i : ℕ) → i < length us → (get_or us i blank).key ≡ v.key → ⊥) → remove Z (R.reads v).key (units_as Z R us) ≡ units_as Z R us
    remove-none [] p f = refl
    remove-none (u ∷ us) p f =
        rw (same_no Z R u v (pass_head R.test u us p) tv (f 0 (omega arith)))
        (ap (λ (x : model.Units Z). R.reads u ∷ x) (remove-none us (pass_tail R.test u us p) (λ i h. f (suc i) (omega arith))))

    remove-by : (us : List Unit) (r : ℕ) → pass_u R.test us ≡ true → ((i j : ℕ) → i < j → j < length us → (get_or us i blank).key ≡ (get_or us j blank).key → ⊥) → Found us v.key r → r < length us → units_as Z R (without r us) ≡ remove Z (R.reads v).key (units_as Z R us)
    remove-by [] r p a f h = absurd (omega arith)
    remove-by (u ∷ us) zero p a f h =
        ap (units_as Z R) (without-here u us)
        ∙ rw (same_yes Z R u v (f.has (omega arith)))
        (sym (remove-none us (pass_tail R.test u us p) (λ i k e. a 0 (suc i) (omega arith) (omega arith) (f.has (omega arith) ∙ sym e))))
    remove-by (u ∷ us) (suc r) p a f h =
        ap (units_as Z R) (without-behind u us r)
        ∙ rw (same_no Z R u v (pass_head R.test u us p) tv (f.first 0 (omega arith)))
        (ap (λ (x : model.Units Z). R.reads u ∷ x) (remove-by us r (pass_tail R.test u us p) (λ i j k q. a (suc i) (suc j) (omega arith) (omega arith)) (found-tail u us v.key r f) (omega arith)))

    -- no key stands twice, so the model leaves out one unit at the most
    pub remove_as : (us : List Unit) (r c : ℕ) → pass_u R.test us ≡ true → Fine c us → Found us v.key r → r < length us → units_as Z R (without r us) ≡ remove Z (R.reads v).key (units_as Z R us)
    remove_as us r c p a f h = remove-by us r p a.apart f h

  -- ---- room, and a new store
  pub room_as : (s : Settings) (st : List (List Unit)) (l : ℕ) (us : List Unit) → passing R.test st ≡ true → pass_u R.test us ≡ true → room_for s.links s.blocks s.reserve s.cap st l us ≡ room Z s (links_as Z R st) l (units_as Z R us)
  unfolding room_for room
  room_as s st l us p q =
      rw (length-map us R.reads, use_as Z R us q, ← (set_as st l us), excess_as Z R s.reserve (set st l us) (passing-set R.test st l us p q))

  pub fresh_as : (s : Settings) → links_as Z R (tab (λ l. []) s.links) ≡ fresh Z s
  fresh_as s = ap (links_as Z R) (tab-none s.links) ∙ go s.links
    where
      go : (n : ℕ) → links_as Z R (replicate n []) ≡ replicate n []
      go zero = refl
      go (suc n) = ap (λ (x : model.Links Z). [] ∷ x) (go n)
