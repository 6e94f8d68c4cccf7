-- Laws of the test of every unit, and of the soundness test of a kind.
use Prim.Native.Nat.{ℕ, zero, suc, ◌+◌, ◌*◌, ◌<◌}
use mathlib.Core.Path.{◌≡◌, refl, sym, ap, ap₂, ◌∙◌}
use mathlib.Core.Bool.{Bool, true, false, cond, ◌&&◌}
use mathlib.Core.List.{List, [], ◌∷◌, ◌++◌}
use native.Mathlib.Omega.{arith}
use lib.Dec.{eqb}
use lib.Ieee.{Float}
use lib.ListN.{length, get_or, set, take, drop}
use Rattle.clock.specs.Time.{fresh_t}
use Rattle.octets.specs.Tests.{all}
use Rattle.octets.proofs.Tests.{and_left, and_right}
use Rattle.tables.specs.Tables.{links, units}
use Rattle.pool.specs.View.{Unit, blank, tab, start_of, unit_at, link_units, octets, pend, sound, unit_of, with_unit, without, removed, keep_u, expired, emptied, marked_u, marked, added_u, added, part_from, spliced, part_put, written}
use Rattle.pool.specs.Kinds.{pass_u, passing, sound_of, any_unit}
use Rattle.tables.proofs.Sums.{all_same}
use Rattle.pool.proofs.Tab.{get_or-tab}
use Rattle.pool.proofs.Expired.{link-view}

and_both : (p q : Bool) → p ≡ true → q ≡ true → (p && q) ≡ true
and_both p q a b = rw (a, b)

and_true : (p : Bool) → (p && true) ≡ p
and_true true = refl
and_true false = refl

and_assoc : (p q r : Bool) → (p && (q && r)) ≡ ((p && q) && r)
and_assoc true q r = refl
and_assoc false q r = refl

-- every unit passes a test that all pass
any-units : (us : List Unit) → pass_u any_unit us ≡ true
unfolding pass_u
any-units [] = refl
any-units (u ∷ us) = any-units us

pub any-passing : (st : List (List Unit)) → passing any_unit st ≡ true
unfolding passing
any-passing [] = refl
any-passing (us ∷ st) = and_both (pass_u any_unit us) (passing any_unit st) (any-units us) (any-passing st)

module _ (test : Unit → Bool) where
  -- ---- the units of a link
  pub pass_at : (us : List Unit) (i : ℕ) → pass_u test us ≡ true → i < length us → test (get_or us i blank) ≡ true
  unfolding pass_u
  pass_at [] i h k = absurd (omega arith)
  pass_at (u ∷ us) zero h k = and_left (test u) _ h
  pass_at (u ∷ us) (suc i) h k = pass_at us i (and_right (test u) _ h) (omega arith)

  pub pass_of : (us : List Unit) → ((i : ℕ) → i < length us → test (get_or us i blank) ≡ true) → pass_u test us ≡ true
  unfolding pass_u
  pass_of [] h = refl
  pass_of (u ∷ us) h = and_both (test u) (pass_u test us) (h 0 (omega arith)) (pass_of us (λ i k. h (suc i) (omega arith)))

  pub pass_none : pass_u test [] ≡ true
  unfolding pass_u
  pass_none = refl

  pub pass_cons : (u : Unit) (us : List Unit) → test u ≡ true → pass_u test us ≡ true → pass_u test (u ∷ us) ≡ true
  unfolding pass_u
  pass_cons u us a b = and_both (test u) (pass_u test us) a b

  pub pass_head : (u : Unit) (us : List Unit) → pass_u test (u ∷ us) ≡ true → test u ≡ true
  unfolding pass_u
  pass_head u us h = and_left (test u) (pass_u test us) h

  pub pass_tail : (u : Unit) (us : List Unit) → pass_u test (u ∷ us) ≡ true → pass_u test us ≡ true
  unfolding pass_u
  pass_tail u us h = and_right (test u) (pass_u test us) h

  pub pass_append : (xs ys : List Unit) → pass_u test (xs ++ ys) ≡ (pass_u test xs && pass_u test ys)
  unfolding pass_u
  pass_append [] ys = refl
  pass_append (x ∷ xs) ys = ap (λ (b : Bool). test x && b) (pass_append xs ys) ∙ and_assoc (test x) (pass_u test xs) (pass_u test ys)

  pub pass_take : (n : ℕ) (us : List Unit) → pass_u test us ≡ true → pass_u test (take n us) ≡ true
  pass_take zero us h = pass_none
  pass_take (suc n) [] h = h
  pass_take (suc n) (u ∷ us) h = pass_cons u (take n us) (pass_head u us h) (pass_take n us (pass_tail u us h))

  pub pass_drop : (n : ℕ) (us : List Unit) → pass_u test us ≡ true → pass_u test (drop n us) ≡ true
  pass_drop zero us h = h
  pass_drop (suc n) [] h = h
  pass_drop (suc n) (u ∷ us) h = pass_drop n us (pass_tail u us h)

  pub pass_set : (us : List Unit) (j : ℕ) (v : Unit) → pass_u test us ≡ true → test v ≡ true → pass_u test (set us j v) ≡ true
  pass_set [] j v h k = h
  pass_set (u ∷ us) zero v h k = pass_cons v us k (pass_tail u us h)
  pass_set (u ∷ us) (suc j) v h k = pass_cons u (set us j v) (pass_head u us h) (pass_set us j v (pass_tail u us h) k)

  pub pass_last : (us : List Unit) (v : Unit) → pass_u test us ≡ true → test v ≡ true → pass_u test (us ++ (v ∷ [])) ≡ true
  pass_last us v h k = pass_append us (v ∷ []) ∙ and_both (pass_u test us) (pass_u test (v ∷ [])) h (pass_cons v [] k pass_none)

  pub pass_keep : (at : Float) (us : List Unit) → pass_u test us ≡ true → pass_u test (keep_u at us) ≡ true
  unfolding keep_u
  pass_keep at [] h = h
  pass_keep at (u ∷ us) h = go (pass_keep at us (pass_tail u us h)) (fresh_t at u.time)
    where
      go : pass_u test (keep_u at us) ≡ true → (b : Bool) → pass_u test (cond b (u ∷ keep_u at us) (keep_u at us)) ≡ true
      go ih true = pass_cons u (keep_u at us) (pass_head u us h) ih
      go ih false = ih

  pub pass_without : (j : ℕ) (us : List Unit) → pass_u test us ≡ true → pass_u test (without j us) ≡ true
  unfolding without
  pass_without j us h =
      pass_append (take j us) (drop (suc j) us)
      ∙ and_both (pass_u test (take j us)) (pass_u test (drop (suc j) us)) (pass_take j us h) (pass_drop (suc j) us h)

  pub pass_tab : (f : ℕ → Unit) (n : ℕ) → pass_u test (tab f n) ≡ all (λ j. test (f j)) n
  unfolding tab all pass_u
  pass_tab f zero = refl
  pass_tab f (suc n) =
      pass_append (tab f n) (f n ∷ []) ∙ ap₂ ◌&&◌ (pass_tab f n) (and_true (test (f n)))

  -- ---- the units of every link
  pub passing-at : (st : List (List Unit)) (l : ℕ) → passing test st ≡ true → l < length st → pass_u test (get_or st l []) ≡ true
  unfolding passing
  passing-at [] l h k = absurd (omega arith)
  passing-at (us ∷ st) zero h k = and_left (pass_u test us) _ h
  passing-at (us ∷ st) (suc l) h k = passing-at st l (and_right (pass_u test us) _ h) (omega arith)

  pub passing_of : (st : List (List Unit)) → ((l : ℕ) → l < length st → pass_u test (get_or st l []) ≡ true) → passing test st ≡ true
  unfolding passing
  passing_of [] h = refl
  passing_of (us ∷ st) h = and_both (pass_u test us) (passing test st) (h 0 (omega arith)) (passing_of st (λ l k. h (suc l) (omega arith)))

  pub passing-none : passing test [] ≡ true
  unfolding passing
  passing-none = refl

  pub passing_cons : (us : List Unit) (st : List (List Unit)) → pass_u test us ≡ true → passing test st ≡ true → passing test (us ∷ st) ≡ true
  unfolding passing
  passing_cons us st a b = and_both (pass_u test us) (passing test st) a b

  pub passing-head : (us : List Unit) (st : List (List Unit)) → passing test (us ∷ st) ≡ true → pass_u test us ≡ true
  unfolding passing
  passing-head us st h = and_left (pass_u test us) (passing test st) h

  pub passing-tail : (us : List Unit) (st : List (List Unit)) → passing test (us ∷ st) ≡ true → passing test st ≡ true
  unfolding passing
  passing-tail us st h = and_right (pass_u test us) (passing test st) h

  -- also of a link that is none
  pub passing_get : (st : List (List Unit)) (l : ℕ) → passing test st ≡ true → pass_u test (get_or st l []) ≡ true
  passing_get [] l h = pass_none
  passing_get (us ∷ st) zero h = passing-head us st h
  passing_get (us ∷ st) (suc l) h = passing_get st l (passing-tail us st h)

  pub passing-append : (xs ys : List (List Unit)) → passing test (xs ++ ys) ≡ (passing test xs && passing test ys)
  unfolding passing
  passing-append [] ys = refl
  passing-append (x ∷ xs) ys = ap (λ (b : Bool). pass_u test x && b) (passing-append xs ys) ∙ and_assoc (pass_u test x) (passing test xs) (passing test ys)

  pub passing-tab : (f : ℕ → List Unit) (n : ℕ) → passing test (tab f n) ≡ all (λ l. pass_u test (f l)) n
  unfolding tab all passing
  passing-tab f zero = refl
  passing-tab f (suc n) =
      passing-append (tab f n) (f n ∷ []) ∙ ap₂ ◌&&◌ (passing-tab f n) (and_true (pass_u test (f n)))

  -- ---- what the operations leave passes still
  pub passing-set : (st : List (List Unit)) (l : ℕ) (us : List Unit) → passing test st ≡ true → pass_u test us ≡ true → passing test (set st l us) ≡ true
  passing-set [] l us h k = h
  passing-set (x ∷ st) zero us h k = passing_cons us st k (passing-tail x st h)
  passing-set (x ∷ st) (suc l) us h k = passing_cons x (set st l us) (passing-head x st h) (passing-set st l us (passing-tail x st h) k)

  pub passing-expired : (st : List (List Unit)) (l : ℕ) (at : Float) → passing test st ≡ true → passing test (expired st l at) ≡ true
  unfolding expired
  passing-expired st l at h = passing-set st l (keep_u at (get_or st l [])) h (pass_keep at (get_or st l []) (passing_get st l h))

  pub passing-emptied : (st : List (List Unit)) (l : ℕ) → passing test st ≡ true → passing test (emptied st l) ≡ true
  unfolding emptied
  passing-emptied st l h = passing-set st l [] h pass_none

  pub passing-removed : (st : List (List Unit)) (l j : ℕ) → passing test st ≡ true → passing test (removed st l j) ≡ true
  unfolding removed
  passing-removed st l j h = passing-set st l (without j (get_or st l [])) h (pass_without j (get_or st l []) (passing_get st l h))

  pub passing_unit : (st : List (List Unit)) (l j : ℕ) (v : Unit) → passing test st ≡ true → test v ≡ true → passing test (with_unit st l j v) ≡ true
  passing_unit st l j v h k = passing-set st l (set (get_or st l []) j v) h (pass_set (get_or st l []) j v (passing_get st l h) k)

  pub passing-marked : (st : List (List Unit)) (l j note : ℕ) (at : Float) → passing test st ≡ true → test (marked_u (unit_of st l j) note at) ≡ true → passing test (marked st l j note at) ≡ true
  unfolding marked
  passing-marked st l j note at h k = passing_unit st l j (marked_u (unit_of st l j) note at) h k

  pub passing-spliced : (st : List (List Unit)) (l j part d : ℕ) (s : List ℕ) → passing test st ≡ true → test (part_from part (unit_of st l j) d s) ≡ true → passing test (spliced st l j part d s) ≡ true
  unfolding spliced
  passing-spliced st l j part d s h k = passing_unit st l j (part_from part (unit_of st l j) d s) h k

  pub passing-written : (st : List (List Unit)) (l j part o : ℕ) (s : List ℕ) → passing test st ≡ true → test (part_put part (unit_of st l j) o s) ≡ true → passing test (written st l j part o s) ≡ true
  unfolding written
  passing-written st l j part o s h k = passing_unit st l j (part_put part (unit_of st l j) o s) h k

  pub passing_added : (st : List (List Unit)) (l : ℕ) (key : List ℕ) (note : ℕ) (at : Float) → passing test st ≡ true → test (added_u key note at) ≡ true → passing test (added st l key note at) ≡ true
  unfolding added
  passing_added st l key note at h k =
      passing-set st l (get_or st l [] ++ (added_u key note at ∷ [])) h (pass_last (get_or st l []) (added_u key note at) (passing_get st l h) k)

  pub passing-new : (n : ℕ) → passing test (tab (λ l. []) n) ≡ true
  unfolding tab
  passing-new zero = passing-none
  passing-new (suc n) =
      passing-append (tab (λ l. []) n) ([] ∷ [])
      ∙ and_both (passing test (tab (λ l. []) n)) (passing test ([] ∷ [])) (passing-new n) (passing_cons [] [] pass_none passing-none)

-- ---- the soundness test of a kind
pub sound-is : (kind : ℕ) (test : Unit → Bool) (w : List ℕ) (t : List Float) (list home bs : List ℕ) → sound_of kind test w t list home bs ≡ (sound w t list home bs && (eqb (get_or w 0 0) kind && passing test (pend w t list bs)))
unfolding sound_of
sound-is kind test w t list home bs = refl

-- a kind with no test of its own asks only for its number
pub sound-any : (kind : ℕ) (w : List ℕ) (t : List Float) (list home bs : List ℕ) → sound_of kind any_unit w t list home bs ≡ (sound w t list home bs && eqb (get_or w 0 0) kind)
sound-any kind w t list home bs =
    sound-is kind any_unit w t list home bs
    ∙ ap (λ (b : Bool). sound w t list home bs && b)
    (ap (λ (b : Bool). eqb (get_or w 0 0) kind && b) (any-passing (pend w t list bs)) ∙ and_true (eqb (get_or w 0 0) kind))

-- the kind's own test comes last
pub sound-split : (kind : ℕ) (test : Unit → Bool) (w : List ℕ) (t : List Float) (list home bs : List ℕ) → sound_of kind test w t list home bs ≡ (sound_of kind any_unit w t list home bs && passing test (pend w t list bs))
sound-split kind test w t list home bs =
    sound-is kind test w t list home bs
    ∙ and_assoc (sound w t list home bs) (eqb (get_or w 0 0) kind) (passing test (pend w t list bs))
    ∙ ap (λ (b : Bool). b && passing test (pend w t list bs)) (sym (sound-any kind w t list home bs))

-- unit j of link l of the view
pub unit_view : (w : List ℕ) (t : List Float) (list bs : List ℕ) (l j : ℕ) → l < links w → j < units w l → unit_of (pend w t list bs) l j ≡ unit_at w t (octets w list bs) (start_of w l j) (8 * l + j)
unit_view w t list bs l j hl hj =
    ap (λ (us : List Unit). get_or us j blank) (link-view w t list bs l hl)
    ∙ get_or-tab (λ i. unit_at w t (octets w list bs) (start_of w l i) (8 * l + i)) (units w l) j blank hj

-- the kind's own test of every unit, place by place
pub passing-by : (test : Unit → Bool) (w : List ℕ) (t : List Float) (list bs : List ℕ) (q : ℕ → ℕ → Bool) → ((l j : ℕ) → l < links w → j < units w l → test (unit_of (pend w t list bs) l j) ≡ q l j) → passing test (pend w t list bs) ≡ all (λ l. all (q l) (units w l)) (links w)
unfolding pend
passing-by test w t list bs q h =
    passing-tab test (link_units w t (octets w list bs)) (links w)
    ∙ all_same (λ l. pass_u test (link_units w t (octets w list bs) l)) (λ l. all (q l) (units w l)) (links w) (λ l hl.
    pass_tab test (λ j. unit_at w t (octets w list bs) (start_of w l j) (8 * l + j)) (units w l)
    ∙ all_same (λ j. test (unit_at w t (octets w list bs) (start_of w l j) (8 * l + j))) (q l) (units w l) (λ j hj.
    ap test (sym (unit_view w t list bs l j hl hj)) ∙ h l j hl hj))
