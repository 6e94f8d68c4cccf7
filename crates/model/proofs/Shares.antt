-- Demand 3: shares hold after any calls; a push within the reserve and eight places is never refused room; room is refused
-- exactly where the units left pending would break the rules.
use mathlib.Core.Path.{◌≡◌, refl, sym, ap, ◌∙◌, subst}
use mathlib.Core.List.{List, [], ◌∷◌}
use mathlib.Core.Bool.{Bool, true, false, cond}
use mathlib.Core.Option.{Option}
use Prim.Native.Nat.{ℕ, zero, suc, ◌+◌, ◌≤◌, ◌<◌}
use native.Mathlib.Nat.{le_of_suc-le-suc, not-suc-le-zero}
use native.Mathlib.Omega.{arith}
use lib.ListN.{length, get_or, set, replicate, length-set, length-replicate}
use lib.Dec.{eqb, ltb}
use lib.Ieee.{Float}
use borrow.Author.Tests.{ltb-true, ltb-false, lt-ltb, le-ltb, eqb-true}
use Rattle.clock.specs.Time.{fresh_t}
use Rattle.model.specs.Kind.{First, nothing, passes, piece, Check, fine, address, total, Turn, ends, holds, out_of_turn, Of, Kind}
use Rattle.model.specs.Store.{Settings, Allowed, rest, Pend, Units, Links, keep, lookup, admit, remove, in_use, excess, excesses, room, Call, push, tidy, close, Result, admitted, turned, checked, begun, on_link, step, fresh, run, AllGood, Fine, Every, Sound}
use Rattle.model.proofs.Keys.{uniq-keep, uniq-admit, uniq-remove}

-- a test, each way
pub cond_elim {ℓ} : {A : Type ℓ} (Q : A → Type 0) (b : Bool) {x y : A} → (b ≡ true → Q x) → (b ≡ false → Q y) → Q (cond b x y)
cond_elim Q true f g = f refl
cond_elim Q false f g = g refl

module _ (Z : Kind) where
  -- ---- what expiry and removal leave of a link's units
  pub use_keep : (now : Float) (us : Units Z) → in_use Z (keep Z now us) ≤ in_use Z us
  use_keep now [] = omega arith
  use_keep now (u ∷ us) =
      let ih = use_keep now us in
      cond_elim (λ (l : Units Z). in_use Z l ≤ in_use Z (u ∷ us)) (fresh_t now (Z.time u.it)) (λ _. omega arith) (λ _. omega arith)

  few-keep : (now : Float) (us : Units Z) → length (keep Z now us) ≤ length us
  few-keep now [] = omega arith
  few-keep now (u ∷ us) =
      let ih = few-keep now us in
      cond_elim (λ (l : Units Z). length l ≤ length (u ∷ us)) (fresh_t now (Z.time u.it)) (λ _. omega arith) (λ _. omega arith)

  pub good-keep : (now : Float) (us : Units Z) → AllGood Z us → AllGood Z (keep Z now us)
  good-keep now [] g = tt
  good-keep now (u ∷ us) g =
      let ih = good-keep now us g.1 in
      cond_elim (λ (l : Units Z). AllGood Z l) (fresh_t now (Z.time u.it)) (λ _. (g.0, ih)) (λ _. ih)

  use_remove : (k : Z.K) (us : Units Z) → in_use Z (remove Z k us) ≤ in_use Z us
  use_remove k [] = omega arith
  use_remove k (u ∷ us) =
      let ih = use_remove k us in
      cond_elim (λ (l : Units Z). in_use Z l ≤ in_use Z (u ∷ us)) (Z.same u.key k) (λ _. omega arith) (λ _. omega arith)

  few-remove : (k : Z.K) (us : Units Z) → length (remove Z k us) ≤ length us
  few-remove k [] = omega arith
  few-remove k (u ∷ us) =
      let ih = few-remove k us in
      cond_elim (λ (l : Units Z). length l ≤ length (u ∷ us)) (Z.same u.key k) (λ _. omega arith) (λ _. omega arith)

  good-remove : (k : Z.K) (us : Units Z) → AllGood Z us → AllGood Z (remove Z k us)
  good-remove k [] g = tt
  good-remove k (u ∷ us) g =
      let ih = good-remove k us g.1 in
      cond_elim (λ (l : Units Z). AllGood Z l) (Z.same u.key k) (λ _. ih) (λ _. (g.0, ih))

  good-admit : (v : Pend Z) (us : Units Z) → AllGood Z us → Z.Good v.key v.it → AllGood Z (admit Z v us)
  good-admit v [] g p = (p, tt)
  good-admit v (u ∷ us) g p =
      let ih = good-admit v us g.1 p in
      cond_elim (λ (l : Units Z). AllGood Z l) (Z.same u.key v.key) (λ _. (p, g.1)) (λ _. (g.0, ih))

  -- the unit under a key is good there
  pub good-lookup : (k : Z.K) (us : Units Z) → AllGood Z us → Of (Z.Good k) (lookup Z k us)
  good-lookup k [] g = tt
  good-lookup k (u ∷ us) g =
      let ih = good-lookup k us g.1 in
      cond_elim (λ (o : Option Z.U). Of (Z.Good k) o) (Z.same u.key k) (λ e. subst (λ (j : Z.K). Z.Good j u.it) (Z.same_eq u.key k e) g.0) (λ _. ih)

  -- ---- one link set anew
  pub every_set : (Q : Units Z → Type 0) (st : Links Z) (i : ℕ) (v : Units Z) → Every Z Q st → Q v → Every Z Q (set st i v)
  every_set Q [] i v e p = tt
  every_set Q (l ∷ ls) zero v e p = (p, e.1)
  every_set Q (l ∷ ls) (suc i) v e p = (e.0, every_set Q ls i v e.1 p)

  pub every_get : (Q : Units Z → Type 0) (st : Links Z) (i : ℕ) → Every Z Q st → i < length st → Q (get_or st i [])
  every_get Q [] i e h = absurd (not-suc-le-zero h)
  every_get Q (l ∷ ls) zero e h = e.0
  every_get Q (l ∷ ls) (suc i) e h = every_get Q ls i e.1 (le_of_suc-le-suc h)

  pub excesses-set : (r : ℕ) (st : Links Z) (i : ℕ) (v : Units Z) → i < length st
      → excesses Z r (set st i v) + excess Z r (get_or st i []) ≡ excesses Z r st + excess Z r v
  excesses-set r [] i v h = absurd (not-suc-le-zero h)
  excesses-set r (l ∷ ls) zero v h = omega arith
  excesses-set r (l ∷ ls) (suc i) v h = omega (arith, excesses-set r ls i v (le_of_suc-le-suc h))

  -- a link that uses no more than before
  pub shrunk : (s : Settings) (st : Links Z) (i : ℕ) (v : Units Z) → Sound Z s st → i < s.links → in_use Z v ≤ in_use Z (get_or st i []) → Fine Z s v → Sound Z s (set st i v)
  shrunk s st i v q h l f = record {
    count = length-set st i v ∙ q.count;
    each = every_set (Fine Z s) st i v q.each f;
    common = omega (arith, excesses-set s.reserve st i v (omega (arith, q.count)), q.common);
  }

  pub fine-keep : (s : Settings) (now : Float) (us : Units Z) → Fine Z s us → Fine Z s (keep Z now us)
  fine-keep s now us f = record {
    few = omega (arith, few-keep now us, f.few);
    capped = omega (arith, use_keep now us, f.capped);
    uniq = uniq-keep Z now us f.uniq;
    good = good-keep now us f.good;
  }

  fine-remove : (s : Settings) (k : Z.K) (us : Units Z) → Fine Z s us → Fine Z s (remove Z k us)
  fine-remove s k us f = record {
    few = omega (arith, few-remove k us, f.few);
    capped = omega (arith, use_remove k us, f.capped);
    uniq = uniq-remove Z k us f.uniq;
    good = good-remove k us f.good;
  }

  fine-none : (s : Settings) → Fine Z s []
  fine-none s = record { few = omega arith; capped = omega arith; uniq = tt; good = tt }

  -- ---- room
  -- where room says 2, all three rules hold
  pub record Fits (s : Settings) (st : Links Z) (link : ℕ) (w : Units Z) : Type 0 where
    pub few : length w ≤ 8
    pub capped : in_use Z w ≤ s.cap
    pub common : excesses Z s.reserve (set st link w) ≤ rest s

  two : (b : Bool) (n : ℕ) (x : ℕ) → (x ≡ 2 → ⊥) → cond b x n ≡ 2 → (b ≡ false) × (n ≡ 2)
  two true n x f e = absurd (f e)
  two false n x f e = (refl, e)

  pub room_fits : (s : Settings) (st : Links Z) (link : ℕ) (w : Units Z) → room Z s st link w ≡ 2 → Fits s st link w
  unfolding room
  room_fits s st link w e =
      let a = two (ltb 8 (length w)) _ 11 (λ z. omega (arith, z)) e in
      let b = two (ltb s.cap (in_use Z w)) _ 12 (λ z. omega (arith, z)) a.1 in
      let c = two (ltb (rest s) (excesses Z s.reserve (set st link w))) 2 13 (λ z. omega (arith, z)) b.1 in
      record { few = ltb-false 8 (length w) a.0; capped = ltb-false s.cap (in_use Z w) b.0; common = ltb-false (rest s) (excesses Z s.reserve (set st link w)) c.0 }

  pub fits-room : (s : Settings) (st : Links Z) (link : ℕ) (w : Units Z) → Fits s st link w → room Z s st link w ≡ 2
  unfolding room
  fits-room s st link w f =
      rw (le-ltb 8 (length w) f.few, le-ltb s.cap (in_use Z w) f.capped, le-ltb (rest s) (excesses Z s.reserve (set st link w)) f.common)

  -- ---- one call
  module _ (s : Settings) (st : Links Z) (link : ℕ) (q : Sound Z s st) (h : link < s.links) where
    own : Fine Z s (get_or st link [])
    own = every_get (Fine Z s) st link q.each (omega (arith, q.count))

    -- a link's units after expiry, and fewer
    expired : (now : Float) → Sound Z s (set st link (keep Z now (get_or st link [])))
    expired now = shrunk s st link (keep Z now (get_or st link [])) q h (use_keep now (get_or st link [])) (fine-keep s now (get_or st link []) own)

    turned-sound : (now : Float) (space : ℕ) (p : Z.P) (t : Turn Z.U) → Z.check p ≡ fine
        → Z.turn p now (lookup Z (Z.key p) (keep Z now (get_or st link []))) ≡ t
        → Sound Z s (turned Z s st link (keep Z now (get_or st link [])) space (Z.key p) t).store
    unfolding turned
    turned-sound now space p (ends x) c e =
        cond_elim (λ (r : Result Z). Sound Z s r.store) (ltb space (length x)) (λ _. expired now) (λ _.
        shrunk s st link (remove Z (Z.key p) (keep Z now (get_or st link []))) q h
        (omega (arith, use_remove (Z.key p) (keep Z now (get_or st link [])), use_keep now (get_or st link [])))
        (fine-remove s (Z.key p) (keep Z now (get_or st link [])) (fine-keep s now (get_or st link []) own)))
    turned-sound now space p (holds v) c e =
        let us = keep Z now (get_or st link []) in
        let f = fine-keep s now (get_or st link []) own in
        let w = admit Z (record { key = Z.key p; it = v }) us in
        cond_elim (λ (l : Links Z). Sound Z s l) (eqb (room Z s st link w) 2) (λ d.
        let r = room_fits s st link w (eqb-true (room Z s st link w) 2 d) in
        record {
          count = length-set st link w ∙ q.count;
          each = every_set (Fine Z s) st link w q.each (record {
            few = r.few;
            capped = r.capped;
            uniq = uniq-admit Z (record { key = Z.key p; it = v }) us f.uniq;
            good = good-admit (record { key = Z.key p; it = v }) us f.good (Z.held-good p now (lookup Z (Z.key p) us) v c (good-lookup (Z.key p) us f.good) e);
          });
          common = r.common;
        }) (λ _. expired now)
    turned-sound now space p out_of_turn c e = expired now

    checked-sound : (now : Float) (space : ℕ) (p : Z.P) (k : Check) → Z.check p ≡ k
        → Sound Z s (checked Z s st link (keep Z now (get_or st link [])) now space p k).store
    unfolding checked
    checked-sound now space p fine e = turned-sound now space p _ e refl
    checked-sound now space p address e = expired now
    checked-sound now space p total e = expired now

    begun-sound : (now : Float) (x : List ℕ) (space : ℕ) (f : First Z.P) → Sound Z s (begun Z s st link now x space f).store
    unfolding begun
    begun-sound now x space nothing = q
    begun-sound now x space passes = cond_elim (λ (r : Result Z). Sound Z s r.store) (ltb space (length x)) (λ _. q) (λ _. q)
    begun-sound now x space (piece p) = checked-sound now space p (Z.check p) refl

  on-link : (s : Settings) (st : Links Z) (link : ℕ) (r : Result Z) → Sound Z s st → (link < s.links → Sound Z s r.store) → Sound Z s (on_link Z s st link r).store
  on-link s st link r q f = cond_elim (λ (r : Result Z). Sound Z s r.store) (ltb link s.links) (λ e. f (ltb-true link s.links e)) (λ _. q)

  pub step-sound : (s : Settings) (st : Links Z) (c : Call Z) → Sound Z s st → Sound Z s (step Z s st c).store
  unfolding step
  step-sound s st (push link now x space) q =
      cond_elim (λ (r : Result Z). Sound Z s r.store) (ltb 65535 (length x)) (λ _. q)
      (λ _. on-link s st link _ q (λ h. begun-sound s st link q h now x space (Z.first x)))
  step-sound s st (tidy link now) q = on-link s st link _ q (λ h. expired s st link q h now)
  step-sound s st (close link) q = on-link s st link _ q (λ h. shrunk s st link [] q h (omega arith) (fine-none s))

  -- ---- any calls
  pub run_sound : (s : Settings) (st : Links Z) (cs : List (Call Z)) → Sound Z s st → Sound Z s (run Z s st cs)
  run_sound s st [] q = q
  run_sound s st (c ∷ cs) q = run_sound s (step Z s st c).store cs (step-sound s st c q)

  pub fresh-sound : (s : Settings) → Sound Z s (fresh Z s)
  fresh-sound s = record { count = length-replicate s.links []; each = all s.links; common = omega (arith, sum s.links) }
    where
      all : (n : ℕ) → Every Z (Fine Z s) (replicate n [])
      all zero = tt
      all (suc n) = (fine-none s, all n)

      sum : (n : ℕ) → excesses Z s.reserve (replicate n []) ≡ 0
      sum zero = refl
      sum (suc n) = omega (arith, sum n)

  pub reached : (s : Settings) (cs : List (Call Z)) → Sound Z s (run Z s (fresh Z s) cs)
  reached s cs = run_sound s (fresh Z s) cs (fresh-sound s)

  -- no link holds more than its cap
  pub capped : (s : Settings) (cs : List (Call Z)) (l : ℕ) → l < s.links → in_use Z (get_or (run Z s (fresh Z s) cs) l []) ≤ s.cap
  capped s cs l h = (every_get (Fine Z s) (run Z s (fresh Z s) cs) l (reached s cs).each (omega (arith, (reached s cs).count))).capped

  -- ---- room
  -- a push that passes every earlier check, and leaves the unit v under its key
  pub record Holds (s : Settings) (st : Links Z) (link : ℕ) (now : Float) (x : List ℕ) : Type 0 where
    pub short : length x ≤ 65535
    pub there : link < s.links
    pub p : Z.P
    pub read : Z.first x ≡ piece p
    pub passed : Z.check p ≡ fine
    pub v : Z.U
    pub turns : Z.turn p now (lookup Z (Z.key p) (keep Z now (get_or st link []))) ≡ holds v

  -- the link's units with it
  abbrev pub left : (s : Settings) (st : Links Z) (link : ℕ) (now : Float) (x : List ℕ) → Holds s st link now x → Units Z
  left s st link now x g = admit Z (record { key = Z.key g.p; it = g.v }) (keep Z now (get_or st link []))

  -- it answers what room says of them, and 2 exactly where they fit
  pub held-answer : (s : Settings) (st : Links Z) (link : ℕ) (now : Float) (x : List ℕ) (space : ℕ) (g : Holds s st link now x)
      → step Z s st (push link now x space) ≡ admitted Z (room Z s st link (left s st link now x g)) (set st link (keep Z now (get_or st link []))) (set st link (left s st link now x g))
  unfolding step begun checked turned
  held-answer s st link now x space g =
      rw (le-ltb 65535 (length x) g.short, lt-ltb link s.links g.there, g.read, g.passed, g.turns)

  -- room is refused exactly where the units left pending would break the eight places, the cap or the common rest
  pub refused_exactly : (s : Settings) (st : Links Z) (link : ℕ) (now : Float) (x : List ℕ) (space : ℕ) (g : Holds s st link now x)
      → ((step Z s st (push link now x space)).answer ≡ 2 → Fits s st link (left s st link now x g))
      × (Fits s st link (left s st link now x g) → (step Z s st (push link now x space)).answer ≡ 2)
  refused_exactly s st link now x space g =
      let e = held-answer s st link now x space g in
      let a : (step Z s st (push link now x space)).answer ≡ room Z s st link (left s st link now x g) = ap (λ (r : Result Z). r.answer) e in
      (λ z. room_fits s st link (left s st link now x g) (sym a ∙ z), λ f. a ∙ fits-room s st link (left s st link now x g) f)

  -- within the reserve and eight places: never, however the others behaved
  pub within-fits : (s : Settings) (st : Links Z) (link : ℕ) (w : Units Z) → Allowed s → Sound Z s st → link < s.links → length w ≤ 8 → in_use Z w ≤ s.reserve → Fits s st link w
  within-fits s st link w a q h f u = record {
    few = f;
    capped = omega (arith, a.low);
    common = omega (arith, excesses-set s.reserve st link w (omega (arith, q.count)), q.common);
  }

  pub never_refused : (s : Settings) (cs : List (Call Z)) (link : ℕ) (now : Float) (x : List ℕ) (space : ℕ) → Allowed s
      → (g : Holds s (run Z s (fresh Z s) cs) link now x)
      → length (left s (run Z s (fresh Z s) cs) link now x g) ≤ 8 → in_use Z (left s (run Z s (fresh Z s) cs) link now x g) ≤ s.reserve
      → (step Z s (run Z s (fresh Z s) cs) (push link now x space)).answer ≡ 2
  never_refused s cs link now x space a g f u =
      (refused_exactly s (run Z s (fresh Z s) cs) link now x space g).1
      (within-fits s (run Z s (fresh Z s) cs) link (left s (run Z s (fresh Z s) cs) link now x g) a (reached s cs) g.there f u)
