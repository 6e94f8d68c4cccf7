-- Demand 2's frame: what a link gives is what a Rust reassembler of its own gives, fed that link's pushes, for any kind whose
-- one step the Rust's step is simulated by.
use mathlib.Core.Path.{◌≡◌, refl, sym, ap, ap₂, ◌∙◌, subst}
use mathlib.Core.Logic.{◌⊎◌, inl, inr}
use mathlib.Core.List.{List, [], ◌∷◌}
use mathlib.Core.Bool.{Bool, true, false, cond}
use mathlib.Core.Option.{Option, none, some}
use Prim.Native.Nat.{ℕ, ◌≤◌, ◌<◌}
use native.Mathlib.Omega.{arith}
use lib.ListN.{length, get_or, get_or-replicate}
use lib.Dec.{eqb, ltb}
use lib.Ieee.{Float}
use borrow.Author.Tests.{ltb-false}
use Rattle.clock.specs.Time.{fresh_t}
use Rattle.model.specs.Kind.{First, nothing, passes, piece, Check, fine, address, total, Turn, ends, holds, out_of_turn, Kind}
use Rattle.model.specs.Store.{Settings, Units, keep, lookup, admit, remove, in_use, Call, push, tidy, close, fresh, Uniq}
use Rattle.model.specs.Alone.{Own, own, own_room, own_turned, own_checked, own_begun, own_step, Told, told, Gave, gave, alone_gave}
use Rattle.model.specs.Rust.{stays, Oracle, Map, retain, rust_out, rust_map, rust_gave, outcome, outcomes, Opt, TurnAlike, CheckAlike, FirstAlike, Simulates, pushed_by, pushes, IsPush, Plain}
use Rattle.model.proofs.Keys.{either, lookup-keep, uniq-keep, lookup-admit, uniq-admit, lookup-remove, uniq-remove}
use Rattle.model.proofs.Shares.{cond_elim, fresh-sound}
use Rattle.model.proofs.Alone.{alone}

-- an answer that the comparison takes
abbrev Taken : ℕ → Type 0
Taken a = (a < 3) ⊎ ((6 ≤ a) × (a < 10))

not_taken : (a : ℕ) → (a ≡ 3) ⊎ ((10 ≤ a) × (a ≤ 16)) → Taken a → ⊥
not_taken a (inl e) (inl t) = omega arith
not_taken a (inl e) (inr t) = omega (arith, t.0)
not_taken a (inr e) (inl t) = omega (arith, e.0)
not_taken a (inr e) (inr t) = omega (arith, e.0, t.1)

module _ (Z : Kind) (O : Oracle Z) (S : Simulates Z O) where
  -- a link's units against the map
  abbrev pub Agree : Units Z → Map Z O → Type 0
  Agree us m = (k : Z.K) → Opt S.R (lookup Z k us) (m k)

  opt_stays : (now : Float) (o : Option Z.U) (q : Option O.W) → Opt S.R o q → Opt S.R (stays Z.time now o) (stays O.last now q)
  opt_stays now none none r = tt
  opt_stays now none (some w) r = absurd r
  opt_stays now (some v) none r = absurd r
  opt_stays now (some v) (some w) r = rw (S.times v w r) (go (fresh_t now (O.last w)))
    where
      go : (b : Bool) → Opt S.R (cond b (some v) none) (cond b (some w) none)
      go true = r
      go false = tt

  agree_keep : (now : Float) (us : Units Z) (m : Map Z O) → Uniq Z us → Agree us m → Agree (keep Z now us) (retain Z O now m)
  agree_keep now us m u a k = rw (lookup-keep Z now k us u) (opt_stays now (lookup Z k us) (m k) (a k))

  -- what a push gave and left, against the Rust's
  abbrev Goes : Own Z → Option (List ℕ) → Map Z O → Type 0
  Goes o x m = Taken o.answer → (outcome Z (record { answer = o.answer; out = o.out }) ≡ x) × Agree o.units m

  -- the units with the one under k changed to o, against the map with its entry changed
  changed : (k : Z.K) (us : Units Z) (q : Map Z O) → Agree us q → (v : Units Z) (o : Option Z.U) (x : Option O.W)
      → ((j : Z.K) → lookup Z j v ≡ cond (Z.same k j) o (lookup Z j us)) → Opt S.R o x → Agree v (λ j. cond (Z.same k j) x (q j))
  changed k us q a v o x e r j = rw (e j) (go (Z.same k j))
    where
      go : (b : Bool) → Opt S.R (cond b o (lookup Z j us)) (cond b x (q j))
      go true = r
      go false = a j

  unchanged : (k : Z.K) (us : Units Z) (j : Z.K) → lookup Z j us ≡ cond (Z.same k j) (lookup Z k us) (lookup Z j us)
  unchanged k us j = elim (either (Z.same k j)) [ inl e ↦ rw (e, Z.same_eq k j e) | inr e ↦ rw e ]

  -- ---- one push, after expiry
  module _ (s : Settings) (t : Bool) (us : Units Z) (q : Map Z O) (a : Agree us q) where
    turned_goes : (space : ℕ) (k : Z.K) (u : Turn Z.U) (x : Option (List ℕ) × Option O.W) → TurnAlike S.R (lookup Z k us) u x
        → Goes (own_turned Z s t us space k u) x.0 (λ j. cond (Z.same k j) x.1 (q j))
    unfolding own_turned own_room
    turned_goes space k (ends y) x r =
        cond_elim (λ (o : Own Z). Goes o x.0 (λ j. cond (Z.same k j) x.1 (q j))) (ltb space (length y))
        (λ _ z. absurd (not_taken 10 (inr (omega arith)) z))
        (λ _ z. (sym r.0, changed k us q a (remove Z k us) none x.1 (λ j. lookup-remove Z k j us) (rw r.1 tt)))
    turned_goes space k (holds v) x r = held (own_room Z s t w) room-is
      where
        w : Units Z
        w = admit Z (record { key = k; it = v }) us

        three : (b c d : Bool) → (◌≡◌ {A = ℕ} (cond b 11 (cond c 12 (cond d 13 2))) 2) ⊎ ((10 ≤ cond b 11 (cond c 12 (cond d 13 2))) × (cond b 11 (cond c 12 (cond d 13 2)) ≤ 16))
        three true c d = inr (omega arith)
        three false true d = inr (omega arith)
        three false false true = inr (omega arith)
        three false false false = inl refl

        room-is : (own_room Z s t w ≡ 2) ⊎ ((10 ≤ own_room Z s t w) × (own_room Z s t w ≤ 16))
        room-is = three (ltb 8 (length w)) (ltb s.cap (in_use Z w)) t

        held : (n : ℕ) → (n ≡ 2) ⊎ ((10 ≤ n) × (n ≤ 16)) → Goes (own Z n (cond (eqb n 2) w us)) x.0 (λ j. cond (Z.same k j) x.1 (q j))
        held n (inl e) z = rw e (sym r.0, changed k us q a w (some v) x.1 (λ j. lookup-admit Z (record { key = k; it = v }) j us) r.1)
        held n (inr e) z = absurd (not_taken n (inr e) z)
    turned_goes space k out_of_turn x r = λ z. (sym r.0, changed k us q a us (lookup Z k us) x.1 (unchanged k us) r.1)

    checked_goes : (now : Float) (space : ℕ) (p : Z.P) (c : Check) (x : Option (List ℕ) × Option O.W)
        → CheckAlike S.R (lookup Z (Z.key p) us) c (Z.turn p now (lookup Z (Z.key p) us)) x
        → Goes (own_checked Z s t us now space p c) x.0 (λ j. cond (Z.same (Z.key p) j) x.1 (q j))
    unfolding own_checked
    checked_goes now space p fine x r = turned_goes space (Z.key p) _ x r
    checked_goes now space p address x r = λ z. (sym r.0, changed (Z.key p) us q a us (lookup Z (Z.key p) us) x.1 (unchanged (Z.key p) us) r.1)
    checked_goes now space p total x r = λ z. (sym r.0, changed (Z.key p) us q a us (lookup Z (Z.key p) us) x.1 (unchanged (Z.key p) us) r.1)

  -- ---- one push
  begun_goes : (s : Settings) (t : Bool) (us : Units Z) (m : Map Z O) → Uniq Z us → Agree us m → (now : Float) (x : List ℕ) (space : ℕ)
      (f : First Z.P) (g : First O.Q) → FirstAlike Z O S.R f g → Goes (own_begun Z s t us now x space f) (rust_out Z O m now x g) (rust_map Z O m now g)
  unfolding own_begun
  begun_goes s t us m u a now x space nothing nothing r = λ z. (refl, a)
  begun_goes s t us m u a now x space nothing passes r = absurd r
  begun_goes s t us m u a now x space nothing (piece q) r = absurd r
  begun_goes s t us m u a now x space passes nothing r = absurd r
  begun_goes s t us m u a now x space passes passes r =
      cond_elim (λ (o : Own Z). Goes o (some x) m) (ltb space (length x)) (λ _ z. absurd (not_taken 10 (inr (omega arith)) z)) (λ _ z. (refl, a))
  begun_goes s t us m u a now x space passes (piece q) r = absurd r
  begun_goes s t us m u a now x space (piece p) nothing r = absurd r
  begun_goes s t us m u a now x space (piece p) passes r = absurd r
  begun_goes s t us m u a now x space (piece p) (piece q) r =
      let b = agree_keep now us m u a in
      subst (λ (k : Z.K). Goes (own_checked Z s t (keep Z now us) now space p (Z.check p)) (O.turn q now (retain Z O now m k)).0 (λ j. cond (Z.same k j) (O.turn q now (retain Z O now m k)).1 (retain Z O now m j))) r.0
      (checked_goes s t (keep Z now us) (retain Z O now m) b now space p (Z.check p) _ (r.1 now (lookup Z (Z.key p) (keep Z now us)) (retain Z O now m (Z.key p)) (b (Z.key p))))

  push_goes : (s : Settings) (t : Bool) (us : Units Z) (m : Map Z O) → Uniq Z us → Agree us m → (link : ℕ) (now : Float) (x : List ℕ) (space : ℕ)
      → Goes (own_step Z s t us (push link now x space)) (rust_out Z O m now x (O.first x)) (rust_map Z O m now (O.first x))
  unfolding own_step
  push_goes s t us m u a link now x space =
      cond_elim (λ (o : Own Z). Goes o (rust_out Z O m now x (O.first x)) (rust_map Z O m now (O.first x))) (ltb 65535 (length x))
      (λ _ z. absurd (not_taken 3 (inl refl) z))
      (λ e. begun_goes s t us m u a now x space (Z.first x) (O.first x) (S.firsts x (ltb-false 65535 (length x) e)))

  -- no key twice is kept
  uniq-own : (s : Settings) (t : Bool) (us : Units Z) (c : Call Z) → Uniq Z us → Uniq Z (own_step Z s t us c).units
  unfolding own_step own_begun own_checked own_turned
  uniq-own s t us (push link now x space) u = cond_elim Fine' (ltb 65535 (length x)) (λ _. u) (λ _. first (Z.first x))
    where
      Fine' : Own Z → Type 0
      Fine' o = Uniq Z o.units

      vs : Units Z
      vs = keep Z now us

      v : Uniq Z vs
      v = uniq-keep Z now us u

      turn : (k : Z.K) (y : Turn Z.U) → Fine' (own_turned Z s t vs space k y)
      turn k (ends y) = cond_elim Fine' (ltb space (length y)) (λ _. v) (λ _. uniq-remove Z k vs v)
      turn k (holds y) = cond_elim (Uniq Z) (eqb (own_room Z s t (admit Z (record { key = k; it = y }) vs)) 2) (λ _. uniq-admit Z (record { key = k; it = y }) vs v) (λ _. v)
      turn k out_of_turn = v

      check : (p : Z.P) (y : Check) → Fine' (own_checked Z s t vs now space p y)
      check p fine = turn (Z.key p) (Z.turn p now (lookup Z (Z.key p) vs))
      check p address = v
      check p total = v

      first : (f : First Z.P) → Fine' (own_begun Z s t us now x space f)
      first nothing = u
      first passes = cond_elim Fine' (ltb space (length x)) (λ _. u) (λ _. u)
      first (piece p) = check p (Z.check p)
  uniq-own s t us (tidy link now) u = uniq-keep Z now us u
  uniq-own s t us (close link) u = tt

  -- ---- any pushes of a link alone
  one_more : (s : Settings) (us : Units Z) (m : Map Z O) (t : Bool) (c : Call Z) (ts : List (Told Z)) → Uniq Z us → Agree us m
      → IsPush Z c → Taken (own_step Z s t us c).answer
      → ((m' : Map Z O) → Agree (own_step Z s t us c).units m' → outcomes Z (alone_gave Z s (own_step Z s t us c).units ts) ≡ rust_gave Z O m' (pushes Z O ts))
      → outcomes Z (alone_gave Z s us (record { call = c; thirteen = t } ∷ ts)) ≡ rust_gave Z O m (pushed_by Z O c (pushes Z O ts))
  one_more s us m t (push link now x space) ts u a i z k =
      let g = push_goes s t us m u a link now x space z in
      ap₂ (λ (y : Option (List ℕ)) (ys : List (Option (List ℕ))). y ∷ ys) g.0 (k _ g.1)
  one_more s us m t (tidy link now) ts u a i z k = absurd i
  one_more s us m t (close link) ts u a i z k = absurd i

  joins-alone : (s : Settings) (us : Units Z) (m : Map Z O) (ts : List (Told Z)) → Uniq Z us → Agree us m → Plain Z ts (alone_gave Z s us ts)
      → outcomes Z (alone_gave Z s us ts) ≡ rust_gave Z O m (pushes Z O ts)
  joins-alone s us m [] u a z = refl
  joins-alone s us m (c ∷ ts) u a z =
      one_more s us m c.thirteen c.call ts u a z.0 z.1
      (λ m' b. joins-alone s (own_step Z s c.thirteen us c.call).units m' ts (uniq-own s c.thirteen us c.call u) b z.2)

  -- ---- any calls, from a fresh store, against a new reassembler
  pub joins : (s : Settings) (l : ℕ) → l < s.links → (cs : List (Call Z)) → Plain Z (told Z s l (fresh Z s) cs) (gave Z s l (fresh Z s) cs)
      → outcomes Z (gave Z s l (fresh Z s) cs) ≡ rust_gave Z O (λ k. none) (pushes Z O (told Z s l (fresh Z s) cs))
  joins s l h cs z =
      let e = (alone Z s l h (fresh Z s) cs (fresh-sound Z s)).gave-alone in
      let n : get_or (fresh Z s) l [] ≡ [] = get_or-replicate s.links l [] [] h in
      let f : gave Z s l (fresh Z s) cs ≡ alone_gave Z s [] (told Z s l (fresh Z s) cs) = e ∙ ap (λ (us : Units Z). alone_gave Z s us (told Z s l (fresh Z s) cs)) n in
      ap (outcomes Z) f ∙ joins-alone s [] (λ k. none) (told Z s l (fresh Z s) cs) tt (λ k. tt) (subst (λ (g : List (Gave Z)). Plain Z (told Z s l (fresh Z s) cs) g) f z)
