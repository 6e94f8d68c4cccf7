-- Other links change a link's answers only through refusals of common room.
use mathlib.Core.Path.{◌≡◌, refl, sym, ap, ap₂, ◌∙◌, subst}
use mathlib.Core.Logic.{inl, inr}
use mathlib.Core.List.{List, [], ◌∷◌}
use mathlib.Core.Bool.{Bool, true, false, cond}
use Prim.Native.Nat.{ℕ, ◌<◌}
use native.Mathlib.Omega.{arith}
use lib.ListN.{length, get_or, set}
use lib.Seq.{get_or-set_same, get_or-set_other}
use lib.Dec.{eqb, ltb}
use lib.Ieee.{Float}
use borrow.Author.Tests.{lt-ltb, eqb-true, eqb-false}
use Rattle.model.specs.Kind.{First, nothing, passes, piece, Check, fine, address, total, Turn, ends, holds, out_of_turn, Kind}
use Rattle.model.specs.Store.{Settings, rest, Units, Links, keep, admit, remove, in_use, excesses, room, Call, push, tidy, close, Result, answered, admitted, turned, checked, begun, on_link, step, fresh, run, Sound}
use Rattle.model.specs.Alone.{Own, own, own_room, own_turned, own_checked, own_begun, own_step, link_of, told, Gave, gave, alone_gave, alone_left}
use Rattle.model.proofs.Keys.{either}
use Rattle.model.proofs.Shares.{cond_elim, step-sound, fresh-sound}

module _ (Z : Kind) where
  -- ---- another link's units stay
  module _ (st : Links Z) (link l : ℕ) (e : eqb link l ≡ false) where
    abbrev Stays : Result Z → Type 0
    Stays r = get_or r.store l [] ≡ get_or st l []

    there : (v : Units Z) → get_or (set st link v) l [] ≡ get_or st l []
    there v = get_or-set_other st link l v [] (λ (p : l ≡ link). eqb-false link l e (sym p))

    turned-other : (s : Settings) (us : Units Z) (space : ℕ) (k : Z.K) (t : Turn Z.U) → Stays (turned Z s st link us space k t)
    unfolding turned
    turned-other s us space k (ends x) = cond_elim Stays (ltb space (length x)) (λ _. there us) (λ _. there (remove Z k us))
    turned-other s us space k (holds v) =
        let w = admit Z (record { key = k; it = v }) us in
        cond_elim (λ (z : Links Z). get_or z l [] ≡ get_or st l []) (eqb (room Z s st link w) 2) (λ _. there w) (λ _. there us)
    turned-other s us space k out_of_turn = there us

    checked-other : (s : Settings) (us : Units Z) (now : Float) (space : ℕ) (p : Z.P) (c : Check) → Stays (checked Z s st link us now space p c)
    unfolding checked
    checked-other s us now space p fine = turned-other s us space _ _
    checked-other s us now space p address = there us
    checked-other s us now space p total = there us

    begun-other : (s : Settings) (now : Float) (x : List ℕ) (space : ℕ) (f : First Z.P) → Stays (begun Z s st link now x space f)
    unfolding begun
    begun-other s now x space nothing = refl
    begun-other s now x space passes = cond_elim Stays (ltb space (length x)) (λ _. refl) (λ _. refl)
    begun-other s now x space (piece p) = checked-other s _ now space p _

    on-other : (s : Settings) (r : Result Z) → Stays r → Stays (on_link Z s st link r)
    on-other s r h = cond_elim Stays (ltb link s.links) (λ _. h) (λ _. refl)

  pub step_other : (s : Settings) (st : Links Z) (c : Call Z) (l : ℕ) → eqb (link_of Z c) l ≡ false → get_or (step Z s st c).store l [] ≡ get_or st l []
  unfolding step
  step_other s st (push link now x space) l e =
      cond_elim (Stays st link l e) (ltb 65535 (length x)) (λ _. refl) (λ _. on-other st link l e s _ (begun-other st link l e s now x space (Z.first x)))
  step_other s st (tidy link now) l e = on-other st link l e s _ (there st link l e _)
  step_other s st (close link) l e = on-other st link l e s _ (there st link l e [])

  -- ---- the link's own
  -- what a call gave and left at its link
  pub record Same (l : ℕ) (r : Result Z) (o : Own Z) : Type 0 where
    pub answer : r.answer ≡ o.answer
    pub out : r.out ≡ o.out
    pub units : get_or r.store l [] ≡ o.units

  same_elim : (l : ℕ) (b : Bool) (x y : Result Z) (u v : Own Z) → Same l x u → Same l y v → Same l (cond b x y) (cond b u v)
  same_elim l true x y u v h k = h
  same_elim l false x y u v h k = k

  room-own : (a b c : Bool) → ◌≡◌ {A = ℕ} (cond a 11 (cond b 12 (cond (eqb (cond a 11 (cond b 12 (cond c 13 2))) 13) 13 2))) (cond a 11 (cond b 12 (cond c 13 2)))
  room-own true b c = refl
  room-own false true c = refl
  room-own false false true = refl
  room-own false false false = refl

  module _ (s : Settings) (st : Links Z) (l : ℕ) (h : l < length st) where
    here : (v : Units Z) → get_or (set st l v) l [] ≡ v
    here v = get_or-set_same st l v [] h

    says : (a : ℕ) (v : Units Z) → Same l (answered Z a (set st l v)) (own Z a v)
    says a v = record { answer = refl; out = refl; units = here v }

    holds-own : (a : ℕ) (us w : Units Z) → Same l (admitted Z a (set st l us) (set st l w)) (own Z a (cond (eqb a 2) w us))
    holds-own a us w = record { answer = refl; out = refl; units = go (eqb a 2) }
      where
        go : (b : Bool) → get_or (cond b (set st l w) (set st l us)) l [] ≡ cond b w us
        go true = here w
        go false = here us

    turned-own : (us : Units Z) (space : ℕ) (k : Z.K) (t : Turn Z.U)
        → Same l (turned Z s st l us space k t) (own_turned Z s (eqb (turned Z s st l us space k t).answer 13) us space k t)
    unfolding turned own_turned own_room room
    turned-own us space k (ends x) =
        same_elim l (ltb space (length x)) _ _ _ _ (says 10 us) (record { answer = refl; out = refl; units = here (remove Z k us) })
    turned-own us space k (holds v) =
        let w = admit Z (record { key = k; it = v }) us in
        let e = room-own (ltb 8 (length w)) (ltb s.cap (in_use Z w)) (ltb (rest s) (excesses Z s.reserve (set st l w))) in
        subst (λ (a : ℕ). Same l (admitted Z (room Z s st l w) (set st l us) (set st l w)) (own Z a (cond (eqb a 2) w us))) (sym e)
        (holds-own (room Z s st l w) us w)
    turned-own us space k out_of_turn = says 9 us

    checked-own : (us : Units Z) (now : Float) (space : ℕ) (p : Z.P) (c : Check)
        → Same l (checked Z s st l us now space p c) (own_checked Z s (eqb (checked Z s st l us now space p c).answer 13) us now space p c)
    unfolding checked own_checked
    checked-own us now space p fine = turned-own us space _ _
    checked-own us now space p address = says 7 us
    checked-own us now space p total = says 8 us

    begun-own : (now : Float) (x : List ℕ) (space : ℕ) (f : First Z.P)
        → Same l (begun Z s st l now x space f) (own_begun Z s (eqb (begun Z s st l now x space f).answer 13) (get_or st l []) now x space f)
    unfolding begun own_begun
    begun-own now x space nothing = record { answer = refl; out = refl; units = refl }
    begun-own now x space passes =
        same_elim l (ltb space (length x)) _ _ _ _ (record { answer = refl; out = refl; units = refl }) (record { answer = refl; out = refl; units = refl })
    begun-own now x space (piece p) = checked-own _ now space p _

  step-own : (s : Settings) (st : Links Z) (c : Call Z) → length st ≡ s.links → link_of Z c < s.links
      → Same (link_of Z c) (step Z s st c) (own_step Z s (eqb (step Z s st c).answer 13) (get_or st (link_of Z c) []) c)
  unfolding step own_step
  step-own s st (push link now x space) n h = elim (either (ltb 65535 (length x))) [
    | inl e ↦ rw e (record { answer = refl; out = refl; units = refl })
    | inr e ↦ rw (e, lt-ltb link s.links h) (begun-own s st link (omega arith) now x space (Z.first x))
  ]
  step-own s st (tidy link now) n h = rw (lt-ltb link s.links h) (says s st link (omega arith) 16 (keep Z now (get_or st link [])))
  step-own s st (close link) n h = rw (lt-ltb link s.links h) (says s st link (omega arith) 16 [])

  -- ---- any calls
  -- what a link's calls gave and left is what the link alone gives and leaves
  alone-gave : (s : Settings) (l : ℕ) → l < s.links → (st : Links Z) (cs : List (Call Z)) → Sound Z s st
      → gave Z s l st cs ≡ alone_gave Z s (get_or st l []) (told Z s l st cs)
  alone-gave s l h st [] q = refl
  alone-gave s l h st (c ∷ cs) q = elim (either (eqb (link_of Z c) l)) [
    | inl e ↦
        let i : link_of Z c ≡ l = eqb-true (link_of Z c) l e in
        let o = subst (λ (j : ℕ). Same j (step Z s st c) (own_step Z s (eqb (step Z s st c).answer 13) (get_or st j []) c)) i (step-own s st c q.count (omega arith)) in
        let ih = alone-gave s l h (step Z s st c).store cs (step-sound Z s st c q) in
        rw e
        (ap₂ (λ (g : Gave Z) (gs : List (Gave Z)). g ∷ gs) (ap₂ (λ (a : ℕ) (x : List ℕ). record { answer = a; out = x }) o.answer o.out)
        (ih ∙ ap (λ (us : Units Z). alone_gave Z s us (told Z s l (step Z s st c).store cs)) o.units))
    | inr e ↦
        let ih = alone-gave s l h (step Z s st c).store cs (step-sound Z s st c q) in
        rw e (ih ∙ ap (λ (us : Units Z). alone_gave Z s us (told Z s l (step Z s st c).store cs)) (step_other s st c l e))
  ]

  alone-left : (s : Settings) (l : ℕ) → l < s.links → (st : Links Z) (cs : List (Call Z)) → Sound Z s st
      → get_or (run Z s st cs) l [] ≡ alone_left Z s (get_or st l []) (told Z s l st cs)
  alone-left s l h st [] q = refl
  alone-left s l h st (c ∷ cs) q = elim (either (eqb (link_of Z c) l)) [
    | inl e ↦
        let i : link_of Z c ≡ l = eqb-true (link_of Z c) l e in
        let o = subst (λ (j : ℕ). Same j (step Z s st c) (own_step Z s (eqb (step Z s st c).answer 13) (get_or st j []) c)) i (step-own s st c q.count (omega arith)) in
        let ih = alone-left s l h (step Z s st c).store cs (step-sound Z s st c q) in
        rw e (ih ∙ ap (λ (us : Units Z). alone_left Z s us (told Z s l (step Z s st c).store cs)) o.units)
    | inr e ↦
        let ih = alone-left s l h (step Z s st c).store cs (step-sound Z s st c q) in
        rw e (ih ∙ ap (λ (us : Units Z). alone_left Z s us (told Z s l (step Z s st c).store cs)) (step_other s st c l e))
  ]

  pub record Alike (s : Settings) (l : ℕ) (st : Links Z) (cs : List (Call Z)) : Type 0 where
    pub gave-alone : gave Z s l st cs ≡ alone_gave Z s (get_or st l []) (told Z s l st cs)
    pub left_alone : get_or (run Z s st cs) l [] ≡ alone_left Z s (get_or st l []) (told Z s l st cs)

  pub alone : (s : Settings) (l : ℕ) → l < s.links → (st : Links Z) (cs : List (Call Z)) → Sound Z s st → Alike s l st cs
  alone s l h st cs q = record { gave-alone = alone-gave s l h st cs q; left_alone = alone-left s l h st cs q }

  -- two runs from a fresh store that agree on this link's calls, and on which of them were refused common room, agree on
  -- its answers, octets and units
  pub isolated : (s : Settings) (l : ℕ) → l < s.links → (cs ds : List (Call Z)) → told Z s l (fresh Z s) cs ≡ told Z s l (fresh Z s) ds
      → (gave Z s l (fresh Z s) cs ≡ gave Z s l (fresh Z s) ds) × (get_or (run Z s (fresh Z s) cs) l [] ≡ get_or (run Z s (fresh Z s) ds) l [])
  isolated s l h cs ds e =
      let a = alone s l h (fresh Z s) cs (fresh-sound Z s) in
      let b = alone s l h (fresh Z s) ds (fresh-sound Z s) in
      let us = get_or (fresh Z s) l [] in
      (a.gave-alone ∙ ap (alone_gave Z s (get_or (fresh Z s) l [])) e ∙ sym b.gave-alone, a.left_alone ∙ ap (alone_left Z s (get_or (fresh Z s) l [])) e ∙ sym b.left_alone)
