-- Demand 1: a refusal gives no octets, and in the store removes at most the calling link's expired units.
use mathlib.Core.Path.{◌≡◌, refl, ap, ◌∙◌}
use mathlib.Core.Logic.{◌⊎◌, inl, inr}
use mathlib.Core.List.{List, []}
use mathlib.Core.Bool.{Bool, true, false, cond}
use Prim.Native.Nat.{ℕ}
use lib.ListN.{length, get_or, set}
use lib.Dec.{eqb, ltb}
use lib.Ieee.{Float}
use borrow.Author.Tests.{eqb-true}
use Rattle.model.specs.Kind.{First, nothing, passes, piece, Check, fine, address, total, Turn, ends, holds, out_of_turn, Kind}
use Rattle.model.specs.Store.{Settings, Units, Links, keep, lookup, admit, room, push, Result, answered, turned, checked, begun, step}
use Rattle.model.proofs.Shares.{cond_elim}

module _ (Z : Kind) (s : Settings) (st : Links Z) (link : ℕ) (now : Float) where
  -- the units of the calling link after expiry, and nothing else changed
  abbrev pub expired : Links Z
  expired = set st link (keep Z now (get_or st link []))

  -- no refusal
  abbrev pub Given : ℕ → Type 0
  Given a = (a ≡ 0) ⊎ ((a ≡ 1) ⊎ (a ≡ 2))

  abbrev pub Leaves : Result Z → Type 0
  Leaves r = (Given r.answer → ⊥) → (r.out ≡ []) × ((r.store ≡ st) ⊎ (r.store ≡ expired))

  refuses : (a : ℕ) → Leaves (answered Z a expired)
  refuses a n = (refl, inr refl)

  gives : (a : ℕ) (x : List ℕ) (z : Links Z) → Given a → Leaves (record { answer = a; out = x; store = z })
  gives a x z g n = absurd (n g)

  turned_leaves : (space : ℕ) (k : Z.K) (t : Turn Z.U) → Leaves (turned Z s st link (keep Z now (get_or st link [])) space k t)
  unfolding turned
  turned_leaves space k (ends x) = cond_elim Leaves (ltb space (length x)) (λ _. refuses 10) (λ _. gives 0 x _ (inl refl))
  turned_leaves space k (holds v) = λ n. (refl, inr (kept (eqb a 2) (λ e. n (inr (inr (eqb-true a 2 e))))))
    where
      w : Units Z
      w = admit Z (record { key = k; it = v }) (keep Z now (get_or st link []))

      a : ℕ
      a = room Z s st link w

      kept : (b : Bool) → (b ≡ true → ⊥) → cond b (set st link w) expired ≡ expired
      kept true f = absurd (f refl)
      kept false f = refl
  turned_leaves space k out_of_turn = refuses 9

  checked_leaves : (space : ℕ) (p : Z.P) (c : Check) → Leaves (checked Z s st link (keep Z now (get_or st link [])) now space p c)
  unfolding checked
  checked_leaves space p fine = turned_leaves space (Z.key p) (Z.turn p now (lookup Z (Z.key p) (keep Z now (get_or st link []))))
  checked_leaves space p address = refuses 7
  checked_leaves space p total = refuses 8

  begun_leaves : (x : List ℕ) (space : ℕ) (f : First Z.P) → Leaves (begun Z s st link now x space f)
  unfolding begun
  begun_leaves x space nothing = λ n. (refl, inl refl)
  begun_leaves x space passes = cond_elim Leaves (ltb space (length x)) (λ _ n. (refl, inl refl)) (λ _. gives 1 x st (inr (inl refl)))
  begun_leaves x space (piece p) = checked_leaves space p (Z.check p)

  pub refused_leaves : (x : List ℕ) (space : ℕ) → Leaves (step Z s st (push link now x space))
  unfolding step
  refused_leaves x space =
      cond_elim Leaves (ltb 65535 (length x)) (λ _ n. (refl, inl refl))
      (λ _. cond_elim Leaves (ltb link s.links) (λ _. begun_leaves x space (Z.first x)) (λ _ n. (refl, inl refl)))

  -- a pass-through, short or not, leaves the store as it was
  pub pass_leaves : (x : List ℕ) (space : ℕ) → Z.first x ≡ passes → (step Z s st (push link now x space)).store ≡ st
  unfolding step begun
  pass_leaves x space e =
      cond_elim (λ (r : Result Z). r.store ≡ st) (ltb 65535 (length x)) (λ _. refl)
      (λ _. cond_elim (λ (r : Result Z). r.store ≡ st) (ltb link s.links) (λ _. passed) (λ _. refl))
    where
      passed : (begun Z s st link now x space (Z.first x)).store ≡ st
      passed =
          ap (λ (f : First Z.P). (begun Z s st link now x space f).store) e
          ∙ cond_elim (λ (r : Result Z). r.store ≡ st) (ltb space (length x)) (λ _. refl) (λ _. refl)
