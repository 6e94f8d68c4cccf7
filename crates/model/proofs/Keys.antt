-- What `keep`, `admit` and `remove` do to what is held under each key.
use mathlib.Core.Path.{◌≡◌, refl, sym, ap, ◌∙◌, subst}
use mathlib.Core.Logic.{◌⊎◌, inl, inr}
use mathlib.Core.List.{[], ◌∷◌}
use mathlib.Core.Bool.{Bool, true, false, cond, true≢false}
use mathlib.Core.Option.{Option, none, some}
use lib.Ieee.{Float}
use Rattle.clock.specs.Time.{fresh_t}
use Rattle.model.specs.Kind.{Kind}
use Rattle.model.specs.Store.{Pend, Units, keep, lookup, admit, remove, Uniq}
use Rattle.model.specs.Rust.{stays}

pub either : (b : Bool) → (b ≡ true) ⊎ (b ≡ false)
either true = inl refl
either false = inr refl

module _ (Z : Kind) where
  -- of two keys that differ, at most one is j; and differing is symmetric
  other : (a b j : Z.K) → Z.same a b ≡ false → Z.same a j ≡ true → Z.same b j ≡ false
  other a b j n e = elim (either (Z.same b j)) [
    | inl f ↦ absurd (true≢false (sym (Z.same_refl j) ∙ subst (λ (x : Z.K). Z.same j x ≡ false) (Z.same_eq b j f) (subst (λ (x : Z.K). Z.same x b ≡ false) (Z.same_eq a j e) n)))
    | inr f ↦ f
  ]

  swap : (a b : Z.K) → Z.same a b ≡ false → Z.same b a ≡ false
  swap a b n = other a b a n (Z.same_refl a)

  pub lookup-keep : (now : Float) (k : Z.K) (us : Units Z) → Uniq Z us → lookup Z k (keep Z now us) ≡ stays Z.time now (lookup Z k us)
  lookup-keep now k [] q = refl
  lookup-keep now k (u ∷ us) q =
      let ih = lookup-keep now k us q.1 in
      elim (either (fresh_t now (Z.time u.it))) [
        | inl f ↦ elim (either (Z.same u.key k)) [ inl e ↦ rw (f, e, f) | inr e ↦ rw (f, e) ih ]
        | inr f ↦ elim (either (Z.same u.key k)) [ inl e ↦ rw (f, e, f) (ih ∙ ap (stays Z.time now) (subst (λ (j : Z.K). lookup Z j us ≡ none) (Z.same_eq u.key k e) q.0)) | inr e ↦ rw (f, e) ih ]
      ]

  pub uniq-keep : (now : Float) (us : Units Z) → Uniq Z us → Uniq Z (keep Z now us)
  uniq-keep now [] q = tt
  uniq-keep now (u ∷ us) q =
      let ih = uniq-keep now us q.1 in
      elim (either (fresh_t now (Z.time u.it))) [ inl f ↦ rw f (lookup-keep now u.key us q.1 ∙ ap (stays Z.time now) q.0, ih) | inr f ↦ rw f ih ]

  pub lookup-admit : (v : Pend Z) (j : Z.K) (us : Units Z) → lookup Z j (admit Z v us) ≡ cond (Z.same v.key j) (some v.it) (lookup Z j us)
  lookup-admit v j [] = refl
  lookup-admit v j (u ∷ us) =
      let ih = lookup-admit v j us in
      elim (either (Z.same u.key v.key)) [
        | inl e ↦ elim (either (Z.same v.key j)) [ inl f ↦ rw (e, f) | inr f ↦ rw (e, f, Z.same_eq u.key v.key e, f) ]
        | inr e ↦ elim (either (Z.same u.key j)) [ inl f ↦ rw (e, f, other u.key v.key j e f) | inr f ↦ rw (e, f) ih ]
      ]

  pub uniq-admit : (v : Pend Z) (us : Units Z) → Uniq Z us → Uniq Z (admit Z v us)
  uniq-admit v [] q = (refl, tt)
  uniq-admit v (u ∷ us) q =
      let ih = uniq-admit v us q.1 in
      elim (either (Z.same u.key v.key)) [
        | inl e ↦ rw e (subst (λ (j : Z.K). lookup Z j us ≡ none) (Z.same_eq u.key v.key e) q.0, q.1)
        | inr e ↦ rw e (lookup-admit v u.key us ∙ rw (swap u.key v.key e) q.0, ih)
      ]

  pub lookup-remove : (k j : Z.K) (us : Units Z) → lookup Z j (remove Z k us) ≡ cond (Z.same k j) none (lookup Z j us)
  lookup-remove k j [] = elim (either (Z.same k j)) [ inl e ↦ rw e | inr e ↦ rw e ]
  lookup-remove k j (u ∷ us) =
      let ih = lookup-remove k j us in
      elim (either (Z.same u.key k)) [
        | inl e ↦ elim (either (Z.same k j)) [ inl f ↦ rw (e, f) (rw f at ih) | inr f ↦ rw (e, f, Z.same_eq u.key k e, f) (rw f at ih) ]
        | inr e ↦ elim (either (Z.same u.key j)) [ inl f ↦ rw (e, f, other u.key k j e f) | inr f ↦ rw (e, f) ih ]
      ]

  none-remove : (k j : Z.K) (us : Units Z) → lookup Z j us ≡ none → lookup Z j (remove Z k us) ≡ none
  none-remove k j us n = lookup-remove k j us ∙ rw n (go (Z.same k j))
    where
      go : (b : Bool) → ◌≡◌ {A = Option Z.U} (cond b none none) none
      go true = refl
      go false = refl

  pub uniq-remove : (k : Z.K) (us : Units Z) → Uniq Z us → Uniq Z (remove Z k us)
  uniq-remove k [] q = tt
  uniq-remove k (u ∷ us) q =
      let ih = uniq-remove k us q.1 in
      elim (either (Z.same u.key k)) [ inl e ↦ rw e ih | inr e ↦ rw e (none-remove k u.key us q.0, ih) ]
