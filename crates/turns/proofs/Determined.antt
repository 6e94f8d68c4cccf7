-- Any two results that the contract of `hold`, or of `finish`, admits: one answer, one output, and stores that are alike.
use Prim.Native.Nat.{ℕ}
use Rattle.std.specs.Prelude.{Result, Ok, Err}
use mathlib.Core.Path.{◌≡◌, refl, sym, ap, ◌∙◌}
use mathlib.Core.Bool.{Bool, cond}
use mathlib.Core.List.{List}
use native.Mathlib.Omega.{arith}
use lib.Ieee.{Float}
use Rattle.pool.specs.View.{Unit, SameSettings, pend, number, answer}
use Rattle.pool.specs.declared.link.Full.{Full}
use Rattle.pool.specs.declared.link.Full.TheVariants.{Places, Cap, Common}
use Rattle.pool.proofs.Determined as pool

-- the answer that the contract names, and the test of one on which something changes: 2 for `hold`, some length for `finish`
module _ {R : Type 0} (answer : R) (good : R → Bool) (r₁ r₂ : R) (a₁ : r₁ ≡ answer) (a₂ : r₂ ≡ answer) where
  pub same_answer : r₁ ≡ r₂
  same_answer = a₁ ∙ sym a₂

  pub same-output : (o x o₁ o₂ : List ℕ) → o₁ ≡ cond (good r₁) x o → o₂ ≡ cond (good r₂) x o → o₁ ≡ o₂
  same-output o x o₁ o₂ e f = e ∙ ap (λ (r : R). cond (good r) x o) same_answer ∙ sym f

  pub determined : (w₀ w₁ : List ℕ) (t₁ : List Float) (list₁ bs₁ w₂ : List ℕ) (t₂ : List Float) (list₂ bs₂ : List ℕ) (st changed : List (List Unit))
      → pend w₁ t₁ list₁ bs₁ ≡ cond (good r₁) changed st → pend w₂ t₂ list₂ bs₂ ≡ cond (good r₂) changed st
      → SameSettings w₀ w₁ → SameSettings w₀ w₂ → pool.Alike w₁ t₁ list₁ bs₁ w₂ t₂ list₂ bs₂
  determined w₀ w₁ t₁ list₁ bs₁ w₂ t₂ list₂ bs₂ st changed e f p q =
      let left : R → List (List Unit) = λ r. cond (good r) changed st in
      pool.determined w₀ w₁ t₁ list₁ bs₁ w₂ t₂ list₂ bs₂ (left answer) (e ∙ ap left a₁) (f ∙ ap left a₂) p q

same_number : (x y : Full) → number x ≡ number y → x ≡ y
same_number Places Places e = refl
same_number Places Cap e = absurd (omega (arith, e))
same_number Places Common e = absurd (omega (arith, e))
same_number Cap Places e = absurd (omega (arith, e))
same_number Cap Cap e = refl
same_number Cap Common e = absurd (omega (arith, e))
same_number Common Places e = absurd (omega (arith, e))
same_number Common Cap e = absurd (omega (arith, e))
same_number Common Common e = refl

above : (x : Full) → 2 ≡ number x → ⊥
above Places e = omega (arith, e)
above Cap e = omega (arith, e)
above Common e = omega (arith, e)

-- answers of `hold` with one number are one answer
pub one-answer : {A : Type 0} → ((x y : A) → x ≡ y) → (r q : Result A Full) → answer r ≡ answer q → r ≡ q
one-answer one (Ok x) (Ok y) e = ap Ok (one x y)
one-answer one (Ok x) (Err f) e = absurd (above f e)
one-answer one (Err f) (Ok x) e = absurd (above f (sym e))
one-answer one (Err f) (Err g) e = ap Err (same_number f g e)
