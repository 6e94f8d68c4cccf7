-- Any two results that the contract of an operation admits are alike.
use Prim.Native.Nat.{ℕ}
use mathlib.Core.Path.{◌≡◌, sym, ◌∙◌}
use mathlib.Core.List.{List}
use lib.Ieee.{Float}
use Rattle.pool.specs.View.{Unit, SameSettings, pend}

-- two stores of one kind and the same settings, with the same pending units
pub record Alike (w : List ℕ) (t : List Float) (list bs : List ℕ) (w' : List ℕ) (t' : List Float) (list' bs' : List ℕ) : Type 0 where
  pub view : pend w' t' list' bs' ≡ pend w t list bs
  pub settings : SameSettings w w'

-- whatever pending units st the contract names, and whatever store w₀ was there before
pub determined : (w₀ w₁ : List ℕ) (t₁ : List Float) (list₁ bs₁ w₂ : List ℕ) (t₂ : List Float) (list₂ bs₂ : List ℕ) (st : List (List Unit))
    → pend w₁ t₁ list₁ bs₁ ≡ st → pend w₂ t₂ list₂ bs₂ ≡ st → SameSettings w₀ w₁ → SameSettings w₀ w₂ → Alike w₁ t₁ list₁ bs₁ w₂ t₂ list₂ bs₂
determined w₀ w₁ t₁ list₁ bs₁ w₂ t₂ list₂ bs₂ st a b p q = record {
  view = b ∙ sym a;
  settings = record {
    on-kind = q.on-kind ∙ sym p.on-kind;
    on-links = q.on-links ∙ sym p.on-links;
    on-blocks = q.on-blocks ∙ sym p.on-blocks;
    on-reserve = q.on-reserve ∙ sym p.on-reserve;
    on-cap = q.on-cap ∙ sym p.on-cap;
  };
}
