-- The text numbers of a record are listed, and none of those that are always given is 0.
use Prim.Native.Nat.{ℕ, ◌≤◌, ◌<◌}
use mathlib.Core.Path.{◌≡◌, refl}
use mathlib.Core.List.{List, [], ◌∷◌}
use mathlib.Core.Bool.{Bool, true, ◌&&◌}
use borrow.Author.Tests.{ltb-true}
use lib.Dec.{eqb, ltb}
use Rattle.octets.proofs.Tests.{and_left, and_right}
use Rattle.octets.proofs.Picks.{pick_elim}
use Rattle.names.specs.Ascii.{octets}
use Rattle.names.specs.Place.{same, place_from}
use Rattle.names.specs.Texts.{texts, number_of}
use Rattle.names.specs.Numbers.{last_text}
use Rattle.codes.specs.Codes.{Row, name_in, text_in, idrp_types, idrp_errors, idrp_attributes}
use Rattle.codes.proofs.Lows.{text-low}

-- every row's name is one of the texts
abbrev named : List Row → Bool
named [] = true
named (r ∷ rs) = ltb 0 (number_of r.name) && named rs

name-listed : (rows : List Row) (other : List ℕ) (c : ℕ) → named rows ≡ true → 0 < number_of other → 0 < number_of (name_in rows other c)
unfolding name_in
name-listed [] other c h l = l
name-listed (r ∷ rs) other c h l =
    pick_elim (λ (t : List ℕ). 0 < number_of t) (eqb c r.code) (λ e. ltb-true 0 (number_of r.name) (and_left (ltb 0 (number_of r.name)) (named rs) h))
    (λ e. name-listed rs other c (and_right (ltb 0 (number_of r.name)) (named rs) h) l)

abbrev pub Listed : ℕ → Type 0
Listed t = (0 < t) × (t ≤ last_text)

listed : (rows : List Row) (other : List ℕ) (c : ℕ) → named rows ≡ true → 0 < number_of other → Listed (text_in rows other c)
unfolding text_in
listed rows other c h l = (name-listed rows other c h l, text-low rows other c)

types_named : named idrp_types ≡ true
unfolding idrp_types texts number_of place_from same
types_named = refl

errors_named : named idrp_errors ≡ true
unfolding idrp_errors texts number_of place_from same
errors_named = refl

attributes-named : named idrp_attributes ≡ true
unfolding idrp_attributes texts number_of place_from same
attributes-named = refl

mark_is : ltb 0 (number_of (octets "?")) ≡ true
unfolding texts number_of place_from same
mark_is = refl

unknown-is : ltb 0 (number_of (octets "unknown")) ≡ true
unfolding texts number_of place_from same
unknown-is = refl

pub type-listed : (c : ℕ) → Listed (text_in idrp_types (octets "?") c)
type-listed c = listed idrp_types (octets "?") c types_named (ltb-true 0 (number_of (octets "?")) mark_is)

pub error_listed : (c : ℕ) → Listed (text_in idrp_errors (octets "?") c)
error_listed c = listed idrp_errors (octets "?") c errors_named (ltb-true 0 (number_of (octets "?")) mark_is)

pub attribute-listed : (c : ℕ) → Listed (text_in idrp_attributes (octets "unknown") c)
attribute-listed c = listed idrp_attributes (octets "unknown") c attributes-named (ltb-true 0 (number_of (octets "unknown")) unknown-is)
