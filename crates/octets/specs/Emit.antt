-- What an emitter does: it writes at a place of the output, drops what falls past the output's end, and gives the next place.
-- Octets and cells are emitted alike.
use Rattle.std.specs.Prelude.{◌≡◌, List, ℕ, ◌+◌, ◌≤◌, min, length}
use Rattle.std.proofs.lemmas.List.Edits.{sets}

-- d with s written over it from place at on; what falls past the end is dropped
unfoldable pub put : {A : Type 0} → List A → ℕ → List A → List A
put d at s = sets d at s

-- the largest place, at which the count of places stops
abbrev pub top : ℕ
top = 18446744073709551615

-- n places on from at
unfoldable pub on_from : ℕ → ℕ → ℕ
on_from at n = min (at + n) top

-- from the output old and the place at, xs were put: the output is new, and the next place is next
pub record Emits {A : Type 0} (old : List A) (at : ℕ) (xs new : List A) (next : ℕ) : Type 0 where
  pub held : new ≡ put old at xs
  pub place : next ≡ on_from at (length xs)
  -- as every slice is
  pub small : length old ≤ top
