-- A code that no row has gets the name of any other.
use mathlib.Core.Path.{◌≡◌, refl}
use mathlib.Core.List.{List, [], ◌∷◌}
use Prim.Native.Nat.{ℕ}
use borrow.Author.Tests.{ne_eqb}
use Rattle.names.specs.Texts.{number_of}
use Rattle.codes.specs.Codes.{Row, name_in, text_in}

-- no row has the code c
abbrev pub Misses : List Row → ℕ → Type 0
Misses [] c = Unit {0}
Misses (r ∷ rs) c = (c ≡ r.code → ⊥) × Misses rs c

missing : (rows : List Row) (other : List ℕ) (c : ℕ) → Misses rows c → name_in rows other c ≡ other
unfolding name_in
missing [] other c m = refl
missing (r ∷ rs) other c m = rw (ne_eqb c r.code m.0) (missing rs other c m.1)

pub text-missing : (rows : List Row) (other : List ℕ) (c : ℕ) → Misses rows c → number_of other ≡ text_in rows other c
unfolding text_in
text-missing rows other c m = rw (missing rows other c m)
