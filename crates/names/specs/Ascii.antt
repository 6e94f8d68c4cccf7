-- The octets of a text in ASCII.
use mathlib.Core.List as list
use Rattle.std.specs.Prelude.{List, ℕ}
use Prim.Native.Char.{code}
use Prim.Native.String.{String, [], ◌∷◌}

abbrev pub octets : String → List ℕ
octets [] = list.[]
octets (c ∷ s) = list.◌∷◌ (code c) (octets s)
