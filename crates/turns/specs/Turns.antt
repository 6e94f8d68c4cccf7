-- What a piece makes of a link's units where a unit grows at its end, as in X.25 and COTP.
use Rattle.std.specs.Prelude.{ℕ, Bool, cond, List, [], ◌++◌, Float, length, get_or, Option, Some, None}
use Rattle.pool.specs.View.{Unit, blank}
use Rattle.pool.specs.Kinds.{placed}

-- the place of the unit that was found, or where none was the one behind the last
abbrev pub found_at : List Unit → Option ℕ → ℕ
found_at us None = length us
found_at us (Some j) = j

-- the octets of unit j with a piece behind them, or the piece alone where there is no such unit or nothing of it is kept
abbrev pub whole : List Unit → ℕ → Bool → List ℕ → List ℕ
whole us j keep piece = cond keep (get_or us j blank).body [] ++ piece

-- the link's units where unit j, or a new one where there is none, holds that, with this key, note and time
abbrev pub held : List Unit → ℕ → List ℕ → Bool → ℕ → Float → List ℕ → List Unit
held us j key keep note at piece = placed us j (record { key = key; note = note; time = at; body = whole us j keep piece; top = (get_or us j blank).top })
