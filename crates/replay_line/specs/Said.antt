-- The lines of replay's output: line number, answer, length, and the text, or - where there is none.
use Rattle.std.specs.Prelude.{ℕ, List, [], ◌∷◌, ◌++◌, eqb, length}
use Rattle.octets.specs.Text.{pick, digits, decimal, hex}

-- - for an empty text
abbrev pub or_dash : List ℕ → List ℕ
or_dash t = pick (eqb (length t) 0) (45 ∷ []) t

unfoldable pub said_with : ℕ → ℕ → ℕ → List ℕ → List ℕ
said_with number answer len t = digits 20 number ++ (32 ∷ decimal answer) ++ (32 ∷ decimal len) ++ (32 ∷ or_dash t) ++ (10 ∷ [])

-- with JSON text, and with octets in hex
abbrev pub text_said : ℕ → ℕ → List ℕ → List ℕ
text_said number answer t = said_with number answer (length t) t

abbrev pub octets_said : ℕ → ℕ → List ℕ → List ℕ
octets_said number answer s = said_with number answer (length s) (hex s)
