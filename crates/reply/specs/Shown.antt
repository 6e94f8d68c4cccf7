-- A record, parsed and printed: the parser's answer if that is not 0, and else the printer's.
use Rattle.std.specs.Prelude.{ℕ, ◌≡◌, Ok, Err, List, [], length}
use Rattle.cells.specs.Answer.{Answer, answer_to, output_of}
use Rattle.print.specs.Print.{printed}

-- behind the parser's answer a, for octets s that have the cells xs, with room for so much text
abbrev pub shown_by : Answer → List ℕ → List ℕ → ℕ → Answer
shown_by (Ok n) xs s room = answer_to (length s) (printed xs s) room
shown_by (Err r) xs s room = Err r

-- with room for so many cells and so much text
unfoldable pub shown : List ℕ → List ℕ → ℕ → ℕ → Answer
shown xs s cells room = shown_by (answer_to (length s) xs cells) xs s room

-- the text that comes with an answer
abbrev pub text_with : Answer → List ℕ → List ℕ
text_with (Ok n) t = t
text_with (Err r) t = []

-- the answer r, and the text new where old was lent
pub record Shows (a : Answer) (xs s old : List ℕ) (r : Answer) (new : List ℕ) : Type 0 where
  pub answer : r ≡ shown_by a xs s (length old)
  pub output : new ≡ output_of r (printed xs s) old
