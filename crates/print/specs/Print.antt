-- What `print` answers, and what it leaves in the output.
use Rattle.std.specs.Prelude.{List, [], ℕ, length}
use Rattle.std.proofs.Math.Option.{Option, none, some}
use Rattle.cells.specs.Items.{Items}
use Rattle.cells.specs.Read.{items_of}
use Rattle.cells.specs.Answer.{Answer, Parsed}
use Rattle.print.specs.Json.{json_of}

abbrev pub text_in : List ℕ → Option Items → List ℕ
text_in inp none = []
text_in inp (some kids) = json_of inp kids

-- the text of the record that the cells are for the input; no octets, which no record has, where they are not well formed
unfoldable pub printed : List ℕ → List ℕ → List ℕ
printed cells inp = text_in inp (items_of (length inp) cells)

-- from cells, an input and an output: the answer (3 for a long input, 15 for cells that are not well formed, 10 for a text that
-- does not fit, 0 with its length), and the output, unchanged but for that text
abbrev pub Prints : List ℕ → List ℕ → List ℕ → Answer → List ℕ → Type 0
Prints cells inp old r new = Parsed (length inp) (printed cells inp) old r new
