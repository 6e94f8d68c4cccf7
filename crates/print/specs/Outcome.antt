-- What the printers of a group answer.
use Rattle.std.specs.Prelude.{◌≡◌, Option, Some, None, List, [], ◌∷◌, ◌++◌, Bool, true, ℕ, ◌+◌, ◌≤◌, ◌<◌, length, drop}
use Rattle.std.proofs.Math.Option.{none, some}
use Rattle.octets.specs.Emit.{Emits}
use Rattle.cells.specs.Items as tree
use Rattle.cells.specs.Items.{Items}
use Rattle.cells.specs.Read.{Stack, height, going, closed, read, items_of}
use Rattle.print.specs.Json.{row_text, closes, json_of}

-- the cells from place from up to j are the rest of a group, which has these items; their text and the closing bracket are written
pub record Shown (cells inp : List ℕ) (keyed : Bool) (from d : ℕ) (o : List ℕ) (at : ℕ) (o' : List ℕ) (j r : ℕ) : Type 0 where
  pub items : Items
  pub after : from < j
  pub within : j ≤ length cells
  pub reads : (st : Stack) → height st + 1 ≡ d → read (length inp) (drop from cells) (going keyed tree.none st) ≡ read (length inp) (drop j cells) (closed keyed items st)
  pub text : Emits o at (row_text inp keyed true items ++ (closes keyed ∷ [])) o' r

-- no reading goes on from place from
abbrev pub Broken : List ℕ → List ℕ → Bool → ℕ → ℕ → Type 0
Broken cells inp keyed from d = (st : Stack) → height st + 1 ≡ d → read (length inp) (drop from cells) (going keyed tree.none st) ≡ none

abbrev pub Outcome : List ℕ → List ℕ → Bool → ℕ → ℕ → List ℕ → ℕ → List ℕ → Option (ℕ × ℕ) → Type 0
Outcome cells inp keyed from d o at o' (Some p) = Shown cells inp keyed from d o at o' p.0 p.1
Outcome cells inp keyed from d o at o' None = Broken cells inp keyed from d

-- the cells are well formed, and the text of the record is written
pub record Written (cells inp o : List ℕ) (o' : List ℕ) (r : ℕ) : Type 0 where
  pub kids : Items
  pub reads : items_of (length inp) cells ≡ some kids
  pub text : Emits o 0 (json_of inp kids) o' r

abbrev pub WholeOutcome : List ℕ → List ℕ → List ℕ → List ℕ → Option ℕ → Type 0
WholeOutcome cells inp o o' (Some r) = Written cells inp o o' r
WholeOutcome cells inp o o' None = items_of (length inp) cells ≡ none
