-- The cells of a PDU.
use Prim.Native.Nat.{ℕ, ◌<◌}
use mathlib.Core.Path.{◌≡◌, refl, subst}
use mathlib.Core.List.{List}
use lib.ListN.{length}
use Rattle.cells.specs.Items.{record_of, flat}
use Rattle.cells.specs.Answer.{number_of, answer_to}
use Rattle.cells.proofs.Answers as answers
use Rattle.cells.proofs.Once.{some}
use Rattle.esis.specs.Pdu.{members_of, esis_cells}

pub cells_are : (s : List ℕ) → flat 0 (record_of (members_of s)) ≡ esis_cells s
unfolding esis_cells
cells_are s = refl

-- every PDU has a record
pub readable : (s : List ℕ) (room : ℕ) → number_of (answer_to (length s) (esis_cells s) room) ≡ 15 → ⊥
readable s room e = answers.readable (length s) (esis_cells s) room (subst (λ (l : List ℕ). 0 < length l) (cells_are s) (some (members_of s))) e
