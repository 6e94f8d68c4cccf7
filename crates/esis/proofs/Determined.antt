-- Any two results of the entry point are equal.
use mathlib.Core.Path.{◌≡◌}
use mathlib.Core.List.{List}
use lib.ListN.{length}
use Prim.Native.Nat.{ℕ}
use Rattle.cells.specs.Answer.{Answer, Parsed}
use Rattle.cells.proofs.Answers as answers
use Rattle.esis.specs.Pdu.{esis_cells}

pub determined : (s : List ℕ) {old new new' : List ℕ} {r r' : Answer} → Parsed (length s) (esis_cells s) old r new → Parsed (length s) (esis_cells s) old r' new' → (r ≡ r') × (new ≡ new')
determined s p q = answers.determined p q
