-- The cells of a TPDU that was read.
use mathlib.Core.Path.{◌≡◌, ap}
use mathlib.Core.List.{List, []}
use Prim.Native.Nat.{ℕ}
use Rattle.std.specs.Prelude.{Some, None}
use Rattle.cells.specs.Items.{record_of, flat}
use Rattle.cotp.specs.Tpdu.{head_of, members_of, head_cells, cotp_cells}
use Rattle.cotp.specs.declared.tpdu.Head.{Head}

pub no_cells : (s : List ℕ) → head_of s ≡ None → cotp_cells s ≡ []
unfolding cotp_cells
no_cells s e = ap (head_cells s) e

pub cells_are : (s : List ℕ) (h : Head) → head_of s ≡ Some h → cotp_cells s ≡ flat 0 (record_of (members_of 0 s h))
unfolding cotp_cells
cells_are s h e = ap (head_cells s) e
