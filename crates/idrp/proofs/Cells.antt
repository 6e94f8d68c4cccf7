-- The cells of a BISPDU.
use Prim.Native.Nat.{ℕ}
use mathlib.Core.Path.{◌≡◌, refl}
use mathlib.Core.List.{List}
use Rattle.cells.specs.Items.{record_of, flat}
use Rattle.idrp.specs.Pdu.{members_of, idrp_cells}

pub cells_are : (s : List ℕ) → flat 0 (record_of (members_of s)) ≡ idrp_cells s
unfolding idrp_cells
cells_are s = refl
