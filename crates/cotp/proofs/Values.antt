-- The sizes of TPDUs.
use Prim.Native.Nat.{ℕ, ◌≤◌}
use mathlib.Core.Path.{◌≡◌}
use mathlib.Core.Bool.{true, ◌&&◌}
use borrow.Author.Tests.{leb-true}
use lib.Dec.{leb}
use Rattle.octets.proofs.Tests.{and_left, and_right}

pub size_range : (v : ℕ) → (leb 7 v && leb v 13) ≡ true → (7 ≤ v) × (v ≤ 13)
size_range v h = (leb-true 7 v (and_left (leb 7 v) (leb v 13) h), leb-true v 13 (and_right (leb 7 v) (leb v 13) h))
