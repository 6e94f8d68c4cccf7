-- An entry that was found lies within the part.
use Prim.Native.Nat.{ℕ, ◌+◌, ◌≤◌}
use mathlib.Core.Path.{◌≡◌, refl, subst}
use mathlib.Core.List.{List}
use borrow.Author.Tests.{leb-true}
use lib.Dec.{leb}
use lib.ListN.{length, get_or}
use Rattle.octets.proofs.Picks.{pick_elim}
use Rattle.std.specs.Prelude.{Option, Some, None}
use Rattle.cells.specs.declared.entry.Body.{Body}
use Rattle.fields.specs.Tlv.{tlv_at}

-- it starts two octets behind its position, has as many octets as the second of these says, and ends within the part
abbrev pub Whole : List ℕ → ℕ → Option Body → Type 0
Whole s i None = Unit
Whole s i (Some b) = (b.start ≡ i + 2) × (b.len ≡ get_or s (i + 1) 0) × (b.start + b.len ≤ length s)

pub tlv_whole : (s : List ℕ) (i : ℕ) → Whole s i (tlv_at s i)
unfolding tlv_at
tlv_whole s i =
    pick_elim (Whole s i) (leb (i + 2) (length s))
    (λ h. pick_elim (Whole s i) (leb (i + 2 + get_or s (i + 1) 0) (length s)) (λ t. (refl, refl, leb-true (i + 2 + get_or s (i + 1) 0) (length s) t)) (λ t. tt)) (λ h. tt)

-- so said of an entry that was found
pub whole-at : (s : List ℕ) (i : ℕ) {b : Body} → tlv_at s i ≡ Some b → (b.start ≡ i + 2) × (b.start + b.len ≤ length s)
whole-at s i e = let w = subst (Whole s i) e (tlv_whole s i) in (w.0, w.2)
