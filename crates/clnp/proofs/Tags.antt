-- Tag sets: the texts of bits, and entries within their part.
use Prim.Native.Nat.{ℕ, ◌+◌, ◌≤◌}
use mathlib.Core.Path.{◌≡◌, refl, ap, ◌∙◌}
use mathlib.Core.List.{List}
use borrow.Author.Tests.{leb-true}
use lib.Dec.{leb, eqb}
use lib.ListN.{length, get_or}
use Rattle.std.specs.Prelude.{Option, Some, None}
use Rattle.octets.proofs.Picks.{pick_elim}
use Rattle.codes.specs.Codes.{Row}
use Rattle.cells.specs.Items.{Items, ◌⊕◌}
use Rattle.cells.specs.declared.entry.Body.{Body}
use Rattle.cells.proofs.Rows.{⊕-assoc}
use Rattle.clnp.specs.Label.{bit_name, bit_names, tag_at}

-- ---- the texts of the bits, in two parts
abbrev pub low_of : List Row → ℕ → Items
low_of rows o = bit_name rows o 1 ⊕ (bit_name rows o 2 ⊕ (bit_name rows o 4 ⊕ bit_name rows o 8))

abbrev pub high_of : List Row → ℕ → Items
high_of rows o = bit_name rows o 16 ⊕ (bit_name rows o 32 ⊕ (bit_name rows o 64 ⊕ bit_name rows o 128))

four : (a b c d e : Items) → (a ⊕ (b ⊕ (c ⊕ d))) ⊕ e ≡ a ⊕ (b ⊕ (c ⊕ (d ⊕ e)))
four a b c d e = ⊕-assoc a (b ⊕ (c ⊕ d)) e ∙ ap (λ (z : Items). a ⊕ z) (⊕-assoc b (c ⊕ d) e ∙ ap (λ (z : Items). b ⊕ z) (⊕-assoc c d e))

pub bits_are : (rows : List Row) (o : ℕ) → low_of rows o ⊕ high_of rows o ≡ bit_names rows o
bits_are rows o = four (bit_name rows o 1) (bit_name rows o 2) (bit_name rows o 4) (bit_name rows o 8) (high_of rows o)

-- ---- an entry that was found lies within the part
abbrev pub Whole : List ℕ → ℕ → Option Body → Type 0
Whole s i None = Unit
Whole s i (Some b) = (b.start ≡ i + 3) × (b.start + b.len ≤ length s)

pub tag-whole : (s : List ℕ) (i : ℕ) → Whole s i (tag_at s i)
unfolding tag_at
tag-whole s i =
    pick_elim (Whole s i) (leb (i + 3) (length s))
    (λ h. pick_elim (Whole s i) (eqb (get_or s i 0) 1)
    (λ e. pick_elim (Whole s i) (leb (i + 3 + get_or s (i + 2) 0) (length s)) (λ t. (refl, leb-true (i + 3 + get_or s (i + 2) 0) (length s) t)) (λ t. tt)) (λ e. tt)) (λ h. tt)
