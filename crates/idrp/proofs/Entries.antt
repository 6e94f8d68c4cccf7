-- Entries that were found lie within the body.
use Rattle.std.specs.Prelude.{Option, Some, None}
use Prim.Native.Nat.{ℕ, ◌+◌, ◌/◌, ◌≤◌}
use mathlib.Core.Path.{◌≡◌, refl}
use mathlib.Core.List.{List}
use borrow.Author.Tests.{leb-true}
use lib.Dec.{leb, ltb}
use lib.ListN.{length, get_or}
use Rattle.octets.proofs.Picks.{pick_elim}
use Rattle.cells.specs.declared.entry.Body.{Body}
use Rattle.idrp.specs.Update.{at16, attribute_at, prefix_at, nlri_addresses, nlri_len, nlri_at}

-- an attribute's value starts four octets behind its position and has as many octets as two of these say
abbrev pub Attribute : List ℕ → ℕ → Option Body → Type 0
Attribute s i None = Unit
Attribute s i (Some b) = (b.start ≡ i + 4) × (b.len ≡ at16 s (i + 2)) × (b.start + b.len ≤ length s)

pub attribute-whole : (s : List ℕ) (end i : ℕ) → Attribute s i (attribute_at s end i)
unfolding attribute_at
attribute-whole s end i =
    pick_elim (Attribute s i) (ltb (i + 4) end)
    (λ l. pick_elim (Attribute s i) (leb (i + 4) (length s))
    (λ h. pick_elim (Attribute s i) (leb (i + 4 + at16 s (i + 2)) (length s)) (λ t. (refl, refl, leb-true (i + 4 + at16 s (i + 2)) (length s) t)) (λ t. tt)) (λ h. tt)) (λ l. tt)

-- a prefix starts behind its octet of bits
abbrev pub Prefix : List ℕ → ℕ → Option Body → Type 0
Prefix s i None = Unit
Prefix s i (Some b) = (b.start ≡ i + 1) × (b.len ≡ (get_or s i 0 + 7) / 8) × (b.start + b.len ≤ length s)

pub prefix-whole : (s : List ℕ) (i : ℕ) → Prefix s i (prefix_at s i)
prefix-whole s i =
    pick_elim (Prefix s i) (leb (i + 1 + (get_or s i 0 + 7) / 8) (length s)) (λ t. (refl, refl, leb-true (i + 1 + (get_or s i 0 + 7) / 8) (length s) t)) (λ t. tt)

-- addresses start behind the protocol's id and their own length
abbrev pub Nlri : List ℕ → ℕ → Option Body → Type 0
Nlri s i None = Unit
Nlri s i (Some b) = (b.start ≡ nlri_addresses s i) × (b.len ≡ nlri_len s i) × (b.start + b.len ≤ length s)

pub nlri-whole : (s : List ℕ) (i : ℕ) → Nlri s i (nlri_at s i)
unfolding nlri_at
nlri-whole s i =
    pick_elim (Nlri s i) (leb (i + 7) (length s))
    (λ l. pick_elim (Nlri s i) (leb (nlri_addresses s i) (length s))
    (λ h. pick_elim (Nlri s i) (leb (nlri_addresses s i + nlri_len s i) (length s)) (λ t. (refl, refl, leb-true (nlri_addresses s i + nlri_len s i) (length s) t)) (λ t. tt)) (λ h. tt)) (λ l. tt)
