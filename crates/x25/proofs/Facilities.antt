-- The walk over facilities: entries lie within the part, and give at most two cells an octet.
use Rattle.std.specs.Prelude.{Option, Some, None}
use Prim.Native.Nat.{ℕ, ◌+◌, ◌*◌, ◌/◌, ◌≤◌}
use mathlib.Core.Path.{◌≡◌, refl, sym, ap, subst, ◌∙◌}
use mathlib.Core.List.{List, [], ◌++◌}
use native.Mathlib.Omega.{arith}
use borrow.Author.Tests.{leb-true}
use lib.Dec.{ltb, leb}
use lib.ListN.{length, get_or, length-append}
use Rattle.octets.proofs.Picks.{pick_elim}
use Rattle.cells.specs.Items.{flat}
use Rattle.cells.specs.Walk.{step_of}
use Rattle.cells.specs.declared.entry.Body.{Body}
use Rattle.cells.proofs.Walks.{Thin, thin, fuse, flat_walk}
use Rattle.x25.specs.Facility.{body_at, fac_at, facility, fac_step, fac_items}

-- an entry that was found has two octets or more, and ends within the part
abbrev pub Within : ℕ → ℕ → Option Body → Type 0
Within size i None = Unit
Within size i (Some b) = (i + 2 ≤ b.start + b.len) × (b.start + b.len ≤ size)

body-within : (s : List ℕ) (i start n : ℕ) → i + 2 ≤ start + n → Within (length s) i (body_at s start n)
body-within s i start n h = pick_elim (Within (length s) i) (leb (start + n) (length s)) (λ t. (h, leb-true (start + n) (length s) t)) (λ t. tt)

pub fac_within : (s : List ℕ) (i : ℕ) → Within (length s) i (fac_at s i)
unfolding fac_at
fac_within s i =
    pick_elim (Within (length s) i) (leb (get_or s i 0 / 64) 2) (λ t. body-within s i (i + 1) (get_or s i 0 / 64 + 1) (omega arith))
    (λ t. pick_elim (Within (length s) i) (ltb (i + 1) (length s)) (λ u. body-within s i (i + 2) (get_or s (i + 1) 0) (omega arith)) (λ u. tt))

-- ---- at most two cells for each octet of the part
fac_size : (code at len : ℕ) → length (flat 2 (facility code at len)) ≡ 4
unfolding flat
fac_size code at len = refl

step-thin : (base : ℕ) (s : List ℕ) (i : ℕ) (e : Option Body) → Within (length s) i e
    → Thin (fac_step base s) (λ c. length (flat 2 c)) 2 (length s) i (step_of (λ start len. facility (get_or s i 0) (base + start) len) e)
step-thin base s i None w = tt
step-thin base s i (Some b) w = (omega (arith, w.0), w.1, omega (arith, w.0, fac_size (get_or s i 0) (base + b.start) b.len))

pub fac_thin : (base : ℕ) (s : List ℕ) → length (flat 2 (fac_items base s)) ≤ 2 * length s
fac_thin base s =
    let e = ap length (flat_walk 2 (fac_step base s) (length s) 0)
    ∙ fuse (fac_step base s) (λ n. []) (λ c r. flat 2 c ++ r) (λ n. 0) (λ c r. length (flat 2 c) + r) length (λ n. refl) (λ c r. length-append (flat 2 c) r) (length s) 0 in
    subst (λ (n : ℕ). n ≤ 2 * length s) (sym e)
    (thin (fac_step base s) (λ c. length (flat 2 c)) 2 (length s) (λ i h. step-thin base s i (fac_at s i) (fac_within s i)))
