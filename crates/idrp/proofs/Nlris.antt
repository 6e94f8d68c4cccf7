-- NLRI: an entry lies within the body.
use Rattle.std.specs.Prelude.{Option, Some, None}
use Prim.Native.Nat.{ℕ, ◌+◌, ◌-◌, ◌≤◌, ◌<◌}
use mathlib.Core.Path.{◌≡◌, refl, ap, subst}
use mathlib.Core.List.{List, [], ◌++◌}
use mathlib.Core.Bool.{false}
use native.Mathlib.Decide.{dec_le}
use native.Mathlib.Nat.{lt_of_not-le}
use native.Mathlib.Omega.{arith}
use borrow.Author.Tests.{leb-true}
use lib.Dec.{leb}
use lib.ListN.{length, take, drop}
use Rattle.octets.proofs.Picks.{pick_elim}
use Rattle.names.specs.Numbers.{k_nlri}
use Rattle.cells.specs.Items.{Items, none, group, in_list, flat, ◌⊕◌}
use Rattle.cells.specs.Walk.{body, step_of, items_from, cells_from}
use Rattle.cells.specs.declared.entry.Body.{Body}
use Rattle.cells.proofs.Walks.{turn, done, over}
use Rattle.idrp.specs.Update.{prefix_items, nlri_addresses, nlri_len, nlri_at, nlri, nlri_step}

-- ---- an entry that was found lies within the body, and has seven octets
abbrev Found : List ℕ → ℕ → Option Body → Type 0
Found s i None = Unit
Found s i (Some b) = (i + 7 ≤ length s) × (i < b.start) × (b.start + b.len ≤ length s)

found : (s : List ℕ) (i : ℕ) → Found s i (nlri_at s i)
unfolding nlri_at
found s i =
    pick_elim (Found s i) (leb (i + 7) (length s))
    (λ l. pick_elim (Found s i) (leb (nlri_addresses s i) (length s))
    (λ h. pick_elim (Found s i) (leb (nlri_addresses s i + nlri_len s i) (length s))
    (λ t. (leb-true (i + 7) (length s) l, omega arith, leb-true (nlri_addresses s i + nlri_len s i) (length s) t)) (λ t. tt)) (λ h. tt)) (λ l. tt)

pub whole-at : (s : List ℕ) (i : ℕ) {b : Body} → nlri_at s i ≡ Some b → (i + 7 ≤ length s) × (i < b.start) × (b.start + b.len ≤ length s)
whole-at s i e = subst (Found s i) e (found s i)

module _ (base : ℕ) (s : List ℕ) where
  -- the octets of the addresses, as the borrow checker gives them
  pub addresses : (start n : ℕ) → prefix_items (base + start) (take (start + n - start) (drop start s)) ≡ prefix_items (base + start) (take n (drop start s))
  addresses start n = let e : start + n - start ≡ n = omega arith in ap (λ (k : ℕ). prefix_items (base + start) (take k (drop start s))) e
