-- The body of an UPDATE: whether it is readable, and its members.
use Prim.Native.Nat.{ℕ, ◌+◌, ◌≤◌, ◌<◌}
use mathlib.Core.Path.{◌≡◌, refl, sym, ap, ◌∙◌}
use mathlib.Core.List.{List}
use mathlib.Core.Bool.{Bool, true, false, ◌&&◌}
use native.Mathlib.Omega.{arith}
use borrow.Author.Tests.{le-leb, lt-leb, leb-true}
use lib.Dec.{leb}
use lib.ListN.{length}
use Rattle.octets.proofs.Tests.{and_left, and_right}
use Rattle.names.specs.Numbers.{k_nlri}
use Rattle.cells.specs.Items.{in_list, ◌⊕◌}
use Rattle.cells.specs.Walk.{items_from}
use Rattle.idrp.specs.Update.{attributes_at, attributes_from, attributes_end, attributes_place, nlri_step, nlri_items, routes_whole, attributes_whole, update_readable, routes_member, attributes_member, update_members}

-- ---- readable
module _ (s : List ℕ) where
  abbrev tested : Bool → Bool → Bool → Bool
  tested a b c = (a && b) && c

  pub no_count : length s < 2 → false ≡ update_readable s
  no_count h = sym (ap (λ (x : Bool). tested x (leb (attributes_from s) (length s)) (attributes_whole s)) (lt-leb 2 (length s) h))

  module _ (two : 2 ≤ length s) (p : ℕ) (at : p ≡ attributes_at s) where
    counted : tested true (leb (attributes_from s) (length s)) (attributes_whole s) ≡ update_readable s
    counted = sym (ap (λ (x : Bool). tested x (leb (attributes_from s) (length s)) (attributes_whole s)) (le-leb 2 (length s) two))

    from_is : p + 2 ≡ attributes_from s
    from_is = ap (λ (k : ℕ). k + 2) at

    pub no_length : length s < p + 2 → false ≡ update_readable s
    no_length h = sym (ap (λ (x : Bool). tested true x (attributes_whole s)) (lt-leb (attributes_from s) (length s) (omega (arith, h, from_is)))) ∙ counted

    pub by_place : (end place : ℕ) → p + 2 ≤ length s → end ≡ attributes_end s → place ≡ attributes_place s → leb end (place + 4) ≡ update_readable s
    by_place end place h e q =
        ap (λ (k : ℕ). leb k (place + 4)) e ∙ ap (λ (k : ℕ). leb (attributes_end s) (k + 4)) q
        ∙ sym (ap (λ (x : Bool). tested true x (attributes_whole s)) (le-leb (attributes_from s) (length s) (omega (arith, h, from_is)))) ∙ counted

  -- ---- what is there of a readable body
  pub there : update_readable s ≡ true → (2 ≤ length s) × (attributes_from s ≤ length s)
  there h =
      let w = and_left (routes_whole s) (attributes_whole s) h in
      (leb-true 2 (length s) (and_left (leb 2 (length s)) (leb (attributes_from s) (length s)) w), leb-true (attributes_from s) (length s) (and_right (leb 2 (length s)) (leb (attributes_from s) (length s)) w))

  -- ---- members
  pub nlri-at : (base place : ℕ) → place ≡ attributes_place s → in_list k_nlri (items_from (nlri_step base s) (length s) place) ≡ in_list k_nlri (nlri_items base s)
  nlri-at base place e = ap (λ (k : ℕ). in_list k_nlri (items_from (nlri_step base s) (length s) k)) e

  pub members_are : (base : ℕ) → routes_member s ⊕ (attributes_member base s ⊕ in_list k_nlri (nlri_items base s)) ≡ update_members base s
  unfolding update_members
  members_are base = refl
