-- The withdrawn routes: the walk over them, and the member.
use Prim.Native.Nat.{ℕ, zero, suc, ◌+◌, ◌-◌, ◌≤◌, ◌<◌}
use mathlib.Core.Path.{◌≡◌, sym, ap, ◌∙◌}
use mathlib.Core.List.{List, [], ◌++◌}
use mathlib.Core.Bool.{false}
use native.Mathlib.Omega.{arith}
use borrow.Author.Tests.{eq-eqb, ne_eqb}
use lib.ListN.{get_or}
use Rattle.octets.specs.Read.{be32}
use Rattle.octets.proofs.Picks.{pick_yes, pick_no}
use Rattle.names.specs.Numbers.{k_withdrawn_routes}
use Rattle.cells.specs.Items.{Items, none, leaf, group, word, flat}
use Rattle.cells.proofs.Rows.{flat-none, flat-⊕}
use Rattle.idrp.specs.Update.{route_items, withdrawn, routes_member}

abbrev pub route : List ℕ → ℕ → Items
route s i = leaf 0 (word (be32 (get_or s i 0) (get_or s (i + 1) 0) (get_or s (i + 2) 0) (get_or s (i + 3) 0))) none

pub routes-turn : (d : ℕ) (s : List ℕ) (n i : ℕ) → 0 < n → flat d (route_items s n i) ≡ flat d (route s i) ++ flat d (route_items s (n - 1) (i + 4))
unfolding route_items
routes-turn d s zero i h = absurd (omega arith)
routes-turn d s (suc n) i h =
    let e : n ≡ suc n - 1 = omega arith in
    flat-⊕ d (route s i) (route_items s n (i + 4)) ∙ ap (λ (k : ℕ). flat d (route s i) ++ flat d (route_items s k (i + 4))) e

pub routes-over : (d : ℕ) (s : List ℕ) (n i : ℕ) → n ≤ 0 → flat d (route_items s n i) ≡ []
unfolding route_items
routes-over d s zero i h = flat-none d
routes-over d s (suc n) i h = absurd (omega arith)

module _ (s : List ℕ) (n : ℕ) (is : n ≡ withdrawn s) where
  abbrev listed : ℕ → Items
  listed k = group false k_withdrawn_routes (route_items s k 2) none

  pub no_routes : n ≡ 0 → none ≡ routes_member s
  no_routes h = sym (pick_yes none (listed (withdrawn s)) (eq-eqb (withdrawn s) 0 (sym is ∙ h)))

  pub some-routes : (n ≡ 0 → ⊥) → listed n ≡ routes_member s
  some-routes h = ap listed is ∙ sym (pick_no none (listed (withdrawn s)) (ne_eqb (withdrawn s) 0 (λ e. h (is ∙ e))))
