-- Where the octets have no parameters.
use Prim.Native.Nat.{ℕ, ◌+◌, ◌-◌, ◌<◌}
use mathlib.Core.Logic.{◌⊎◌, inl, inr}
use mathlib.Core.Path.{◌≡◌, refl, ap}
use mathlib.Core.List.{List}
use native.Mathlib.Omega.{arith}
use borrow.Author.Tests.{leb-true}
use lib.Dec.{leb}
use lib.ListN.{length, drop, length-take}
use Rattle.octets.proofs.Picks.{pick_elim}
use Rattle.names.specs.Numbers.{k_params}
use Rattle.cells.specs.Items.{none, in_list, ◌⊕◌}
use Rattle.cells.proofs.Walks.{over}
use Rattle.cotp.specs.Params.{param_step, param_items}
use Rattle.cotp.specs.Tpdu.{param_part}
use Rattle.cotp.specs.declared.tpdu.Head.{Head}

module _ (s : List ℕ) (h : Head) where
  part-none : (h.li + 1 < h.fixed) ⊎ (length s < h.li + 1) → length (param_part s h) ≡ 0
  part-none w =
      pick_elim (λ (l : List ℕ). length l ≡ 0) (leb (h.li + 1) (length s))
      (λ e. let a = leb-true (h.li + 1) (length s) e in let n = length-take (h.li + 1 - h.fixed) (drop h.fixed s) in elim w [ inl b ↦ omega (arith, a, b, n) | inr b ↦ absurd (omega (arith, a, b)) ])
      (λ e. refl)

  pub no-params : (base : ℕ) → (h.li + 1 < h.fixed) ⊎ (length s < h.li + 1) → in_list k_params (param_items base (param_part s h)) ≡ none
  no-params base w =
      let p = param_part s h in
      ap (in_list k_params) (over (param_step base p) (λ n. none) ◌⊕◌ (length p) 0 (omega (arith, part-none w)))
