-- The root object: its opening cell, its text, and that no cell follows.
use mathlib.Core.Path.{◌≡◌, refl, ◌∙◌}
use mathlib.Core.List.{List, [], ◌∷◌}
use mathlib.Core.Bool.{true}
use mathlib.Core.Option.{none}
use Prim.Native.Nat.{ℕ, ◌<◌}
use native.Mathlib.Omega.{arith}
use borrow.Author.Tests.{eq-eqb, ne_eqb}
use lib.ListN.{length, drop, get_or, drop_of_length-le}
use lib.Seq.{drop-cons}
use Rattle.octets.specs.Emit.{Emits}
use Rattle.octets.proofs.Emits.{then}
use Rattle.cells.specs.Items as tree
use Rattle.cells.specs.Items.{open_cell}
use Rattle.cells.specs.Read.{root, going, step, read, items_of}
use Rattle.print.specs.Json.{opens, json_of}
use Rattle.print.specs.Outcome.{Shown, Broken, Written}

pub no_cells : (n : ℕ) (cells : List ℕ) → length cells ≡ 0 → items_of n cells ≡ none
unfolding items_of read
no_cells n [] e = refl
no_cells n (c ∷ cs) e = absurd (omega (arith, e))

pub no_root : (n : ℕ) (cells : List ℕ) → (get_or cells 0 0 ≡ open_cell 0 true 0 → ⊥) → items_of n cells ≡ none
unfolding items_of read step
no_root n [] f = refl
no_root n (c ∷ cs) f = rw (ne_eqb c (open_cell 0 true 0) f)

opened : (n : ℕ) (cells : List ℕ) → get_or cells 0 0 ≡ open_cell 0 true 0 → items_of n cells ≡ read n (drop 1 cells) (going true tree.none root)
unfolding items_of read step
opened n [] e = refl
opened n (c ∷ cs) e = rw (eq-eqb c (open_cell 0 true 0) e)

pub root_broken : (cells inp : List ℕ) → get_or cells 0 0 ≡ open_cell 0 true 0 → Broken cells inp true 1 1 → items_of (length inp) cells ≡ none
root_broken cells inp e b = opened (length inp) cells e ∙ b root refl

module _ {cells inp o : List ℕ} {at : ℕ} {o' : List ℕ} {j r : ℕ} (e : get_or cells 0 0 ≡ open_cell 0 true 0) (s : Shown cells inp true 1 1 o at o' j r) where
  pub more-cells : (j ≡ length cells → ⊥) → items_of (length inp) cells ≡ none
  unfolding read step
  more-cells f =
      let h : j < length cells = omega (arith, f, s.within) in
      opened (length inp) cells e ∙ s.reads root refl ∙ rw (drop-cons cells j 0 h)

  pub all-cells : {o₀ : List ℕ} → j ≡ length cells → Emits o₀ 0 (opens true ∷ []) o at → Written cells inp o₀ o' r
  unfolding read json_of
  all-cells f w = record {
    kids = s.items;
    reads = opened (length inp) cells e ∙ s.reads root refl ∙ rw (drop_of_length-le cells {i = j} (omega arith));
    text = then w s.text;
  }
