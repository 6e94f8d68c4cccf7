-- The members of a security label, by its lengths.
use Prim.Native.Nat.{ℕ, ◌+◌, ◌-◌, ◌≤◌, ◌<◌, min}
use mathlib.Core.Path.{◌≡◌, refl, sym, ap, ◌∙◌}
use mathlib.Core.List.{List}
use native.Mathlib.Nat.{lt_of_not-le}
use native.Mathlib.Decide.{dec_le}
use native.Mathlib.Omega.{arith}
use lib.ListN.{length, get_or, take, drop, length-drop}
use borrow.Author.Tests.{eq-eqb, ne_eqb, lt-ltb, le-ltb}
use lib.Seq.{take_all}
use Rattle.names.specs.Numbers.{k_reg_id, k_sec_info}
use Rattle.cells.specs.Items.{Items, none, leaf, part, in_list, ◌⊕◌}
use Rattle.cells.proofs.Answers.{rest}
use Rattle.clnp.specs.Label.{tag_items, info_part, label_members}

-- behind a length octet at p, up to the end that it counts to or the end of the label
pub info_is : (s : List ℕ) (p e : ℕ) → e ≡ min (p + 1 + get_or s p 0) (length s) → take (e - (p + 1)) (drop (p + 1) s) ≡ info_part s p
info_is s p e is = elim (dec_le (p + 1 + get_or s p 0) (length s)) [
  | yes h ↦ let z : e - (p + 1) ≡ get_or s p 0 = omega (arith, is, h) in ap (λ (k : ℕ). take k (drop (p + 1) s)) z
  | no h ↦
      let l = lt_of_not-le h in
      let z : e ≡ length s = omega (arith, is, l) in
      ap (λ (k : ℕ). take (k - (p + 1)) (drop (p + 1) s)) z ∙ rest (p + 1) s ∙ sym (take_all (get_or s p 0) (drop (p + 1) s) (omega (arith, length-drop (p + 1) s, l)))
]

-- ---- members
module _ (base : ℕ) (s : List ℕ) where
  abbrev pub reg_of : Items
  reg_of = leaf k_reg_id (part (base + 1) (get_or s 0 0)) none

  abbrev pub info_of : Items
  info_of = in_list k_sec_info (tag_items (base + (1 + get_or s 0 0) + 1) (info_part s (1 + get_or s 0 0)))

  pub no_label : length s ≡ 0 → label_members base s ≡ none
  unfolding label_members
  no_label h = rw (eq-eqb (length s) 0 h) refl

  module _ (some : length s ≡ 0 → ⊥) where
    pub no_reg : length s < 1 + get_or s 0 0 → label_members base s ≡ none
    unfolding label_members
    no_reg h = rw (ne_eqb (length s) 0 some, lt-ltb (length s) (1 + get_or s 0 0) h) refl

    module _ (there : 1 + get_or s 0 0 ≤ length s) where
      pub with_info : 1 + get_or s 0 0 < length s → label_members base s ≡ reg_of ⊕ info_of
      unfolding label_members
      with_info h = rw (ne_eqb (length s) 0 some, le-ltb (length s) (1 + get_or s 0 0) there, lt-ltb (1 + get_or s 0 0) (length s) h) refl

      pub without : length s ≤ 1 + get_or s 0 0 → label_members base s ≡ reg_of
      unfolding label_members
      without h = rw (ne_eqb (length s) 0 some, le-ltb (length s) (1 + get_or s 0 0) there, le-ltb (1 + get_or s 0 0) (length s) h) refl
