-- Path attributes: their values by type and length, the walk over them, and the member.
use Rattle.std.specs.Prelude.{Some, None}
use Prim.Native.Nat.{ℕ, ◌+◌, ◌-◌, ◌≤◌, ◌<◌}
use mathlib.Core.Path.{◌≡◌, sym, ap, subst, ◌∙◌}
use mathlib.Core.List.{List, [], ◌++◌}
use mathlib.Core.Bool.{true, false, ◌&&◌}
use native.Mathlib.Omega.{arith}
use borrow.Author.Tests.{eq-eqb, ne_eqb, eqb-true, lt-ltb, le-ltb}
use lib.Dec.{ltb, eqb}
use lib.ListN.{length, get_or}
use Rattle.octets.specs.Text.{pick}
use Rattle.octets.proofs.Tests.{and_right}
use Rattle.octets.proofs.Picks.{pick_yes, pick_no}
use Rattle.names.specs.Numbers.{k_value, k_value_hex, k_path_attributes}
use Rattle.cells.specs.Items.{Items, none, leaf, group, number, part, flat}
use Rattle.cells.specs.Walk.{body, stop, entry, step_of, left_from, cells_from}
use Rattle.cells.specs.declared.entry.Body.{Body}
use Rattle.cells.proofs.Walks.{turn, done, over}
use Rattle.idrp.specs.Update.{at16, attributes_at, attributes_from, attributes_end, shown, attribute_value, attribute, attribute_at, attribute_step, attribute_items, attributes_place, attributes_member}
use Rattle.idrp.proofs.Entries.{Attribute, attribute-whole}

-- ---- the value, of n octets at place i
pub number-one : (t n : ℕ) → (shown t && eqb n 1) ≡ true → n ≡ 1
number-one t n h = eqb-true n 1 (and_right (shown t) (eqb n 1) h)

module _ (base : ℕ) (s : List ℕ) (t i n : ℕ) where
  abbrev value : Items
  value = leaf k_value (number (get_or s i 0)) none

  abbrev octets : Items
  octets = leaf k_value_hex (part (base + i) n) none

  abbrev other : Items
  other = pick (ltb 0 n) octets none

  pub is_number : (shown t && eqb n 1) ≡ true → value ≡ attribute_value base s t i n
  is_number h = sym (pick_yes value other h)

  pub is-octets : (shown t && eqb n 1) ≡ false → 0 < n → octets ≡ attribute_value base s t i n
  is-octets h l = sym (pick_no value other h ∙ pick_yes octets none (lt-ltb 0 n l))

  pub no_value : (shown t && eqb n 1) ≡ false → n ≤ 0 → none ≡ attribute_value base s t i n
  no_value h l = sym (pick_no value other h ∙ pick_no octets none (le-ltb 0 n l))

-- ---- an attribute that was found lies within the body
pub whole-at : (s : List ℕ) (end i : ℕ) {b : Body} → attribute_at s end i ≡ Some b → (b.start ≡ i + 4) × (b.start + b.len ≤ length s)
whole-at s end i e = let w = subst (Attribute s i) e (attribute-whole s end i) in (w.0, w.2)

module _ (s : List ℕ) (p : ℕ) (at : p ≡ attributes_at s) where
  pub end_is : (n : ℕ) → n ≡ at16 s p → p + 2 + n ≡ attributes_end s
  end_is n e = ap (λ (k : ℕ). p + 2 + k) e ∙ ap (λ (k : ℕ). k + 2 + at16 s k) at

-- ---- the walk, to the end that the attributes' length gives
module _ (s : List ℕ) (end : ℕ) (is : end ≡ attributes_end s) where
  at-stop : (base i : ℕ) → attribute_at s end i ≡ None → attribute_step base s i ≡ stop
  at-stop base i e = ap (step_of (λ start n. attribute base s (get_or s (i + 1) 0) start n)) (ap (λ (k : ℕ). attribute_at s k i) (sym is) ∙ e)

  at_body : (base i : ℕ) (b : Body) → attribute_at s end i ≡ Some b → attribute_step base s i ≡ entry (b.start + b.len) (attribute base s (get_or s (i + 1) 0) b.start b.len)
  at_body base i b e =
      ap (step_of (λ start n. attribute base s (get_or s (i + 1) 0) start n)) (ap (λ (k : ℕ). attribute_at s k i) (sym is) ∙ e)

  -- the octets that it leaves from position i on
  abbrev pub left_at : ℕ → ℕ
  left_at i = left_from (attribute_step 0 s) (length s) i

  pub left_behind : (i : ℕ) (b : Body) → i < length s → attribute_at s end i ≡ Some b → left_at i ≡ left_at (b.start + b.len)
  left_behind i b h e =
      turn (attribute_step 0 s) (λ k. k) (λ c r. r) (length s) i (b.start + b.len) (attribute 0 s (get_or s (i + 1) 0) b.start b.len) h (omega (arith, (whole-at s end i e).0)) (at_body 0 i b e)

  pub place-stop : (i : ℕ) → i < length s → left_at (attributes_from s) ≡ left_at i → attribute_at s end i ≡ None → i ≡ attributes_place s
  place-stop i h q e =
      let z : left_at (attributes_from s) ≡ length s - i = q ∙ done (attribute_step 0 s) (λ k. k) (λ c r. r) (length s) i h (at-stop 0 i e) in
      let y : i ≡ length s - (length s - i) = omega (arith, h) in
      y ∙ ap (λ (k : ℕ). length s - k) (sym z)

  pub place-over : (i : ℕ) → i ≤ length s → length s ≤ i → left_at (attributes_from s) ≡ left_at i → i ≡ attributes_place s
  place-over i l h q =
      let z : left_at (attributes_from s) ≡ 0 = q ∙ over (attribute_step 0 s) (λ k. k) (λ c r. r) (length s) i h in
      let y : i ≡ length s - 0 = omega (arith, h, l) in
      y ∙ ap (λ (k : ℕ). length s - k) (sym z)

-- ---- the member
module _ (base : ℕ) (s : List ℕ) (p : ℕ) (at : p ≡ attributes_at s) (n : ℕ) (is : n ≡ at16 s p) where
  abbrev listed : Items
  listed = group false k_path_attributes (attribute_items base s) none

  length-is : n ≡ at16 s (attributes_at s)
  length-is = is ∙ ap (at16 s) at

  pub no_attributes : n ≡ 0 → none ≡ attributes_member base s
  no_attributes h = sym (pick_yes none listed (eq-eqb (at16 s (attributes_at s)) 0 (sym length-is ∙ h)))

  pub some-attributes : (n ≡ 0 → ⊥) → listed ≡ attributes_member base s
  some-attributes h = sym (pick_no none listed (ne_eqb (at16 s (attributes_at s)) 0 (λ e. h (length-is ∙ e))))
