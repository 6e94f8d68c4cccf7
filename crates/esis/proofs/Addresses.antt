-- The addresses from a place on, and the place behind them, by the tests that are made there.
use Prim.Native.Nat.{ℕ, zero, suc, ◌+◌, ◌-◌, ◌≤◌, ◌<◌}
use mathlib.Core.Path.{◌≡◌, refl, sym, ap, ◌∙◌}
use mathlib.Core.List.{List}
use mathlib.Core.Bool.{Bool, true, false}
use native.Mathlib.Omega.{arith}
use borrow.Author.Tests.{lt-ltb, le-ltb, leb-true, ltb-true}
use lib.Dec.{ltb, leb}
use lib.ListN.{length, get_or}
use Rattle.octets.specs.Text.{pick}
use Rattle.octets.proofs.Tests.{and_left}
use Rattle.octets.proofs.Picks.{pick_elim}
use Rattle.names.specs.Numbers.{k_addresses}
use Rattle.cells.specs.Items.{Items, none, leaf, group, part, in_list, ◌⊕◌}
use Rattle.esis.specs.Pdu.{address_ok, address_items, address_end}

-- what a definition says, from what the function that is equal to it answered
pub off : {b x : Bool} → b ≡ x → b ≡ false → x ≡ false
off e h = sym e ∙ h

pub on : {b x : Bool} → b ≡ x → b ≡ true → x ≡ true
on e h = sym e ∙ h

module _ (s : List ℕ) where
  abbrev pub behind : ℕ → ℕ
  behind p = p + 1 + get_or s p 0

  abbrev pub address : ℕ → Items
  address p = leaf 0 (part (p + 1) (get_or s p 0)) none

  -- one that is right is there
  pub there : (p : ℕ) → address_ok s p ≡ true → behind p ≤ length s
  there p h = leb-true (behind p) (length s) (and_left (leb (behind p) (length s)) (leb (get_or s p 0) 20) h)

  abbrev one_of : Bool → Bool → Items → Items
  one_of a b x = pick a (pick b x none) none

  abbrev end_of : Bool → Bool → ℕ → ℕ → ℕ
  end_of a b p q = pick a (pick b q (p + 1)) p

  -- ---- the items
  pub items-zero : (p : ℕ) → address_items s 0 p ≡ none
  unfolding address_items
  items-zero p = refl

  items-suc : (n p : ℕ) {a b : Bool} → ltb p (length s) ≡ a → address_ok s p ≡ b → address_items s (suc n) p ≡ one_of a b (address p ⊕ address_items s n (behind p))
  unfolding address_items
  items-suc n p {a} {b} e f =
      let x : Items = address p ⊕ address_items s n (behind p) in
      ap (λ (z : Bool). one_of z (address_ok s p) x) e ∙ ap (λ (z : Bool). one_of a z x) f

  pub items-past : (n p : ℕ) → length s ≤ p → address_items s n p ≡ none
  items-past zero p h = items-zero p
  items-past (suc n) p h = items-suc n p (le-ltb p (length s) h) refl

  pub items_bad : (n p : ℕ) → p < length s → address_ok s p ≡ false → address_items s n p ≡ none
  items_bad zero p h e = items-zero p
  items_bad (suc n) p h e = items-suc n p (lt-ltb p (length s) h) e

  pub items_more : (n p : ℕ) → 0 < n → p < length s → address_ok s p ≡ true → address_items s n p ≡ address p ⊕ address_items s (n - 1) (behind p)
  items_more zero p l h e = absurd (omega arith)
  items_more (suc n) p l h e =
      let q : n ≡ suc n - 1 = omega arith in
      items-suc n p (lt-ltb p (length s) h) e ∙ ap (λ (k : ℕ). address p ⊕ address_items s k (behind p)) q

  -- ---- the place behind them
  pub end-zero : (p : ℕ) → address_end s 0 p ≡ p
  unfolding address_end
  end-zero p = refl

  end-suc : (n p : ℕ) {a b : Bool} → ltb p (length s) ≡ a → address_ok s p ≡ b → address_end s (suc n) p ≡ end_of a b p (address_end s n (behind p))
  unfolding address_end
  end-suc n p {a} {b} e f =
      let x : ℕ = address_end s n (behind p) in
      ap (λ (z : Bool). end_of z (address_ok s p) p x) e ∙ ap (λ (z : Bool). end_of a z p x) f

  pub end-past : (n p : ℕ) → length s ≤ p → address_end s n p ≡ p
  end-past zero p h = end-zero p
  end-past (suc n) p h = end-suc n p (le-ltb p (length s) h) refl

  pub end_bad : (n p : ℕ) → 0 < n → p < length s → address_ok s p ≡ false → address_end s n p ≡ p + 1
  end_bad zero p l h e = absurd (omega arith)
  end_bad (suc n) p l h e = end-suc n p (lt-ltb p (length s) h) e

  pub end_more : (n p : ℕ) → 0 < n → p < length s → address_ok s p ≡ true → address_end s n p ≡ address_end s (n - 1) (behind p)
  end_more zero p l h e = absurd (omega arith)
  end_more (suc n) p l h e =
      let q : n ≡ suc n - 1 = omega arith in
      end-suc n p (lt-ltb p (length s) h) e ∙ ap (λ (k : ℕ). address_end s k (behind p)) q

  pub end-within : (n p : ℕ) → p ≤ length s → address_end s n p ≤ length s
  unfolding address_end
  end-within zero p h = h
  end-within (suc n) p h =
      let P : ℕ → Type 0 = λ (k : ℕ). k ≤ length s in
      pick_elim P (ltb p (length s))
      (λ l. pick_elim P (address_ok s p) (λ e. end-within n (behind p) (there p e)) (λ e. let z = ltb-true p (length s) l in omega (arith, z))) (λ l. h)

  -- ---- the member: none where the first is not there or not right
  pub none-zero : (n p : ℕ) → n ≡ 0 → none ≡ in_list k_addresses (address_items s n p)
  none-zero n p h = sym (ap (in_list k_addresses) (ap (λ (k : ℕ). address_items s k p) h ∙ items-zero p))

  pub none-past : (n p : ℕ) → length s ≤ p → none ≡ in_list k_addresses (address_items s n p)
  none-past n p h = sym (ap (in_list k_addresses) (items-past n p h))

  pub none_bad : (n p : ℕ) → p < length s → address_ok s p ≡ false → none ≡ in_list k_addresses (address_items s n p)
  none_bad n p h e = sym (ap (in_list k_addresses) (items_bad n p h e))

  pub some-address : (n p : ℕ) → (n ≡ 0 → ⊥) → p < length s → address_ok s p ≡ true → group false k_addresses (address_items s n p) none ≡ in_list k_addresses (address_items s n p)
  some-address n p z h e = let l : 0 < n = omega (arith, z) in rw (items_more n p l h e) refl
