-- The members of a PDU's record, by the tests that are made for them.
use Prim.Native.Nat.{ℕ, ◌-◌, ◌≤◌, ◌<◌}
use mathlib.Core.Path.{◌≡◌, refl, sym, ap, ◌∙◌}
use mathlib.Core.List.{List}
use mathlib.Core.Bool.{Bool, ◌&&◌, ◌||◌}
use native.Mathlib.Omega.{arith}
use borrow.Author.Tests.{eq-eqb, ne_eqb, lt-ltb, le-ltb, ltb-true}
use Rattle.octets.proofs.Tests.{and_right}
use lib.Dec.{ltb, eqb}
use lib.ListN.{length, get_or, take, drop, get_or-eq_default}
use Rattle.octets.specs.Text.{pick}
use Rattle.octets.specs.Read.{be16}
use Rattle.octets.proofs.Picks.{pick_elim, pick_yes, pick_no}
use Rattle.names.specs.Numbers.{k_protocol, k_payload_len, k_type, k_holding_time_s, k_addresses, k_options, t_es_is}
use Rattle.cells.specs.Items.{Items, none, leaf, number, text, in_list, ◌⊕◌}
use Rattle.cells.proofs.Answers.{rest}
use Rattle.esis.specs.Pdu.{type_code, type_of, address_items, address_count, addresses_at, option_items, options_at, option_member, head_members, members_of}

module _ (s : List ℕ) where
  -- ---- how many addresses, and where
  abbrev count_by : Bool → Bool → ℕ
  count_by a b = pick a (get_or s 9 0) (pick b 1 0)

  count-is : {a b : Bool} → eqb (type_code s) 2 ≡ a → eqb (type_code s) 4 ≡ b → count_by a b ≡ address_count s
  count-is {a} e f = sym (ap (λ (x : Bool). count_by x (eqb (type_code s) 4)) e ∙ ap (count_by a) f)

  pub count_esh : type_code s ≡ 2 → get_or s 9 0 ≡ address_count s
  count_esh h = count-is (eq-eqb (type_code s) 2 h) refl

  pub count-short : type_code s ≡ 2 → length s ≤ 9 → 0 ≡ address_count s
  count-short h l = sym (get_or-eq_default s 0 l) ∙ count_esh h

  pub count_ish : (type_code s ≡ 2 → ⊥) → type_code s ≡ 4 → 1 ≡ address_count s
  count_ish h k = count-is (ne_eqb (type_code s) 2 h) (eq-eqb (type_code s) 4 k)

  pub count_none : (type_code s ≡ 2 → ⊥) → (type_code s ≡ 4 → ⊥) → 0 ≡ address_count s
  count_none h k = count-is (ne_eqb (type_code s) 2 h) (ne_eqb (type_code s) 4 k)

  abbrev place_by : Bool → Bool → ℕ
  place_by a b = pick (a && b) 10 9

  place_is : {a b : Bool} → eqb (type_code s) 2 ≡ a → ltb 9 (length s) ≡ b → place_by a b ≡ addresses_at s
  place_is {a} e f = sym (ap (λ (x : Bool). place_by x (ltb 9 (length s))) e ∙ ap (place_by a) f)

  pub place_esh : type_code s ≡ 2 → 9 < length s → 10 ≡ addresses_at s
  place_esh h l = place_is (eq-eqb (type_code s) 2 h) (lt-ltb 9 (length s) l)

  pub place_short : type_code s ≡ 2 → length s ≤ 9 → 9 ≡ addresses_at s
  place_short h l = place_is (eq-eqb (type_code s) 2 h) (le-ltb 9 (length s) l)

  pub place_other : (type_code s ≡ 2 → ⊥) → 9 ≡ addresses_at s
  place_other h = place_is (ne_eqb (type_code s) 2 h) refl

  pub place-within : 9 ≤ length s → addresses_at s ≤ length s
  place-within h =
      pick_elim (λ (k : ℕ). k ≤ length s) (eqb (type_code s) 2 && ltb 9 (length s))
      (λ e. let l = ltb-true 9 (length s) (and_right (eqb (type_code s) 2) (ltb 9 (length s)) e) in omega (arith, l)) (λ e. h)

  -- ---- options
  abbrev pub options_from : ℕ → Items
  options_from p = in_list k_options (option_items p (drop p s))

  abbrev member_by : Bool → Bool → Items
  member_by a b = pick (a || b) (options_from (options_at s)) none

  member_is : {a b : Bool} → eqb (type_code s) 2 ≡ a → eqb (type_code s) 4 ≡ b → member_by a b ≡ option_member s
  member_is {a} e f = sym (ap (λ (x : Bool). member_by x (eqb (type_code s) 4)) e ∙ ap (member_by a) f)

  part-is : (p : ℕ) → p ≡ options_at s → in_list k_options (option_items p (take (length s - p) (drop p s))) ≡ options_from (options_at s)
  part-is p e = ap (λ (l : List ℕ). in_list k_options (option_items p l)) (rest p s) ∙ ap options_from e

  pub member_read_esh : type_code s ≡ 2 → option_member s ≡ options_from (options_at s)
  member_read_esh h = sym (member_is (eq-eqb (type_code s) 2 h) refl)

  pub member_read_ish : (type_code s ≡ 2 → ⊥) → type_code s ≡ 4 → option_member s ≡ options_from (options_at s)
  member_read_ish h k = sym (member_is (ne_eqb (type_code s) 2 h) (eq-eqb (type_code s) 4 k))

  pub member_esh : (p : ℕ) → p ≡ options_at s → type_code s ≡ 2 → in_list k_options (option_items p (take (length s - p) (drop p s))) ≡ option_member s
  member_esh p e h = part-is p e ∙ sym (member_read_esh h)

  pub member_ish : (p : ℕ) → p ≡ options_at s → (type_code s ≡ 2 → ⊥) → type_code s ≡ 4 → in_list k_options (option_items p (take (length s - p) (drop p s))) ≡ option_member s
  member_ish p e h k = part-is p e ∙ sym (member_read_ish h k)

  pub member_none : (type_code s ≡ 2 → ⊥) → (type_code s ≡ 4 → ⊥) → none ≡ option_member s
  member_none h k = member_is (ne_eqb (type_code s) 2 h) (ne_eqb (type_code s) 4 k)

  -- ---- all of them
  abbrev pub head_of : Items
  head_of = leaf k_type (text (type_of (type_code s))) none ⊕ leaf k_holding_time_s (number (be16 (get_or s 5 0) (get_or s 6 0))) none

  abbrev pub addresses_of : Items
  addresses_of = in_list k_addresses (address_items s (address_count s) (addresses_at s))

  abbrev pub first : Items
  first = leaf k_protocol (text t_es_is) none ⊕ leaf k_payload_len (number (length s)) none

  pub short_members : length s < 9 → first ≡ members_of s
  unfolding members_of
  short_members h = sym (ap (λ (x : Items). first ⊕ x) (pick_yes none (head_members s) (lt-ltb (length s) 9 h)))

  pub long_members : 9 ≤ length s → first ⊕ head_members s ≡ members_of s
  unfolding members_of
  long_members h = sym (ap (λ (x : Items). first ⊕ x) (pick_no none (head_members s) (le-ltb (length s) 9 h)))
