-- How many cells a PDU's record has at most, so that an output with that many is never short.
use Prim.Native.Nat.{ℕ, zero, suc, ◌+◌, ◌*◌, ◌-◌, ◌≤◌}
use mathlib.Core.Path.{◌≡◌, refl, sym, ap, subst, ◌∙◌}
use mathlib.Core.List.{List, [], ◌++◌}
use mathlib.Core.Bool.{Bool, true, false, ◌||◌}
use native.Mathlib.Nat.{lt_of_not-le}
use native.Mathlib.Decide.{dec_le}
use native.Mathlib.Omega.{arith}
use lib.Dec.{eqb, ltb}
use lib.ListN.{length, get_or, drop, length-append, length-drop}
use Rattle.octets.specs.Text.{pick}
use Rattle.octets.proofs.Picks.{pick_elim}
use Rattle.names.specs.Ascii.{octets}
use Rattle.names.specs.Numbers.{k_type, k_addresses, k_options, k_type_code, k_value_hex}
use Rattle.codes.specs.Codes.{text_in, esis_options}
use Rattle.cells.specs.Items.{Items, none, leaf, number, part, text, record_of, ◌⊕◌, flat}
use Rattle.cells.specs.Answer.{number_of, answer_to}
use Rattle.cells.specs.Walk.{step_of}
use Rattle.std.specs.Prelude.{Option, Some, None}
use Rattle.cells.specs.declared.entry.Body.{Body}
use Rattle.cells.proofs.Rows.{group-size, in_list_thin}
use Rattle.cells.proofs.Walks.{Thin, thin, fuse, flat_walk}
use Rattle.cells.proofs.Answers.{enough}
use Rattle.fields.specs.Tlv.{tlv_at}
use Rattle.fields.proofs.Tlvs.{Whole, tlv_whole}
use Rattle.fields.proofs.Sizes.{size, rows, empty, one}
use Rattle.esis.specs.Pdu.{type_code, address_ok, address_items, address_end, address_count, addresses_at, option, option_step, option_items, options_at, option_member, head_members, members_of, esis_cells}
use Rattle.esis.proofs.Addresses.{behind, address, end-within}
use Rattle.esis.proofs.Records.{first, head_of, addresses_of, place-within, short_members, long_members}

-- ---- addresses: a cell for each length octet
one-thin : (d : ℕ) (s : List ℕ) (p e : ℕ) (xs : Items) (a b : Bool) → size d xs + behind s p ≤ e
    → size d (pick a (pick b (address s p ⊕ xs) none) none) + p ≤ pick a (pick b e (p + 1)) p
one-thin d s p e xs true true h = omega (arith, rows d (address s p) xs, one d 0 (part (p + 1) (get_or s p 0)), h)
one-thin d s p e xs true false h = omega (arith, empty d)
one-thin d s p e xs false b h = omega (arith, empty d)

pub addresses-thin : (d : ℕ) (s : List ℕ) (n p : ℕ) → size d (address_items s n p) + p ≤ address_end s n p
unfolding address_items address_end
addresses-thin d s zero p = omega (arith, empty d)
addresses-thin d s (suc n) p =
    one-thin d s p (address_end s n (behind s p)) (address_items s n (behind s p)) (ltb p (length s)) (address_ok s p) (addresses-thin d s n (behind s p))

-- ---- options: five cells each, and two octets at least
option-thin : (d t at n : ℕ) → size d (option t at n) ≡ 5
option-thin d t at n =
    let a : Items = leaf k_type (text (text_in esis_options (octets "unknown") t)) none in
    let b : Items = leaf k_type_code (number t) none in
    let c : Items = leaf k_value_hex (part at n) none in
    omega (arith, group-size d true 0 (a ⊕ (b ⊕ c)), rows (d + 1) a (b ⊕ c), rows (d + 1) b c, one (d + 1) k_type (text (text_in esis_options (octets "unknown") t)), one (d + 1) k_type_code (number t), one (d + 1) k_value_hex (part at n))

option-step : (d base : ℕ) (s : List ℕ) (i : ℕ) (e : Option Body) → Whole s i e
    → Thin (option_step base s) (λ c. length (flat d c)) 4 (length s) i (step_of (λ start n. option (get_or s i 0) (base + start) n) e)
option-step d base s i None w = tt
option-step d base s i (Some b) w = (omega (arith, w.0), w.2, omega (arith, w.0, option-thin d (get_or s i 0) (base + b.start) b.len))

pub options-thin : (d base : ℕ) (s : List ℕ) → length (flat d (option_items base s)) ≤ 4 * length s
options-thin d base s =
    let e = ap length (flat_walk d (option_step base s) (length s) 0)
    ∙ fuse (option_step base s) (λ n. []) (λ c r. flat d c ++ r) (λ n. 0) (λ c r. length (flat d c) + r) length (λ n. refl) (λ c r. length-append (flat d c) r) (length s) 0 in
    subst (λ (n : ℕ). n ≤ 4 * length s) (sym e)
    (thin (option_step base s) (λ c. length (flat d c)) 4 (length s) (λ i h. option-step d base s i (tlv_at s i) (tlv_whole s i)))

-- ---- the record
module _ (s : List ℕ) where
  member_thin : size 1 (option_member s) ≤ 4 * (length s - options_at s) + 2
  member_thin =
      let p = options_at s in
      pick_elim (λ (x : Items). size 1 x ≤ 4 * (length s - p) + 2) (eqb (type_code s) 2 || eqb (type_code s) 4)
      (λ e. omega (arith, in_list_thin 1 k_options (option_items p (drop p s)), options-thin 2 p (drop p s), length-drop p s)) (λ e. omega (arith, empty 1))

  first-size : size 1 (first s) ≡ 2
  unfolding flat
  first-size = refl

  head-size : size 1 (head_of s) ≡ 2
  unfolding flat
  head-size = refl

  members_thin : 9 ≤ length s → size 1 (head_members s) ≤ 4 * length s + 6
  members_thin h =
      let a : Items = addresses_of s in
      let xs : Items = address_items s (address_count s) (addresses_at s) in
      omega (
        arith,
        rows 1 (head_of s) (a ⊕ option_member s),
        rows 1 a (option_member s),
        head-size,
        in_list_thin 1 k_addresses xs,
        addresses-thin 2 s (address_count s) (addresses_at s),
        end-within s (address_count s) (addresses_at s) (place-within s h),
        member_thin,
      )

  pub record_thin : length (flat 0 (record_of (members_of s))) ≤ 4 * length s + 64
  record_thin = elim (dec_le 9 (length s)) [
    | yes h ↦ omega (arith, group-size 0 true 0 (members_of s), ap (size 1) (long_members s h), rows 1 (first s) (head_members s), first-size, members_thin h)
    | no h ↦ omega (arith, group-size 0 true 0 (members_of s), ap (size 1) (short_members s (lt_of_not-le h)), first-size)
  ]

  pub esis_thin : length (esis_cells s) ≤ 4 * length s + 64
  unfolding esis_cells
  esis_thin = record_thin

-- with four cells for each octet and 64 more the answer is not 10
pub never_short : (s : List ℕ) (room : ℕ) → 4 * length s + 64 ≤ room → number_of (answer_to (length s) (esis_cells s) room) ≡ 10 → ⊥
never_short s room h e = enough (length s) (esis_cells s) room (omega (arith, esis_thin s)) e
