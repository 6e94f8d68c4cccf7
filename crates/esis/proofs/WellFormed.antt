-- The cells of a PDU read back as its record.
use Prim.Native.Nat.{ℕ, zero, suc, ◌+◌, ◌*◌, ◌≤◌, ◌<◌}
use mathlib.Core.Path.{◌≡◌, refl, sym, ap, subst, ◌∙◌}
use mathlib.Core.List.{List}
use mathlib.Core.Bool.{true, false, ◌||◌}
use mathlib.Core.Option.{some}
use native.Mathlib.Nat.{lt_of_not-le}
use native.Mathlib.Decide.{dec_le}
use native.Mathlib.Omega.{arith}
use lib.Dec.{eqb, ltb}
use lib.ListN.{length, get_or, drop, length-drop}
use Rattle.octets.proofs.Picks.{pick_elim}
use Rattle.names.specs.Ascii.{octets}
use Rattle.names.specs.Place.{same, place_from}
use Rattle.names.specs.Texts.{texts, number_of}
use Rattle.names.specs.Numbers.{last_text, k_addresses, k_options}
use Rattle.codes.specs.Codes.{name_in, text_in, esis_options}
use Rattle.cells.specs.Items.{Items, none, ◌⊕◌}
use Rattle.cells.specs.Read.{items_of}
use Rattle.cells.specs.Good.{GoodRow, Good}
use Rattle.cells.specs.Walk.{step_of}
use Rattle.std.specs.Prelude.{Option, Some, None}
use Rattle.cells.specs.declared.entry.Body.{Body}
use Rattle.cells.proofs.Rows.{good-⊕, good_in_list}
use Rattle.cells.proofs.Walks.{Each, all}
use Rattle.cells.proofs.WellFormed.{reads-back}
use Rattle.fields.specs.Tlv.{tlv_at}
use Rattle.fields.proofs.Tlvs.{Whole, tlv_whole}
use Rattle.fields.proofs.Goods.{Octets, drop-small}
use Rattle.esis.specs.Pdu.{type_code, type_of, address_ok, address_items, address_count, addresses_at, option, option_step, option_items, options_at, option_member, head_members, members_of, esis_cells}
use Rattle.esis.proofs.Addresses.{behind, there, end-within}
use Rattle.esis.proofs.Records.{first, head_of, addresses_of, place-within, short_members, long_members}
use Rattle.esis.proofs.Cells.{cells_are}

-- ---- text numbers are listed
abbrev Listed : ℕ → Type 0
Listed t = (0 < t) × (t ≤ last_text)

type-listed : (t : ℕ) → Listed (type_of t)
type-listed t =
    pick_elim Listed (eqb t 2) (λ h. (omega arith, omega arith))
    (λ h. pick_elim Listed (eqb t 4) (λ h. (omega arith, omega arith)) (λ h. pick_elim Listed (eqb t 6) (λ h. (omega arith, omega arith)) (λ h. (omega arith, omega arith))))

by_number : {t : ℕ} (n : ℕ) → t ≡ n → Listed n → Listed t
by_number n e w = (omega (arith, e, w.0), omega (arith, e, w.1))

option-listed : (t : ℕ) → Listed (text_in esis_options (octets "unknown") t)
unfolding text_in name_in esis_options number_of place_from same texts
option-listed t =
    let P : List ℕ → Type 0 = λ (x : List ℕ). Listed (number_of x) in
    pick_elim P (eqb t 0x81) (λ h. by_number 138 refl (omega arith, omega arith))
    (λ h. pick_elim P (eqb t 0x88) (λ h. by_number 139 refl (omega arith, omega arith))
    (λ h. pick_elim P (eqb t 0xCF) (λ h. by_number 140 refl (omega arith, omega arith))
    (λ h. pick_elim P (eqb t 0xC5) (λ h. by_number 141 refl (omega arith, omega arith)) (λ h. by_number 142 refl (omega arith, omega arith)))))

-- ---- addresses
pub addresses-good : (s : List ℕ) (n p : ℕ) → GoodRow (length s) false 2 (address_items s n p)
unfolding address_items
addresses-good s zero p = tt
addresses-good s (suc n) p =
    pick_elim (GoodRow (length s) false 2) (ltb p (length s))
    (λ l. pick_elim (GoodRow (length s) false 2) (address_ok s p) (λ e. (omega arith, refl, there s p e, addresses-good s n (behind s p))) (λ e. tt)) (λ l. tt)

-- ---- options
module _ (n base : ℕ) (s : List ℕ) (small : Octets s) (within : base + length s ≤ n) where
  abbrev fine : Items → Type 0
  fine c = GoodRow n false 2 c

  each-option : (i : ℕ) (e : Option Body) → Whole s i e
      → Each (option_step base s) (λ k. none) ◌⊕◌ (length s) fine fine (λ k. tt) (λ c r q g. good-⊕ n false 2 c r q g) (step_of (λ start len. option (get_or s i 0) (base + start) len) e)
  each-option i None w = tt
  each-option i (Some b) w =
      let low : get_or s i 0 < 4294967296 = omega (arith, small i) in (
        omega arith,
        refl,
        (
          omega arith,
          (omega arith, omega arith),
          option-listed (get_or s i 0),
          (omega arith, (omega arith, omega arith), low, (omega arith, (omega arith, omega arith), omega (arith, within, w.2), tt)),
        ),
        tt,
      )

  pub options-good : GoodRow n false 2 (option_items base s)
  options-good = all (option_step base s) (λ k. none) ◌⊕◌ (length s) fine fine (λ k. tt) (λ c r q g. good-⊕ n false 2 c r q g) (λ i l. each-option i (tlv_at s i) (tlv_whole s i))

-- ---- the record
module _ (s : List ℕ) (small : Octets s) (short : length s ≤ 65535) where
  abbrev row : Items → Type 0
  row x = GoodRow (length s) true 1 x

  first_good : row (first s)
  first_good = (omega arith, (omega arith, omega arith), (omega arith, omega arith), (omega arith, (omega arith, omega arith), omega arith, tt))

  head-good : row (head_of s)
  head-good =
      let low : get_or s 5 0 * 256 + get_or s 6 0 < 4294967296 = omega (arith, small 5, small 6) in
      (omega arith, (omega arith, omega arith), type-listed (type_code s), (omega arith, (omega arith, omega arith), low, tt))

  addresses-row : row (addresses_of s)
  addresses-row =
      good_in_list (length s) true 1 k_addresses (address_items s (address_count s) (addresses_at s)) (omega arith) (omega arith, omega arith) (addresses-good s (address_count s) (addresses_at s))

  member_good : 9 ≤ length s → row (option_member s)
  member_good h =
      let p = options_at s in
      let l : p + length (drop p s) ≤ length s = omega (arith, end-within s (address_count s) (addresses_at s) (place-within s h), length-drop p s) in
      pick_elim row (eqb (type_code s) 2 || eqb (type_code s) 4)
      (λ e. good_in_list (length s) true 1 k_options (option_items p (drop p s)) (omega arith) (omega arith, omega arith) (options-good (length s) p (drop p s) (drop-small p s small) l)) (λ e. tt)

  members_good : 9 ≤ length s → row (head_members s)
  members_good h =
      good-⊕ (length s) true 1 (head_of s) (addresses_of s ⊕ option_member s) head-good (good-⊕ (length s) true 1 (addresses_of s) (option_member s) addresses-row (member_good h))

  pub good_members : Good (length s) (members_of s)
  good_members = elim (dec_le 9 (length s)) [
    | yes h ↦ subst row (long_members s h) (good-⊕ (length s) true 1 (first s) (head_members s) first_good (members_good h))
    | no h ↦ subst row (short_members s (lt_of_not-le h)) first_good
  ]

  pub esis_reads-back : items_of (length s) (esis_cells s) ≡ some (members_of s)
  esis_reads-back = ap (items_of (length s)) (sym (cells_are s)) ∙ reads-back (length s) (members_of s) (omega arith) good_members
