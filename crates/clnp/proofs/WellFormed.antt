-- The cells of a readable PDU read back as its record.
use Prim.Native.Nat.{ℕ, ◌+◌, ◌*◌, ◌-◌, ◌/◌, ◌%◌, ◌≤◌, ◌<◌}
use mathlib.Core.Path.{◌≡◌, refl, sym, ap, subst, ◌∙◌}
use mathlib.Core.List.{List, []}
use mathlib.Core.Bool.{true, false, ◌&&◌, ◌||◌}
use mathlib.Core.Option.{some}
use native.Mathlib.Nat.{min-le_left, min-le_right, lt_of_not-le}
use native.Mathlib.Decide.{dec_le}
use native.Mathlib.Omega.{arith}
use borrow.Author.Tests.{eqb-false, ltb-true, ltb-false}
use lib.Dec.{eqb, ltb}
use lib.ListN.{length, get_or, take, drop, length-take, length-drop}
use Rattle.octets.proofs.Tests.{and_left, and_right}
use Rattle.octets.proofs.Picks.{pick_elim}
use Rattle.names.specs.Numbers.{last_text, k_class_name, k_subnet_name, k_sec_info, k_name, k_options, k_segmented}
use Rattle.codes.specs.Codes.{Row, text_in, traffic_types, atsc_classes, subnets, security_classes, clnp_options}
use Rattle.codes.proofs.Lows.{text-low}
use Rattle.cells.specs.Items.{Items, none, group, ◌⊕◌}
use Rattle.cells.specs.Read.{items_of}
use Rattle.cells.specs.Good.{Key, GoodRow, Good}
use Rattle.cells.specs.Walk.{step_of}
use Rattle.std.specs.Prelude.{Option, Some, None}
use Rattle.cells.specs.declared.entry.Body.{Body}
use Rattle.cells.proofs.Rows.{good-⊕, good_in_list}
use Rattle.cells.proofs.Walks.{Each, all}
use Rattle.cells.proofs.WellFormed.{reads-back}
use Rattle.fields.specs.Tlv.{tlv_at}
use Rattle.fields.specs.Member.{opt_text}
use Rattle.fields.proofs.Tlvs as tlvs
use Rattle.fields.proofs.Goods.{Octets, text-good, yes_good, take-small, drop-small}
use Rattle.cotp.specs.Tpdu as cotp
use Rattle.cotp.specs.declared.tpdu.Head.{Head}
use Rattle.cotp.proofs.WellFormed as cotp-good
use Rattle.clnp.specs.Segment.{headed, sp, seg_at, addresses_of}
use Rattle.clnp.specs.Label.{bit_name, bit_names, traffic_name, category_name, tag_members, tag, tag_at, tag_step, tag_items, info_part, label_members}
use Rattle.clnp.specs.Options.{option_value, option, option_step, option_items}
use Rattle.clnp.specs.Pdu.{type_of, has_segment, offset_of, segmented, segment_members, flag_members, options_at, option_part, cotp_member, data_member, address_members, members_of, has_addresses, clnp_cells}
use Rattle.clnp.specs.declared.segment.Addresses.{Addresses}
use Rattle.clnp.proofs.Headers.{full}
use Rattle.clnp.proofs.Tags.{Whole, tag-whole, low_of, high_of, bits_are}
use Rattle.clnp.proofs.Records.{Inside, inside, no_options, head_of, options_of, rest_of, members_are}
use Rattle.clnp.proofs.Cells.{cells_are}

-- ---- text numbers are listed
abbrev Listed : ℕ → Type 0
Listed t = (0 < t) × (t ≤ last_text)

traffic-listed : (v : ℕ) → Listed (traffic_name v)
traffic-listed v =
    pick_elim Listed (eqb (v / 32) 0) (λ h. (omega arith, omega arith))
    (λ h. pick_elim Listed (eqb v 0x30) (λ h. (omega arith, omega arith))
    (λ h. pick_elim Listed (eqb (v / 32) 1) (λ h. (omega arith, omega arith)) (λ h. pick_elim Listed (eqb (v / 32) 3) (λ h. (omega arith, omega arith)) (λ h. (omega arith, omega arith)))))

category_listed : (v : ℕ) → Listed (category_name v)
category_listed v =
    pick_elim Listed (eqb (v / 32) 0) (λ h. (omega arith, omega arith))
    (λ h. pick_elim Listed (eqb v 0x30) (λ h. (omega arith, omega arith))
    (λ h. pick_elim Listed (eqb (v / 32) 1) (λ h. (omega arith, omega arith)) (λ h. pick_elim Listed (eqb (v / 32) 3) (λ h. (omega arith, omega arith)) (λ h. (omega arith, omega arith)))))

type-listed : (t : ℕ) → Listed (type_of t)
type-listed t =
    pick_elim Listed (eqb t 0x1C) (λ h. (omega arith, omega arith))
    (λ h. pick_elim Listed (eqb t 0x1E) (λ h. (omega arith, omega arith))
    (λ h. pick_elim Listed (eqb t 0x1F) (λ h. (omega arith, omega arith)) (λ h. pick_elim Listed (eqb t 0x01) (λ h. (omega arith, omega arith)) (λ h. (omega arith, omega arith)))))

-- ---- rows are good, for an input of n octets
module _ (n : ℕ) where
  bit_good : (r : List Row) (o bit : ℕ) → GoodRow n false 7 (bit_name r o bit)
  bit_good r o bit =
      pick_elim (GoodRow n false 7) (eqb (o / bit % 2) 1)
      (λ h. pick_elim (GoodRow n false 7) (eqb (text_in r [] bit) 0) (λ e. tt)
      (λ e. let z : text_in r [] bit ≡ 0 → ⊥ = eqb-false (text_in r [] bit) 0 e in let p : 0 < text_in r [] bit = omega (arith, z) in (omega arith, refl, (p, text-low r [] bit), tt))) (λ h. tt)

  half-good : (a b c e : Items) → GoodRow n false 7 a → GoodRow n false 7 b → GoodRow n false 7 c → GoodRow n false 7 e → GoodRow n false 7 (a ⊕ (b ⊕ (c ⊕ e)))
  half-good a b c e p q r o = good-⊕ n false 7 a (b ⊕ (c ⊕ e)) p (good-⊕ n false 7 b (c ⊕ e) q (good-⊕ n false 7 c e r o))

  bits-good : (r : List Row) (o : ℕ) → GoodRow n false 7 (bit_names r o)
  bits-good r o =
      subst (GoodRow n false 7) (bits_are r o)
      (good-⊕ n false 7 (low_of r o) (high_of r o)
      (half-good (bit_name r o 1) (bit_name r o 2) (bit_name r o 4) (bit_name r o 8) (bit_good r o 1) (bit_good r o 2) (bit_good r o 4) (bit_good r o 8))
      (half-good (bit_name r o 16) (bit_name r o 32) (bit_name r o 64) (bit_name r o 128) (bit_good r o 16) (bit_good r o 32) (bit_good r o 64) (bit_good r o 128)))

  list_good : (f : ℕ) (r : List Row) (o : ℕ) → Key true f → GoodRow n true 6 (group false f (bit_names r o) none)
  list_good f r o k = (omega arith, k, bits-good r o, tt)

  module _ (base : ℕ) (s : List ℕ) (small : Octets s) where
    members_good : (name i len : ℕ) → base + i + len ≤ n → GoodRow n true 6 (tag_members base s name i len)
    unfolding tag_members
    members_good name i len h =
        let v = get_or s i 0 in
        let low : v < 4294967296 = omega (arith, small i) in
        let named : Items = opt_text k_subnet_name (text_in subnets [] v) in
        pick_elim (GoodRow n true 6) (eqb name 0x03 && eqb len 1)
        (λ e. (omega arith, (omega arith, omega arith), (omega arith, omega arith), (omega arith, (omega arith, omega arith), low, text-good n 6 k_class_name (text_in security_classes [] v) (omega arith) (omega arith, omega arith) (text-low security_classes [] v))))
        (λ e. pick_elim (GoodRow n true 6) (eqb name 0x05 && eqb len 2)
        (λ e. (
          omega arith,
          (omega arith, omega arith),
          (omega arith, omega arith),
          (
            omega arith,
            (omega arith, omega arith),
            low,
            good-⊕ n true 6 named (group false 53 (bit_names traffic_types (get_or s (i + 1) 0)) none) (text-good n 6 k_subnet_name (text_in subnets [] v) (omega arith) (omega arith, omega arith) (text-low subnets [] v)) (list_good 53 traffic_types (get_or s (i + 1) 0) (omega arith, omega arith)),
          ),
        ))
        (λ e. pick_elim (GoodRow n true 6) ((eqb name 0x06 || eqb name 0x07) && eqb len 1)
        (λ e. (omega arith, (omega arith, omega arith), (omega arith, omega arith), list_good 54 atsc_classes v (omega arith, omega arith)))
        (λ e. pick_elim (GoodRow n true 6) (eqb name 0x0F && ltb 0 len)
        (λ e. (omega arith, (omega arith, omega arith), (omega arith, omega arith), (omega arith, (omega arith, omega arith), traffic-listed v, (omega arith, (omega arith, omega arith), category_listed v, (omega arith, (omega arith, omega arith), omega arith, tt)))))
        (λ e. (omega arith, (omega arith, omega arith), h, tt)))))

    abbrev good : Items → Type 0
    good c = GoodRow n false 5 c

    each : base + length s ≤ n → (i : ℕ) (e : Option Body) → Whole s i e
        → Each (tag_step base s) (λ k. none) ◌⊕◌ (length s) good good (λ k. tt) (λ c r q g. good-⊕ n false 5 c r q g) (step_of (λ start len. tag base s (get_or s (i + 1) 0) start len) e)
    each h i None w = tt
    each h i (Some b) w =
        let low : get_or s (i + 1) 0 < 4294967296 = omega (arith, small (i + 1)) in
        (omega arith, refl, (omega arith, (omega arith, omega arith), low, members_good (get_or s (i + 1) 0) b.start b.len (omega (arith, w.1, h))), tt)

    pub tags_good : base + length s ≤ n → GoodRow n false 5 (tag_items base s)
    tags_good h = all (tag_step base s) (λ k. none) ◌⊕◌ (length s) good good (λ k. tt) (λ c r q g. good-⊕ n false 5 c r q g) (λ i l. each h i (tag_at s i) (tag-whole s i))

  label_good : (base : ℕ) (s : List ℕ) → Octets s → base + length s ≤ n → GoodRow n true 4 (label_members base s)
  unfolding label_members
  label_good base s small h =
      let m = get_or s 0 0 in
      let p : List ℕ = info_part s (1 + m) in
      pick_elim (GoodRow n true 4) (eqb (length s) 0) (λ e. tt)
      (λ e. pick_elim (GoodRow n true 4) (ltb (length s) (1 + m)) (λ e. tt)
      (λ l. (
        omega arith,
        (omega arith, omega arith),
        omega (arith, h, ltb-false (length s) (1 + m) l),
        pick_elim (GoodRow n true 4) (ltb (1 + m) (length s))
            (λ t. let w : base + (1 + m) + 1 + length p ≤ n =
            omega (arith, h, ltb-true (1 + m) (length s) t, length-take (get_or s (1 + m) 0) (drop (1 + m + 1) s), length-drop (1 + m + 1) s, min-le_right (get_or s (1 + m) 0) (length (drop (1 + m + 1) s))) in
            good_in_list n true 4 k_sec_info (tag_items (base + (1 + m) + 1) p) (omega arith) (omega arith, omega arith)
            (tags_good (base + (1 + m) + 1) p (take-small (get_or s (1 + m) 0) (drop (1 + m + 1) s) (drop-small (1 + m + 1) s small)) w)) (λ t. tt),
      )))

  module _ (base : ℕ) (s : List ℕ) (small : Octets s) (within : base + length s ≤ n) where
    value-good : (t i len : ℕ) → i + len ≤ length s → GoodRow n true 3 (option_value base s t i len)
    unfolding option_value
    value-good t i len h =
        let v = get_or s i 0 in
        let low : v < 4294967296 = omega (arith, small i) in
        let p : List ℕ = take (len - 1) (drop (i + 1) s) in
        pick_elim (GoodRow n true 3) (eqb t 0xCD && eqb len 1) (λ e. (omega arith, (omega arith, omega arith), low, tt))
        (λ e. pick_elim (GoodRow n true 3) (eqb t 0xC1 && eqb len 1) (λ e. (omega arith, (omega arith, omega arith), low, tt))
        (λ e. pick_elim (GoodRow n true 3) (eqb t 0xC5 && (ltb 0 len && eqb v 0xC0))
        (λ e. let some : 0 < len = ltb-true 0 len (and_left (ltb 0 len) (eqb v 0xC0) (and_right (eqb t 0xC5) (ltb 0 len && eqb v 0xC0) e)) in
        let w : base + i + 1 + length p ≤ n = omega (arith, within, h, some, length-take (len - 1) (drop (i + 1) s), min-le_left (len - 1) (length (drop (i + 1) s))) in
        (omega arith, (omega arith, omega arith), (omega arith, omega arith), (omega arith, (omega arith, omega arith), label_good (base + i + 1) p (take-small (len - 1) (drop (i + 1) s) (drop-small (i + 1) s small)) w, tt)))
        (λ e. (omega arith, (omega arith, omega arith), omega (arith, within, h), tt))))

    abbrev fine : Items → Type 0
    fine c = GoodRow n false 2 c

    each-option : (i : ℕ) (e : Option Body) → tlvs.Whole s i e
        → Each (option_step base s) (λ k. none) ◌⊕◌ (length s) fine fine (λ k. tt) (λ c r q g. good-⊕ n false 2 c r q g) (step_of (λ start len. option base s (get_or s i 0) start len) e)
    each-option i None w = tt
    each-option i (Some b) w =
        let t = get_or s i 0 in
        let name : Items = opt_text k_name (text_in clnp_options [] t) in (
          omega arith,
          refl,
          (
            omega arith,
            (omega arith, omega arith),
            small i,
            good-⊕ n true 3 name (option_value base s t b.start b.len) (text-good n 3 k_name (text_in clnp_options [] t) (omega arith) (omega arith, omega arith) (text-low clnp_options [] t)) (value-good t b.start b.len w.2),
          ),
          tt,
        )

    pub options-good : GoodRow n false 2 (option_items base s)
    options-good = all (option_step base s) (λ k. none) ◌⊕◌ (length s) fine fine (λ k. tt) (λ c r q g. good-⊕ n false 2 c r q g) (λ i l. each-option i (tlv_at s i) (tlvs.tlv_whole s i))

-- ---- the record
address-good : (s : List ℕ) (a : Option Addresses) → Inside s a → GoodRow (length s) true 1 (address_members a)
address-good s None w = tt
address-good s (Some a) w = (omega arith, (omega arith, omega arith), w.0, (omega arith, (omega arith, omega arith), w.1, tt))

module _ (s : List ℕ) (small : Octets s) (short : length s ≤ 65535) (readable : (headed s && has_addresses (addresses_of s)) ≡ true) where
  abbrev row : Items → Type 0
  row x = GoodRow (length s) true 1 x

  header : get_or s 1 0 ≤ length s
  header = (full s (and_left (headed s) (has_addresses (addresses_of s)) readable)).2

  two-low : (i j : ℕ) → get_or s i 0 * 256 + get_or s j 0 < 4294967296
  two-low i j = omega (arith, small i, small j)

  one-low : (i : ℕ) → get_or s i 0 < 4294967296
  one-low i = omega (arith, small i)

  head-good : row (head_of s)
  head-good = (
    omega arith,
    (omega arith, omega arith),
    (omega arith, omega arith),
    (
      omega arith,
      (omega arith, omega arith),
      type-listed (get_or s 4 0 % 32),
      (
        omega arith,
        (omega arith, omega arith),
        one-low 2,
        (omega arith, (omega arith, omega arith), one-low 3, (omega arith, (omega arith, omega arith), two-low 5 6, tt)),
      ),
    ),
  )

  offset-low : offset_of s < 4294967296
  offset-low = pick_elim (λ (k : ℕ). k < 4294967296) (has_segment s) (λ h. two-low (seg_at s + 2) (seg_at s + 3)) (λ h. omega arith)

  segment_good : row (segment_members s)
  segment_good =
      pick_elim row (has_segment s)
      (λ h. (
        omega arith,
        (omega arith, omega arith),
        two-low (seg_at s) (seg_at s + 1),
        (
          omega arith,
          (omega arith, omega arith),
          offset-low,
          (
            omega arith,
            (omega arith, omega arith),
            two-low (seg_at s + 4) (seg_at s + 5),
            yes_good (length s) 1 k_segmented (segmented s) (omega arith) (omega arith, omega arith),
          ),
        ),
      ))
      (λ h. tt)

  flags-good : row (flag_members s)
  flags-good = pick_elim row (sp s) (λ h. (omega arith, (omega arith, omega arith), omega arith, (omega arith, (omega arith, omega arith), omega arith, segment_good))) (λ h. tt)

  options-row : row (options_of s)
  options-row = elim (dec_le (options_at s) (get_or s 1 0)) [
    | yes w ↦
        let n : ℕ = get_or s 1 0 - options_at s in
        let d : List ℕ = drop (options_at s) s in
        let l : options_at s + length (option_part s) ≤ length s = omega (arith, w, header, length-take n d, min-le_left n (length d)) in
        good_in_list (length s) true 1 k_options (option_items (options_at s) (option_part s)) (omega arith) (omega arith, omega arith)
        (options-good (length s) (options_at s) (option_part s) (take-small n d (drop-small (options_at s) s small)) l)
    | no w ↦ subst row (sym (no_options s (omega (arith, lt_of_not-le w)))) tt
  ]

  tpdu_good : (base : ℕ) (t : List ℕ) → Octets t → base + length t ≤ length s → (h : Option Head) → cotp.head_of t ≡ h → row (cotp_member base t h)
  tpdu_good base t low l None e = tt
  tpdu_good base t low l (Some h) e =
      (omega arith, (omega arith, omega arith), cotp-good.good_members t low (omega (arith, l, short)) h e (length s) 2 base (omega arith) l, tt)

  data_good : row (data_member s)
  data_good =
      let n = get_or s 1 0 in
      let t : List ℕ = drop n s in
      pick_elim row (segmented s) (λ e. tt) (λ e. tpdu_good n t (drop-small n s small) (omega (arith, header, length-drop n s)) (cotp.head_of t) refl)

  pub good_members : Good (length s) (members_of s)
  good_members =
      let a : Items = address_members (addresses_of s) in
      subst row (members_are s)
      (good-⊕ (length s) true 1 (head_of s) (a ⊕ rest_of s) head-good
      (good-⊕ (length s) true 1 a (rest_of s) (address-good s (addresses_of s) (inside s))
      (good-⊕ (length s) true 1 (flag_members s) (options_of s ⊕ data_member s) flags-good (good-⊕ (length s) true 1 (options_of s) (data_member s) options-row data_good))))

  pub clnp_reads-back : items_of (length s) (clnp_cells s) ≡ some (members_of s)
  clnp_reads-back = ap (items_of (length s)) (sym (cells_are s readable)) ∙ reads-back (length s) (members_of s) (omega arith) good_members
