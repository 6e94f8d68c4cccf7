-- How many cells a PDU's record has at most, so that an output with that many is never short.
use Prim.Native.Nat.{ℕ, ◌+◌, ◌*◌, ◌-◌, ◌/◌, ◌%◌, ◌≤◌, ◌<◌}
use mathlib.Core.Path.{◌≡◌, refl, sym, ap, subst, ◌∙◌}
use mathlib.Core.List.{List, [], ◌++◌}
use mathlib.Core.Bool.{Bool, true, false, ◌&&◌, ◌||◌}
use native.Mathlib.Nat.{min-le_left, min-le_right}
use native.Mathlib.Omega.{arith}
use borrow.Author.Tests.{eqb-true, ltb-true, ltb-false}
use lib.Dec.{eqb, ltb}
use lib.ListN.{length, get_or, take, drop, length-append, length-take, length-drop}
use Rattle.octets.proofs.Tests.{and_left, and_right}
use Rattle.octets.proofs.Picks.{pick_elim}
use Rattle.names.specs.Numbers.{k_code, k_name, k_priority, k_reason, k_security_format, k_security_label, k_value_hex, k_reg_id, k_sec_info, k_tag_set, k_kind, k_class_id, k_class_name, k_subnet_id, k_subnet_name, k_permitted_traffic_types, k_classes, k_traffic_type, k_category, k_route_policy, k_dst_nsap, k_src_nsap, k_error_report, k_more_segments, k_pdu_id, k_segment_offset, k_total_len, k_segmented, k_options, k_cotp, t_security_classification, t_subnet_type, t_supported_atsc_classes, t_traffic_type, t_globally_unique}
use Rattle.codes.specs.Codes.{Row, text_in, traffic_types, atsc_classes, subnets, security_classes, clnp_options}
use Rattle.cells.specs.Items.{Items, none, leaf, group, number, flag, octet, part, text, record_of, in_list, ◌⊕◌, flat}
use Rattle.cells.specs.Answer.{number_of, answer_to}
use Rattle.cells.specs.Walk.{step_of}
use Rattle.std.specs.Prelude.{Option, Some, None}
use Rattle.cells.specs.declared.entry.Body.{Body}
use Rattle.cells.proofs.Rows.{group-size, in_list_thin}
use Rattle.cells.proofs.Walks.{Thin, thin, fuse, flat_walk}
use Rattle.cells.proofs.Answers.{enough}
use Rattle.fields.specs.Tlv.{tlv_at}
use Rattle.fields.specs.Member.{opt_text, opt_yes}
use Rattle.fields.proofs.Tlvs as tlvs
use Rattle.fields.proofs.Sizes.{size, rows, empty, one, text-thin, yes_thin}
use Rattle.cotp.specs.Tpdu as cotp
use Rattle.cotp.specs.declared.tpdu.Head.{Head}
use Rattle.cotp.proofs.Thin as cotp_thin
use Rattle.clnp.specs.Segment.{headed, sp, more, report, addresses_of}
use Rattle.clnp.specs.Label.{bit_name, bit_names, traffic_name, category_name, security_members, subnet_members, class_members, traffic_members, tag_members, tag, tag_at, tag_step, tag_items, info_part, label_members}
use Rattle.clnp.specs.Options.{secured, option_value, option, option_step, option_items}
use Rattle.clnp.specs.Pdu.{has_segment, segmented, segment_members, flag_members, options_at, option_part, cotp_member, data_member, address_members, members_of, has_addresses, clnp_cells}
use Rattle.clnp.specs.declared.segment.Addresses.{Addresses}
use Rattle.clnp.proofs.Headers.{full}
use Rattle.clnp.proofs.Tags.{Whole, tag-whole, low_of, high_of, bits_are}
use Rattle.clnp.proofs.Records.{head_of, options_of, rest_of, members_are}

-- ---- tag sets
bit_thin : (d : ℕ) (r : List Row) (o bit : ℕ) → size d (bit_name r o bit) ≤ 1
bit_thin d r o bit = pick_elim (λ (x : Items). size d x ≤ 1) (eqb (o / bit % 2) 1) (λ h. text-thin d 0 (text_in r [] bit)) (λ h. omega (arith, empty d))

half-thin : (d : ℕ) (a b c e : Items) → size d a ≤ 1 → size d b ≤ 1 → size d c ≤ 1 → size d e ≤ 1 → size d (a ⊕ (b ⊕ (c ⊕ e))) ≤ 4
half-thin d a b c e p q r o = omega (arith, rows d a (b ⊕ (c ⊕ e)), rows d b (c ⊕ e), rows d c e, p, q, r, o)

bits-thin : (d : ℕ) (r : List Row) (o : ℕ) → size d (bit_names r o) ≤ 8
bits-thin d r o =
    omega (
      arith,
      ap (size d) (bits_are r o),
      rows d (low_of r o) (high_of r o),
      half-thin d (bit_name r o 1) (bit_name r o 2) (bit_name r o 4) (bit_name r o 8) (bit_thin d r o 1) (bit_thin d r o 2) (bit_thin d r o 4) (bit_thin d r o 8),
      half-thin d (bit_name r o 16) (bit_name r o 32) (bit_name r o 64) (bit_name r o 128) (bit_thin d r o 16) (bit_thin d r o 32) (bit_thin d r o 64) (bit_thin d r o 128),
    )

list_thin : (d f : ℕ) (r : List Row) (o : ℕ) → size d (group false f (bit_names r o) none) ≤ 10
list_thin d f r o = omega (arith, group-size d false f (bit_names r o), bits-thin (d + 1) r o)

module _ (d base : ℕ) (s : List ℕ) (i n : ℕ) where
  abbrev v : ℕ
  v = get_or s i 0

  abbrev Few : Items → Type 0
  Few x = size d x ≤ 4 * n + 9

  security-thin : n ≡ 1 → Few (security_members v)
  security-thin h =
      let a : Items = leaf k_kind (text t_security_classification) none in
      let b : Items = leaf k_class_id (number v) none in
      let c : Items = opt_text k_class_name (text_in security_classes [] v) in
      omega (arith, h, rows d a (b ⊕ c), rows d b c, one d k_kind (text t_security_classification), one d k_class_id (number v), text-thin d k_class_name (text_in security_classes [] v))

  subnet-thin : n ≡ 2 → Few (subnet_members v (get_or s (i + 1) 0))
  subnet-thin h =
      let a : Items = leaf k_kind (text t_subnet_type) none in
      let b : Items = leaf k_subnet_id (number v) none in
      let c : Items = opt_text k_subnet_name (text_in subnets [] v) in
      let e : Items = group false k_permitted_traffic_types (bit_names traffic_types (get_or s (i + 1) 0)) none in
      omega (arith, h, rows d a (b ⊕ (c ⊕ e)), rows d b (c ⊕ e), rows d c e, one d k_kind (text t_subnet_type), one d k_subnet_id (number v), text-thin d k_subnet_name (text_in subnets [] v), list_thin d k_permitted_traffic_types traffic_types (get_or s (i + 1) 0))

  classes-thin : n ≡ 1 → Few (class_members v)
  classes-thin h =
      let a : Items = leaf k_kind (text t_supported_atsc_classes) none in
      let b : Items = group false k_classes (bit_names atsc_classes v) none in
      omega (arith, h, rows d a b, one d k_kind (text t_supported_atsc_classes), list_thin d k_classes atsc_classes v)

  traffic-thin : Few (traffic_members v)
  traffic-thin =
      let a : Items = leaf k_kind (text t_traffic_type) none in
      let b : Items = leaf k_traffic_type (text (traffic_name v)) none in
      let c : Items = leaf k_category (text (category_name v)) none in
      let e : Items = leaf k_route_policy (number (v % 32)) none in
      omega (arith, rows d a (b ⊕ (c ⊕ e)), rows d b (c ⊕ e), rows d c e, one d k_kind (text t_traffic_type), one d k_traffic_type (text (traffic_name v)), one d k_category (text (category_name v)), one d k_route_policy (number (v % 32)))

  members_thin : (name : ℕ) → Few (tag_members base s name i n)
  unfolding tag_members
  members_thin name =
      pick_elim Few (eqb name 0x03 && eqb n 1) (λ h. security-thin (eqb-true n 1 (and_right (eqb name 0x03) (eqb n 1) h)))
      (λ h. pick_elim Few (eqb name 0x05 && eqb n 2) (λ h. subnet-thin (eqb-true n 2 (and_right (eqb name 0x05) (eqb n 2) h)))
      (λ h. pick_elim Few ((eqb name 0x06 || eqb name 0x07) && eqb n 1) (λ h. classes-thin (eqb-true n 1 (and_right (eqb name 0x06 || eqb name 0x07) (eqb n 1) h)))
      (λ h. pick_elim Few (eqb name 0x0F && ltb 0 n) (λ h. traffic-thin) (λ h. omega (arith, one d k_value_hex (part (base + i) n))))))

tag-thin : (d base : ℕ) (s : List ℕ) (name i n : ℕ) → size d (tag base s name i n) ≤ 4 * n + 12
tag-thin d base s name i n =
    let a : Items = leaf k_tag_set (number name) none in
    let b : Items = tag_members base s name i n in
    omega (arith, group-size d true 0 (a ⊕ b), rows (d + 1) a b, one (d + 1) k_tag_set (number name), members_thin (d + 1) base s i n name)

tag-step : (d base : ℕ) (s : List ℕ) (i : ℕ) (e : Option Body) → Whole s i e
    → Thin (tag_step base s) (λ c. length (flat d c)) 4 (length s) i (step_of (λ start n. tag base s (get_or s (i + 1) 0) start n) e)
tag-step d base s i None w = tt
tag-step d base s i (Some b) w = (omega (arith, w.0), w.1, omega (arith, w.0, tag-thin d base s (get_or s (i + 1) 0) b.start b.len))

pub tags_thin : (d base : ℕ) (s : List ℕ) → length (flat d (tag_items base s)) ≤ 4 * length s
tags_thin d base s =
    let e = ap length (flat_walk d (tag_step base s) (length s) 0)
    ∙ fuse (tag_step base s) (λ n. []) (λ c r. flat d c ++ r) (λ n. 0) (λ c r. length (flat d c) + r) length (λ n. refl) (λ c r. length-append (flat d c) r) (length s) 0 in
    subst (λ (n : ℕ). n ≤ 4 * length s) (sym e)
    (thin (tag_step base s) (λ c. length (flat d c)) 4 (length s) (λ i h. tag-step d base s i (tag_at s i) (tag-whole s i)))

-- ---- labels: no more than four cells an octet
part-short : (n k : ℕ) (s : List ℕ) → length (take n (drop k s)) ≤ length s - k
part-short n k s = omega (arith, length-take n (drop k s), length-drop k s, min-le_right n (length (drop k s)))

part-counted : (n k : ℕ) (s : List ℕ) → length (take n (drop k s)) ≤ n
part-counted n k s = omega (arith, length-take n (drop k s), min-le_left n (length (drop k s)))

label_thin : (d base : ℕ) (s : List ℕ) → size d (label_members base s) ≤ 4 * length s
unfolding label_members
label_thin d base s =
    let n = get_or s 0 0 in
    let reg : Items = leaf k_reg_id (part (base + 1) n) none in
    let tags : Items = tag_items (base + (1 + n) + 1) (info_part s (1 + n)) in
    pick_elim (λ (x : Items). size d x ≤ 4 * length s) (eqb (length s) 0) (λ h. omega (arith, empty d))
    (λ z. pick_elim (λ (x : Items). size d x ≤ 4 * length s) (ltb (length s) (1 + n)) (λ h. omega (arith, empty d))
    (λ l. pick_elim (λ (x : Items). size d (reg ⊕ x) ≤ 4 * length s) (ltb (1 + n) (length s))
    (λ h. omega (
      arith,
      ltb-true (1 + n) (length s) h,
      rows d reg (in_list k_sec_info tags),
      one d k_reg_id (part (base + 1) n),
      in_list_thin d k_sec_info tags,
      tags_thin (d + 1) (base + (1 + n) + 1) (info_part s (1 + n)),
      part-short (get_or s (1 + n) 0) (1 + n + 1) s,
    ))
    (λ h. omega (arith, one d k_reg_id (part (base + 1) n), ltb-false (length s) (1 + n) l))))

-- ---- options
module _ (d base : ℕ) (s : List ℕ) (i n : ℕ) where
  abbrev Small : Items → Type 0
  Small x = size d x ≤ 4 * n + 1

  secured-thin : 0 < n → Small (secured base s i n)
  secured-thin h =
      let a : Items = leaf k_security_format (text t_globally_unique) none in
      let p : List ℕ = take (n - 1) (drop (i + 1) s) in
      let l : Items = label_members (base + i + 1) p in
      omega (arith, h, rows d a (group true k_security_label l none), one d k_security_format (text t_globally_unique), group-size d true k_security_label l, label_thin (d + 1) (base + i + 1) p, part-counted (n - 1) (i + 1) s)

  value-thin : (t : ℕ) → Small (option_value base s t i n)
  unfolding option_value
  value-thin t =
      let x = get_or s i 0 in
      pick_elim Small (eqb t 0xCD && eqb n 1) (λ h. omega (arith, one d k_priority (number x)))
      (λ h. pick_elim Small (eqb t 0xC1 && eqb n 1) (λ h. omega (arith, one d k_reason (number x)))
      (λ h. pick_elim Small (eqb t 0xC5 && (ltb 0 n && eqb x 0xC0))
      (λ h. secured-thin (ltb-true 0 n (and_left (ltb 0 n) (eqb x 0xC0) (and_right (eqb t 0xC5) (ltb 0 n && eqb x 0xC0) h))))
      (λ h. omega (arith, one d k_value_hex (part (base + i) n)))))

option-thin : (d base : ℕ) (s : List ℕ) (t i n : ℕ) → size d (option base s t i n) ≤ 4 * n + 5
option-thin d base s t i n =
    let a : Items = leaf k_code (octet t) none in
    let b : Items = opt_text k_name (text_in clnp_options [] t) in
    let c : Items = option_value base s t i n in
    omega (arith, group-size d true 0 (a ⊕ (b ⊕ c)), rows (d + 1) a (b ⊕ c), rows (d + 1) b c, one (d + 1) k_code (octet t), text-thin (d + 1) k_name (text_in clnp_options [] t), value-thin (d + 1) base s i n t)

option-step : (d base : ℕ) (s : List ℕ) (i : ℕ) (e : Option Body) → tlvs.Whole s i e
    → Thin (option_step base s) (λ c. length (flat d c)) 4 (length s) i (step_of (λ start n. option base s (get_or s i 0) start n) e)
option-step d base s i None w = tt
option-step d base s i (Some b) w = (omega (arith, w.0), w.2, omega (arith, w.0, option-thin d base s (get_or s i 0) b.start b.len))

pub options-thin : (d base : ℕ) (s : List ℕ) → length (flat d (option_items base s)) ≤ 4 * length s
options-thin d base s =
    let e = ap length (flat_walk d (option_step base s) (length s) 0)
    ∙ fuse (option_step base s) (λ n. []) (λ c r. flat d c ++ r) (λ n. 0) (λ c r. length (flat d c) + r) length (λ n. refl) (λ c r. length-append (flat d c) r) (length s) 0 in
    subst (λ (n : ℕ). n ≤ 4 * length s) (sym e)
    (thin (option_step base s) (λ c. length (flat d c)) 4 (length s) (λ i h. option-step d base s i (tlv_at s i) (tlvs.tlv_whole s i)))

-- ---- the record
address-thin : (a : Option Addresses) → size 1 (address_members a) ≤ 2
address-thin None = omega (arith, empty 1)
address-thin (Some a) =
    omega (arith, rows 1 (leaf k_dst_nsap (part a.dst a.dstlen) none) (leaf k_src_nsap (part a.src a.srclen) none), one 1 k_dst_nsap (part a.dst a.dstlen), one 1 k_src_nsap (part a.src a.srclen))

segment_of_lem : (a b c : ℕ) (t : Bool) → size 1 (leaf k_pdu_id (number a) none ⊕ (leaf k_segment_offset (number b) none ⊕ (leaf k_total_len (number c) none ⊕ opt_yes k_segmented t))) ≤ 4
segment_of_lem a b c t =
    let x : Items = leaf k_pdu_id (number a) none in
    let y : Items = leaf k_segment_offset (number b) none in
    let z : Items = leaf k_total_len (number c) none in
    let w : Items = opt_yes k_segmented t in
    omega (arith, rows 1 x (y ⊕ (z ⊕ w)), rows 1 y (z ⊕ w), rows 1 z w, one 1 k_pdu_id (number a), one 1 k_segment_offset (number b), one 1 k_total_len (number c), yes_thin 1 k_segmented t)

module _ (s : List ℕ) where
  segment_thin : size 1 (segment_members s) ≤ 4
  segment_thin = pick_elim (λ (x : Items). size 1 x ≤ 4) (has_segment s) (λ h. segment_of_lem _ _ _ (segmented s)) (λ h. omega (arith, empty 1))

  flags-thin : size 1 (flag_members s) ≤ 6
  flags-thin =
      let a : Items = leaf k_error_report (flag (report s)) none in
      let b : Items = leaf k_more_segments (flag (more s)) none in
      pick_elim (λ (x : Items). size 1 x ≤ 6) (sp s)
      (λ h. omega (arith, rows 1 a (b ⊕ segment_members s), rows 1 b (segment_members s), one 1 k_error_report (flag (report s)), one 1 k_more_segments (flag (more s)), segment_thin)) (λ h. omega (arith, empty 1))

  tpdu_thin : (base : ℕ) (t : List ℕ) (h : Option Head) → size 1 (cotp_member base t h) ≤ 3 * length t + 12
  tpdu_thin base t None = omega (arith, empty 1)
  tpdu_thin base t (Some h) = omega (arith, group-size 1 true k_cotp (cotp.members_of base t h), cotp_thin.members_thin 2 base t h)

  data_thin : size 1 (data_member s) ≤ 3 * length (drop (get_or s 1 0) s) + 12
  data_thin =
      let t : List ℕ = drop (get_or s 1 0) s in
      pick_elim (λ (x : Items). size 1 x ≤ 3 * length t + 12) (segmented s) (λ e. omega (arith, empty 1)) (λ e. tpdu_thin (get_or s 1 0) t (cotp.head_of t))

  head-thin : size 1 (head_of s) ≡ 5
  unfolding flat
  head-thin = refl

  pub record_thin : get_or s 1 0 ≤ length s → length (flat 0 (record_of (members_of s))) ≤ 4 * length s + 64
  record_thin h =
      let a : Items = address_members (addresses_of s) in
      let o : Items = option_items (options_at s) (option_part s) in
      let parts : length (option_part s) + length (drop (get_or s 1 0) s) ≤ length s =
      omega (arith, h, part-counted (get_or s 1 0 - options_at s) (options_at s) s, length-drop (get_or s 1 0) s) in
      let others : size 1 (rest_of s) ≤ 4 * length (option_part s) + 3 * length (drop (get_or s 1 0) s) + 20 =
      omega (arith, rows 1 (flag_members s) (options_of s ⊕ data_member s), rows 1 (options_of s) (data_member s), flags-thin, in_list_thin 1 k_options o, options-thin 2 (options_at s) (option_part s), data_thin) in
      omega (arith, parts, others, group-size 0 true 0 (members_of s), ap (size 1) (members_are s), rows 1 (head_of s) (a ⊕ rest_of s), rows 1 a (rest_of s), head-thin, address-thin (addresses_of s))

  pub clnp_thin : length (clnp_cells s) ≤ 4 * length s + 64
  unfolding clnp_cells
  clnp_thin =
      pick_elim (λ (l : List ℕ). length l ≤ 4 * length s + 64) (headed s && has_addresses (addresses_of s))
      (λ e. record_thin (full s (and_left (headed s) (has_addresses (addresses_of s)) e)).2) (λ e. omega arith)

-- with four cells for each octet and 64 more the answer is not 10
pub never_short : (s : List ℕ) (room : ℕ) → 4 * length s + 64 ≤ room → number_of (answer_to (length s) (clnp_cells s) room) ≡ 10 → ⊥
never_short s room h e = enough (length s) (clnp_cells s) room (omega (arith, clnp_thin s)) e
