-- The ATN security label and its tags: `parse_atn_security_label`, `parse_atn_security_tag`, `bitfield_names`.
use Rattle.std.specs.Prelude.{◌≡◌, ℕ, ◌+◌, ◌/◌, ◌%◌, ◌<◌, true, false, ◌&&◌, ◌||◌, List, [], Option, None, ltb, leb, eqb, length, get_or, take, drop}
use Rattle.octets.specs.Text.{pick}
use Rattle.names.specs.Numbers.{k_tag_set, k_kind, k_class_id, k_class_name, k_subnet_id, k_subnet_name, k_permitted_traffic_types, k_classes, k_traffic_type, k_category, k_route_policy, k_value_hex, k_reg_id, k_sec_info, t_security_classification, t_subnet_type, t_supported_atsc_classes, t_traffic_type, t_atn_operational, t_atsc, t_aoc, t_atn_administrative, t_none, t_atn_system_management, t_unknown}
use Rattle.codes.specs.Codes.{Row, text_in, traffic_types, atsc_classes, subnets, security_classes}
use Rattle.cells.specs.Items.{Items, none, leaf, group, number, text, part, in_list, ◌⊕◌}
use Rattle.cells.specs.Walk.{Step, step_of, items_from, body}
use Rattle.cells.specs.declared.entry.Body.{Body}
use Rattle.fields.specs.Member.{opt_text}

-- a function's results are the texts of a table, by the octet that it takes
abbrev pub Names : (ℕ → ℕ → Type 0) → List Row → Type 0
Names post rows = (c t : ℕ) → c < 256 → post c t → t ≡ text_in rows [] c

-- the texts of the bits that are set, from the lowest on
abbrev pub bit_name : List Row → ℕ → ℕ → Items
bit_name rows o bit = pick (eqb (o / bit % 2) 1) (opt_text 0 (text_in rows [] bit)) none

abbrev pub bit_names : List Row → ℕ → Items
bit_names rows o =
    bit_name rows o 1 ⊕ (bit_name rows o 2 ⊕ (bit_name rows o 4 ⊕ (bit_name rows o 8
    ⊕ (bit_name rows o 16 ⊕ (bit_name rows o 32 ⊕ (bit_name rows o 64 ⊕ bit_name rows o 128))))))

-- type and category of traffic, by the high three bits; 0x30 has a category of its own
abbrev pub traffic_name : ℕ → ℕ
traffic_name v =
    pick (eqb (v / 32) 0) t_atn_operational
    (pick (eqb v 0x30) t_atn_administrative (pick (eqb (v / 32) 1) t_atn_operational (pick (eqb (v / 32) 3) t_atn_system_management t_unknown)))

abbrev pub category_name : ℕ → ℕ
category_name v =
    pick (eqb (v / 32) 0) t_atsc (pick (eqb v 0x30) t_none (pick (eqb (v / 32) 1) t_aoc (pick (eqb (v / 32) 3) t_none t_unknown)))

-- the members of a tag set by its kind, with the octets of its value: one octet v, and one more where it is a type of subnet
abbrev pub security_members : ℕ → Items
security_members v =
    leaf k_kind (text t_security_classification) none ⊕ (leaf k_class_id (number v) none ⊕ opt_text k_class_name (text_in security_classes [] v))

abbrev pub subnet_members : ℕ → ℕ → Items
subnet_members v bits =
    leaf k_kind (text t_subnet_type) none ⊕ (leaf k_subnet_id (number v) none ⊕ (opt_text k_subnet_name (text_in subnets [] v)
    ⊕ group false k_permitted_traffic_types (bit_names traffic_types bits) none))

abbrev pub class_members : ℕ → Items
class_members v = leaf k_kind (text t_supported_atsc_classes) none ⊕ group false k_classes (bit_names atsc_classes v) none

abbrev pub traffic_members : ℕ → Items
traffic_members v =
    leaf k_kind (text t_traffic_type) none ⊕ (leaf k_traffic_type (text (traffic_name v)) none ⊕ (leaf k_category (text (category_name v)) none
    ⊕ leaf k_route_policy (number (v % 32)) none))

-- the members of a tag set by its name, with a value of n octets at place i of s; s stands at place base of the input
unfoldable pub tag_members : ℕ → List ℕ → ℕ → ℕ → ℕ → Items
tag_members base s name i n =
    let v = get_or s i 0 in
    pick (eqb name 0x03 && eqb n 1) (security_members v)
    (pick (eqb name 0x05 && eqb n 2) (subnet_members v (get_or s (i + 1) 0))
    (pick ((eqb name 0x06 || eqb name 0x07) && eqb n 1) (class_members v)
    (pick (eqb name 0x0F && ltb 0 n) (traffic_members v) (leaf k_value_hex (part (base + i) n) none))))

abbrev pub tag : ℕ → List ℕ → ℕ → ℕ → ℕ → Items
tag base s name i n = group true 0 (leaf k_tag_set (number name) none ⊕ tag_members base s name i n) none

-- a tag set at i: a name of one octet, a length and a value
unfoldable pub tag_at : List ℕ → ℕ → Option Body
tag_at s i =
    pick (leb (i + 3) (length s))
    (pick (eqb (get_or s i 0) 1) (pick (leb (i + 3 + get_or s (i + 2) 0) (length s)) (body (i + 3) (get_or s (i + 2) 0)) None) None) None

abbrev pub tag_step : ℕ → List ℕ → ℕ → Step Items
tag_step base s i = step_of (λ start n. tag base s (get_or s (i + 1) 0) start n) (tag_at s i)

abbrev pub tag_items : ℕ → List ℕ → Items
tag_items base s = items_from (tag_step base s) (length s) 0

-- the tag sets behind the registration id, whose length octet is cut to what is there
abbrev pub info_part : List ℕ → ℕ → List ℕ
info_part s p = take (get_or s p 0) (drop (p + 1) s)

-- the members of a label that stands at place base of the input
unfoldable pub label_members : ℕ → List ℕ → Items
label_members base s =
    let n = get_or s 0 0 in
    pick (eqb (length s) 0) none
    (pick (ltb (length s) (1 + n)) none
    (leaf k_reg_id (part (base + 1) n) none ⊕ pick (ltb (1 + n) (length s)) (in_list k_sec_info (tag_items (base + (1 + n) + 1) (info_part s (1 + n)))) none))
