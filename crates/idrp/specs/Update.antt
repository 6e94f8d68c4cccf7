-- The body of an UPDATE: `parse_idrp_update`.
use Rattle.std.specs.Prelude.{ℕ, zero, suc, ◌+◌, ◌-◌, ◌*◌, ◌/◌, Bool, true, false, ◌&&◌, ◌||◌, Option, None, List, ltb, leb, eqb, length, get_or, take, drop}
use Rattle.octets.specs.Text.{pick}
use Rattle.octets.specs.Read.{be16, be32}
use Rattle.names.specs.Ascii.{octets}
use Rattle.names.specs.Numbers.{k_withdrawn_routes, k_path_attributes, k_type, k_type_code, k_value, k_value_hex, k_nlri, k_proto_type, k_clnp, k_prefixes}
use Rattle.codes.specs.Codes.{text_in, idrp_attributes}
use Rattle.cells.specs.Items.{Items, none, leaf, group, number, flag, text, part, prefix, word, in_list, ◌⊕◌}
use Rattle.cells.specs.Walk.{Step, step_of, body, items_from, left_from}
use Rattle.cells.specs.declared.entry.Body.{Body}

-- two octets at p
abbrev pub at16 : List ℕ → ℕ → ℕ
at16 s p = be16 (get_or s p 0) (get_or s (p + 1) 0)

-- ---- withdrawn routes: a count, and so many numbers of four octets
abbrev pub withdrawn : List ℕ → ℕ
withdrawn s = at16 s 0

unfoldable pub route_items : List ℕ → ℕ → ℕ → Items
route_items s zero p = none
route_items s (suc n) p =
    leaf 0 (word (be32 (get_or s p 0) (get_or s (p + 1) 0) (get_or s (p + 2) 0) (get_or s (p + 3) 0))) none ⊕ route_items s n (p + 4)

abbrev pub attributes_at : List ℕ → ℕ
attributes_at s = 2 + 4 * withdrawn s

-- ---- path attributes: their length, and from place p on, while more than four octets are left of it, a flag octet, a type, a
-- length and a value
abbrev pub attributes_from : List ℕ → ℕ
attributes_from s = attributes_at s + 2

abbrev pub attributes_end : List ℕ → ℕ
attributes_end s = attributes_from s + at16 s (attributes_at s)

abbrev pub shown : ℕ → Bool
shown t = (leb 7 t && leb t 10) || (eqb t 13 || eqb t 16)

abbrev pub attribute_value : ℕ → List ℕ → ℕ → ℕ → ℕ → Items
attribute_value base s t i n =
    pick (shown t && eqb n 1) (leaf k_value (number (get_or s i 0)) none) (pick (ltb 0 n) (leaf k_value_hex (part (base + i) n) none) none)

abbrev pub attribute : ℕ → List ℕ → ℕ → ℕ → ℕ → Items
attribute base s t i n =
    group true 0 (leaf k_type (text (text_in idrp_attributes (octets "unknown") t)) none ⊕ (leaf k_type_code (number t) none ⊕ attribute_value base s t i n)) none

-- an attribute at i, whose value may run past the attributes' end but not past the body's
unfoldable pub attribute_at : List ℕ → ℕ → ℕ → Option Body
attribute_at s end i =
    pick (ltb (i + 4) end)
    (pick (leb (i + 4) (length s)) (pick (leb (i + 4 + at16 s (i + 2)) (length s)) (body (i + 4) (at16 s (i + 2))) None) None) None

abbrev pub attribute_step : ℕ → List ℕ → ℕ → Step Items
attribute_step base s i = step_of (λ start n. attribute base s (get_or s (i + 1) 0) start n) (attribute_at s (attributes_end s) i)

abbrev pub attribute_items : ℕ → List ℕ → Items
attribute_items base s = items_from (attribute_step base s) (length s) (attributes_from s)

-- the place behind the last of them
abbrev pub attributes_place : List ℕ → ℕ
attributes_place s = length s - left_from (attribute_step 0 s) (length s) (attributes_from s)

-- ---- NLRI: entries up to the first that is not whole
abbrev pub prefix_at : List ℕ → ℕ → Option Body
prefix_at s i = pick (leb (i + 1 + (get_or s i 0 + 7) / 8) (length s)) (body (i + 1) ((get_or s i 0 + 7) / 8)) None

abbrev pub prefix_step : ℕ → List ℕ → ℕ → Step Items
prefix_step base s i = step_of (λ start n. leaf 0 (prefix (base + start) n (get_or s i 0)) none) (prefix_at s i)

abbrev pub prefix_items : ℕ → List ℕ → Items
prefix_items base s = items_from (prefix_step base s) (length s) 0

-- protocol type, the protocol id with its length, then the addresses with theirs
abbrev pub nlri_addresses : List ℕ → ℕ → ℕ
nlri_addresses s i = i + 4 + get_or s (i + 1) 0

abbrev pub nlri_len : List ℕ → ℕ → ℕ
nlri_len s i = at16 s (i + 2 + get_or s (i + 1) 0)

unfoldable pub nlri_at : List ℕ → ℕ → Option Body
nlri_at s i =
    pick (leb (i + 7) (length s))
    (pick (leb (nlri_addresses s i) (length s))
    (pick (leb (nlri_addresses s i + nlri_len s i) (length s)) (body (nlri_addresses s i) (nlri_len s i)) None) None) None

abbrev pub is_clnp : List ℕ → ℕ → Bool
is_clnp s i = eqb (get_or s i 0) 1 && (eqb (get_or s (i + 1) 0) 1 && eqb (get_or s (i + 2) 0) 0x81)

abbrev pub nlri : ℕ → List ℕ → ℕ → ℕ → ℕ → Items
nlri base s i start n =
    group true 0 (leaf k_proto_type (number (get_or s i 0)) none ⊕ (leaf k_clnp (flag (pick (is_clnp s i) 1 0)) none
    ⊕ group false k_prefixes (prefix_items (base + start) (take n (drop start s))) none)) none

abbrev pub nlri_step : ℕ → List ℕ → ℕ → Step Items
nlri_step base s i = step_of (λ start n. nlri base s i start n) (nlri_at s i)

-- ---- the whole body: none where it is cut in its routes or attributes
abbrev pub routes_whole : List ℕ → Bool
routes_whole s = leb 2 (length s) && leb (attributes_from s) (length s)

-- the attributes were walked to their end
abbrev pub attributes_whole : List ℕ → Bool
attributes_whole s = leb (attributes_end s) (attributes_place s + 4)

abbrev pub update_readable : List ℕ → Bool
update_readable s = routes_whole s && attributes_whole s

abbrev pub routes_member : List ℕ → Items
routes_member s = pick (eqb (withdrawn s) 0) none (group false k_withdrawn_routes (route_items s (withdrawn s) 2) none)

abbrev pub attributes_member : ℕ → List ℕ → Items
attributes_member base s = pick (eqb (at16 s (attributes_at s)) 0) none (group false k_path_attributes (attribute_items base s) none)

abbrev pub nlri_items : ℕ → List ℕ → Items
nlri_items base s = items_from (nlri_step base s) (length s) (attributes_place s)

unfoldable pub update_members : ℕ → List ℕ → Items
update_members base s = routes_member s ⊕ (attributes_member base s ⊕ in_list k_nlri (nlri_items base s))
