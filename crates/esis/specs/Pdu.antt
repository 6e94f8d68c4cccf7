-- `parse_esis`: the record of an ES-IS PDU.
use Rattle.std.specs.Prelude.{ℕ, zero, suc, ◌+◌, ◌%◌, Bool, true, ◌&&◌, ◌||◌, List, ltb, leb, eqb, length, get_or, drop}
use Rattle.octets.specs.Text.{pick}
use Rattle.octets.specs.Read.{be16}
use Rattle.names.specs.Ascii.{octets}
use Rattle.names.specs.Numbers.{k_protocol, k_payload_len, k_type, k_holding_time_s, k_addresses, k_options, k_type_code, k_value_hex, t_es_is, t_esh, t_ish, t_rd, t_question}
use Rattle.codes.specs.Codes.{text_in, esis_options}
use Rattle.cells.specs.Items.{Items, none, leaf, group, number, text, part, record_of, in_list, flat, ◌⊕◌}
use Rattle.cells.specs.Walk.{Step, step_of, items_from, left_from}
use Rattle.fields.specs.Tlv.{tlv_at}

abbrev pub type_code : List ℕ → ℕ
type_code s = get_or s 4 0 % 32

abbrev pub type_of : ℕ → ℕ
type_of t = pick (eqb t 2) t_esh (pick (eqb t 4) t_ish (pick (eqb t 6) t_rd t_question))

-- ---- addresses: at most n of them from place p on, each a length of at most 20 and its octets, up to the first that is not so
abbrev pub address_ok : List ℕ → ℕ → Bool
address_ok s p = leb (p + 1 + get_or s p 0) (length s) && leb (get_or s p 0) 20

unfoldable pub address_items : List ℕ → ℕ → ℕ → Items
address_items s zero p = none
address_items s (suc n) p =
    pick (ltb p (length s))
    (pick (address_ok s p) (leaf 0 (part (p + 1) (get_or s p 0)) none ⊕ address_items s n (p + 1 + get_or s p 0)) none) none

-- the place behind them: behind the length octet of one that is not whole
unfoldable pub address_end : List ℕ → ℕ → ℕ → ℕ
address_end s zero p = p
address_end s (suc n) p =
    pick (ltb p (length s)) (pick (address_ok s p) (address_end s n (p + 1 + get_or s p 0)) (p + 1)) p

-- an ESH has a count of addresses, an ISH one address, and others none
abbrev pub address_count : List ℕ → ℕ
address_count s = pick (eqb (type_code s) 2) (get_or s 9 0) (pick (eqb (type_code s) 4) 1 0)

abbrev pub addresses_at : List ℕ → ℕ
addresses_at s = pick (eqb (type_code s) 2 && ltb 9 (length s)) 10 9

-- ---- options, behind the addresses of an ESH or ISH
abbrev pub option : ℕ → ℕ → ℕ → Items
option t at n =
    group true 0 (leaf k_type (text (text_in esis_options (octets "unknown") t)) (leaf k_type_code (number t) (leaf k_value_hex (part at n) none))) none

abbrev pub option_step : ℕ → List ℕ → ℕ → Step Items
option_step base s i = step_of (λ start n. option (get_or s i 0) (base + start) n) (tlv_at s i)

abbrev pub option_items : ℕ → List ℕ → Items
option_items base s = items_from (option_step base s) (length s) 0

abbrev pub option_left : List ℕ → ℕ
option_left s = left_from (option_step 0 s) (length s) 0

abbrev pub options_at : List ℕ → ℕ
options_at s = address_end s (address_count s) (addresses_at s)

abbrev pub option_member : List ℕ → Items
option_member s = pick (eqb (type_code s) 2 || eqb (type_code s) 4) (in_list k_options (option_items (options_at s) (drop (options_at s) s))) none

-- ---- the record; under nine octets only what it is and how long
abbrev pub head_members : List ℕ → Items
head_members s =
    leaf k_type (text (type_of (type_code s))) none ⊕ (leaf k_holding_time_s (number (be16 (get_or s 5 0) (get_or s 6 0))) none
    ⊕ (in_list k_addresses (address_items s (address_count s) (addresses_at s)) ⊕ option_member s))

unfoldable pub members_of : List ℕ → Items
members_of s =
    leaf k_protocol (text t_es_is) none ⊕ (leaf k_payload_len (number (length s)) none ⊕ pick (ltb (length s) 9) none (head_members s))

unfoldable pub esis_cells : List ℕ → List ℕ
esis_cells s = flat 0 (record_of (members_of s))
