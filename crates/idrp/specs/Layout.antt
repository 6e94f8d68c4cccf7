-- ISO/IEC 10747's BISPDUs, laid out as the standard draws them: octets from fields.
use Rattle.std.specs.Prelude.{ℕ, ◌+◌, ◌*◌, ◌/◌, ◌<◌, ◌^◌, Bool, true, false, ◌&&◌, ◌≡◌, List, [], ◌∷◌, ◌++◌, ltb, eqb, length, get_or, take, drop}
use Rattle.octets.specs.Text.{pick}
use Rattle.octets.specs.Read.{octets_of}
use Rattle.names.specs.Ascii.{octets}
use Rattle.names.specs.Numbers.{k_protocol, k_payload_len, k_bispdu_len, k_type, k_type_code, k_sequence, k_ack, k_credit_offered, k_credit_avail, k_version, k_hold_time_s, k_max_pdu_size, k_src_rdi, k_withdrawn_routes, k_path_attributes, k_value, k_value_hex, k_nlri, k_proto_type, k_clnp, k_prefixes, t_idrp}
use Rattle.codes.specs.Codes.{text_in, idrp_types, idrp_attributes}
use Rattle.cells.specs.Items.{Items, none, leaf, group, number, flag, text, part, prefix, word, in_list, ◌⊕◌}
use Rattle.idrp.specs.Update.{shown}

-- ---- the header: identifier, length, type, sequence and acknowledgement, credits, validation pattern
pub record Fields : Type 0 where
  pub id : ℕ
  pub type : ℕ
  pub sequence : ℕ
  pub ack : ℕ
  pub offered : ℕ
  pub available : ℕ
  pub validation : List ℕ

abbrev pub laid : Fields → List ℕ → List ℕ
laid f body =
    (f.id ∷ (octets_of 2 (30 + length body) ++ (f.type ∷ (octets_of 4 f.sequence ++ (octets_of 4 f.ack ++ (f.offered ∷ f.available ∷ f.validation))))))
    ++ body

pub record Right (f : Fields) (body : List ℕ) : Type 0 where
  pub numbers : (f.sequence < 2 ^ 32) × (f.ack < 2 ^ 32)
  pub validation : length f.validation ≡ 16
  pub whole : 30 + length body < 65536

-- the record of n octets in all
abbrev pub record_read : Fields → ℕ → Items → Items
record_read f n rest =
    leaf k_protocol (text t_idrp) none ⊕ (leaf k_payload_len (number n) none ⊕ (leaf k_bispdu_len (number n) none
    ⊕ (leaf k_type (text (text_in idrp_types (octets "?") f.type)) none
    ⊕ ((leaf k_sequence (number f.sequence) none ⊕ leaf k_ack (number f.ack) none)
    ⊕ ((leaf k_credit_offered (number f.offered) none ⊕ leaf k_credit_avail (number f.available) none) ⊕ rest)))))

-- ---- an OPEN (type 1): version, hold time, largest PDU, source RDI, and sets of attributes and authentication, which are not read
pub record Open : Type 0 where
  pub version : ℕ
  pub hold : ℕ
  pub largest : ℕ
  pub rdi : List ℕ
  pub rest : List ℕ

abbrev pub open_laid : Open → List ℕ
open_laid o = o.version ∷ (octets_of 2 o.hold ++ (octets_of 2 o.largest ++ ((length o.rdi ∷ o.rdi) ++ o.rest)))

-- its items, with its RDI by its place in a body that stands at place base of the input
abbrev pub open_read : ℕ → Open → Items
open_read base o =
    leaf k_version (number o.version) none ⊕ (leaf k_hold_time_s (number o.hold) none
    ⊕ (leaf k_max_pdu_size (number o.largest) none ⊕ leaf k_src_rdi (part (base + 6) (length o.rdi)) none))

-- ---- an ERROR (type 3): code, subcode, data
abbrev pub error_laid : ℕ → ℕ → List ℕ → List ℕ
error_laid code subcode more = code ∷ subcode ∷ more

-- ---- an UPDATE (type 2)
-- withdrawn routes: numbers of four octets
unfoldable pub routes_laid : List ℕ → List ℕ
routes_laid [] = []
routes_laid (r ∷ rs) = octets_of 4 r ++ routes_laid rs

unfoldable pub routes_read : List ℕ → Items
routes_read [] = none
routes_read (r ∷ rs) = leaf 0 (word r) none ⊕ routes_read rs

unfoldable pub RoutesRight : List ℕ → Type 0
RoutesRight [] = Unit
RoutesRight (r ∷ rs) = (r < 2 ^ 32) × RoutesRight rs

-- path attributes: flags, type, length, value
pub record Attribute : Type 0 where
  pub flag : ℕ
  pub type : ℕ
  pub value : List ℕ

abbrev pub attribute_laid : Attribute → List ℕ
attribute_laid a = a.flag ∷ a.type ∷ (octets_of 2 (length a.value) ++ a.value)

unfoldable pub attributes_laid : List Attribute → List ℕ
attributes_laid [] = []
attributes_laid (a ∷ rest) = attribute_laid a ++ attributes_laid rest

abbrev pub value_read : ℕ → Attribute → Items
value_read at a =
    pick (shown a.type && eqb (length a.value) 1) (leaf k_value (number (get_or a.value 0 0)) none)
    (pick (ltb 0 (length a.value)) (leaf k_value_hex (part at (length a.value)) none) none)

abbrev pub attribute_read : ℕ → Attribute → Items
attribute_read at a =
    group true 0 (leaf k_type (text (text_in idrp_attributes (octets "unknown") a.type)) none ⊕ (leaf k_type_code (number a.type) none ⊕ value_read (at + 4) a)) none

-- the items of attributes that stand from place at of the input on
unfoldable pub attributes_read : ℕ → List Attribute → Items
attributes_read at [] = none
attributes_read at (a ∷ rest) = attribute_read at a ⊕ attributes_read (at + 4 + length a.value) rest

unfoldable pub AttributesStand : List ℕ → ℕ → List Attribute → Type 0
AttributesStand s at [] = Unit
AttributesStand s at (a ∷ rest) = (take (length a.value) (drop (at + 4) s) ≡ a.value) × AttributesStand s (at + 4 + length a.value) rest

unfoldable pub AttributesRight : List Attribute → Type 0
AttributesRight [] = Unit
AttributesRight (a ∷ rest) = (length a.value < 65536) × AttributesRight rest

-- those that are read: all but a last one without a value
unfoldable pub attributes_given : List Attribute → List Attribute
attributes_given [] = []
attributes_given (a ∷ []) = pick (eqb (length a.value) 0) [] (a ∷ [])
attributes_given (a ∷ (b ∷ bs)) = a ∷ attributes_given (b ∷ bs)

-- prefixes: bits, and as many octets as they need
pub record Prefix : Type 0 where
  pub bits : ℕ
  pub octets : List ℕ

unfoldable pub prefixes_laid : List Prefix → List ℕ
prefixes_laid [] = []
prefixes_laid (p ∷ ps) = (p.bits ∷ p.octets) ++ prefixes_laid ps

unfoldable pub prefixes_read : ℕ → List Prefix → Items
prefixes_read at [] = none
prefixes_read at (p ∷ ps) = leaf 0 (prefix (at + 1) (length p.octets) p.bits) none ⊕ prefixes_read (at + 1 + length p.octets) ps

unfoldable pub PrefixesRight : List Prefix → Type 0
PrefixesRight [] = Unit
PrefixesRight (p ∷ ps) = (length p.octets ≡ (p.bits + 7) / 8) × PrefixesRight ps

unfoldable pub PrefixesStand : List ℕ → ℕ → List Prefix → Type 0
PrefixesStand s at [] = Unit
PrefixesStand s at (p ∷ ps) = (take (length p.octets) (drop (at + 1) s) ≡ p.octets) × PrefixesStand s (at + 1 + length p.octets) ps

-- network layer reachability: protocol type, protocol id with its length, prefixes with the length of all
pub record Reach : Type 0 where
  pub proto : ℕ
  pub id : List ℕ
  pub prefixes : List Prefix

abbrev pub reach_laid : Reach → List ℕ
reach_laid e =
    (e.proto ∷ length e.id ∷ e.id) ++ (octets_of 2 (length (prefixes_laid e.prefixes)) ++ prefixes_laid e.prefixes)

unfoldable pub reaches_laid : List Reach → List ℕ
reaches_laid [] = []
reaches_laid (e ∷ es) = reach_laid e ++ reaches_laid es

-- CLNP's is type 1 with the one octet 0x81 for its id
abbrev pub clnp_reach : Reach → Bool
clnp_reach e = eqb e.proto 1 && (eqb (length e.id) 1 && eqb (get_or e.id 0 0) 0x81)

abbrev pub reach_read : ℕ → Reach → Items
reach_read at e =
    group true 0 (leaf k_proto_type (number e.proto) none ⊕ (leaf k_clnp (flag (pick (clnp_reach e) 1 0)) none
    ⊕ group false k_prefixes (prefixes_read (at + 4 + length e.id) e.prefixes) none)) none

unfoldable pub reaches_read : ℕ → List Reach → Items
reaches_read at [] = none
reaches_read at (e ∷ es) = reach_read at e ⊕ reaches_read (at + length (reach_laid e)) es

unfoldable pub ReachesRight : List Reach → Type 0
ReachesRight [] = Unit
ReachesRight (e ∷ es) = (length (prefixes_laid e.prefixes) < 65536) × (PrefixesRight e.prefixes × ReachesRight es)

unfoldable pub ReachesStand : List ℕ → ℕ → List Reach → Type 0
ReachesStand s at [] = Unit
ReachesStand s at (e ∷ es) = PrefixesStand s (at + 4 + length e.id) e.prefixes × ReachesStand s (at + length (reach_laid e)) es

-- those that are read: all but a last one of under seven octets
unfoldable pub reaches_given : List Reach → List Reach
reaches_given [] = []
reaches_given (e ∷ []) = pick (ltb (length (reach_laid e)) 7) [] (e ∷ [])
reaches_given (e ∷ (f ∷ fs)) = e ∷ reaches_given (f ∷ fs)

-- the whole body
pub record Body : Type 0 where
  pub routes : List ℕ
  pub attributes : List Attribute
  pub reach : List Reach

abbrev pub update_laid : Body → List ℕ
update_laid u =
    octets_of 2 (length u.routes) ++ (routes_laid u.routes
    ++ (octets_of 2 (length (attributes_laid u.attributes)) ++ (attributes_laid u.attributes ++ reaches_laid u.reach)))

pub record BodyRight (u : Body) : Type 0 where
  pub counted : (length u.routes < 65536) × (length (attributes_laid u.attributes) < 65536)
  pub routes : RoutesRight u.routes
  pub attributes : AttributesRight u.attributes
  pub reach : ReachesRight u.reach

-- the places of attributes and reachability in it
abbrev pub attributes_begin : Body → ℕ
attributes_begin u = 4 + 4 * length u.routes

abbrev pub reach_begin : Body → ℕ
reach_begin u = attributes_begin u + length (attributes_laid u.attributes)

abbrev pub update_read : ℕ → Body → Items
update_read base u =
    pick (eqb (length u.routes) 0) none (group false k_withdrawn_routes (routes_read u.routes) none)
    ⊕ (pick (eqb (length u.attributes) 0) none (group false k_path_attributes (attributes_read (base + attributes_begin u) u.attributes) none)
    ⊕ in_list k_nlri (reaches_read (base + reach_begin u) (reaches_given u.reach)))
