-- ISO 9542's PDUs, laid out as the standard draws them: octets from fields.
use Rattle.std.specs.Prelude.{ℕ, ◌+◌, ◌*◌, ◌≤◌, ◌<◌, ◌≡◌, List, [], ◌∷◌, ◌++◌, length, take, drop}
use Rattle.octets.specs.Read.{octets_of}
use Rattle.names.specs.Numbers.{k_protocol, k_payload_len, k_type, k_holding_time_s, k_addresses, k_options, t_es_is}
use Rattle.cells.specs.Items.{Items, none, leaf, number, text, part, in_list, ◌⊕◌}
use Rattle.esis.specs.Pdu.{type_of, option}

-- the fields of the fixed part; the three bits above the type are reserved
pub record Fields : Type 0 where
  pub version : ℕ
  pub reserved : ℕ
  pub high : ℕ
  pub type : ℕ
  pub holding : ℕ
  pub checksum : ℕ

-- the length indicator counts every octet: an ES-IS PDU is a header and nothing else
abbrev pub laid : Fields → List ℕ → List ℕ
laid f rest =
    0x82 ∷ (9 + length rest) ∷ f.version ∷ f.reserved ∷ (f.high * 32 + f.type) ∷ (octets_of 2 f.holding ++ (octets_of 2 f.checksum ++ rest))

pub record Right (f : Fields) : Type 0 where
  pub type : f.type < 32
  pub holding : f.holding < 65536

-- ---- addresses, each with its length
unfoldable pub addresses_laid : List (List ℕ) → List ℕ
addresses_laid [] = []
addresses_laid (a ∷ more) = (length a ∷ a) ++ addresses_laid more

-- the items of addresses laid out from place at on
unfoldable pub addresses_read : ℕ → List (List ℕ) → Items
addresses_read at [] = none
addresses_read at (a ∷ more) = leaf 0 (part (at + 1) (length a)) none ⊕ addresses_read (at + 1 + length a) more

-- the octets of s at those places are the addresses
unfoldable pub AddressesStand : List ℕ → ℕ → List (List ℕ) → Type 0
AddressesStand s at [] = Unit
AddressesStand s at (a ∷ more) = (take (length a) (drop (at + 1) s) ≡ a) × AddressesStand s (at + 1 + length a) more

-- NSAP addresses have at most 20 octets
unfoldable pub Short : List (List ℕ) → Type 0
Short [] = Unit
Short (a ∷ more) = (length a ≤ 20) × Short more

-- ---- options
pub record Option : Type 0 where
  pub code : ℕ
  pub value : List ℕ

unfoldable pub options_laid : List Option → List ℕ
options_laid [] = []
options_laid (o ∷ os) = (o.code ∷ length o.value ∷ o.value) ++ options_laid os

unfoldable pub options_read : ℕ → List Option → Items
options_read at [] = none
options_read at (o ∷ os) = option o.code (at + 2) (length o.value) ⊕ options_read (at + 2 + length o.value) os

unfoldable pub OptionsStand : List ℕ → ℕ → List Option → Type 0
OptionsStand s at [] = Unit
OptionsStand s at (o ∷ os) = (take (length o.value) (drop (at + 2) s) ≡ o.value) × OptionsStand s (at + 2 + length o.value) os

-- ---- an ESH (type 2): the count of source addresses, these, and options
abbrev pub esh_laid : Fields → List (List ℕ) → List Option → List ℕ
esh_laid f more os = laid f (length more ∷ (addresses_laid more ++ options_laid os))

-- an ISH (type 4): one network entity title, and options
abbrev pub ish_laid : Fields → List ℕ → List Option → List ℕ
ish_laid f net os = laid f (addresses_laid (net ∷ []) ++ options_laid os)

-- ---- the records they are read as
abbrev pub record_read : Fields → ℕ → Items → Items
record_read f n rest =
    leaf k_protocol (text t_es_is) none ⊕ (leaf k_payload_len (number n) none
    ⊕ (leaf k_type (text (type_of f.type)) none ⊕ (leaf k_holding_time_s (number f.holding) none ⊕ rest)))

abbrev pub esh_read : Fields → List (List ℕ) → List Option → Items
esh_read f more os =
    record_read f (length (esh_laid f more os)) (in_list k_addresses (addresses_read 10 more) ⊕ in_list k_options (options_read (10 + length (addresses_laid more)) os))

abbrev pub ish_read : Fields → List ℕ → List Option → Items
ish_read f net os =
    record_read f (length (ish_laid f net os)) (in_list k_addresses (addresses_read 9 (net ∷ [])) ⊕ in_list k_options (options_read (10 + length net) os))
