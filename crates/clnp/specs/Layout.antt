-- ISO 8473's PDUs, laid out as the standard draws them: octets from fields.
use Rattle.std.specs.Prelude.{ℕ, ◌+◌, ◌*◌, ◌≤◌, ◌<◌, List, [], ◌∷◌, ◌++◌, eqb, length}
use Rattle.octets.specs.Text.{pick}
use Rattle.octets.specs.Read.{octets_of}
use Rattle.cells.specs.Items.{Items, none, ◌⊕◌}
use Rattle.clnp.specs.Options.{option}

abbrev pub two : ℕ → List ℕ
two n = octets_of 2 n

-- the fields of a PDU; SP, MS and E/R are 0 or 1, and the segmentation part is there where SP is 1
pub record Fields : Type 0 where
  pub version : ℕ
  pub lifetime : ℕ
  pub sp : ℕ
  pub ms : ℕ
  pub er : ℕ
  pub type : ℕ
  pub seg_len : ℕ
  pub checksum : ℕ
  pub dst : List ℕ
  pub src : List ℕ
  pub id : ℕ
  pub offset : ℕ
  pub total : ℕ
  pub options : List ℕ
  pub body : List ℕ

abbrev pub address_laid : List ℕ → List ℕ
address_laid a = length a ∷ a

abbrev pub segment_laid : Fields → List ℕ
segment_laid f = pick (eqb f.sp 1) (two f.id ++ (two f.offset ++ two f.total)) []

-- the address part, the segmentation part and the options part
abbrev pub behind_fixed : Fields → List ℕ
behind_fixed f = address_laid f.dst ++ (address_laid f.src ++ (segment_laid f ++ f.options))

-- the header length counts the nine octets of the fixed part and what follows it in the header
abbrev pub header_len : Fields → ℕ
header_len f = 9 + length (behind_fixed f)

-- the fixed part
abbrev pub fixed_laid : Fields → List ℕ
fixed_laid f =
    0x81 ∷ header_len f ∷ f.version ∷ f.lifetime ∷ (f.sp * 128 + f.ms * 64 + f.er * 32 + f.type) ∷ (two f.seg_len ++ two f.checksum)

abbrev pub laid : Fields → List ℕ
laid f = fixed_laid f ++ (behind_fixed f ++ f.body)

-- fields that can be laid out
pub record Right (f : Fields) : Type 0 where
  pub flags : (f.sp < 2) × (f.ms < 2) × (f.er < 2) × (f.type < 32)
  pub numbers : (f.seg_len < 65536) × (f.id < 65536) × (f.offset < 65536) × (f.total < 65536)
  pub addresses : (length f.dst ≤ 20) × (length f.src ≤ 20)
  pub header : header_len f < 255

-- ---- options
pub record Option : Type 0 where
  pub code : ℕ
  pub value : List ℕ

unfoldable pub options_laid : List Option → List ℕ
options_laid [] = []
options_laid (o ∷ os) = (o.code ∷ length o.value ∷ o.value) ++ options_laid os

-- the items of options laid out in the part s from its place i on, where s stands at place base of the input
unfoldable pub options_read : ℕ → List ℕ → ℕ → List Option → Items
options_read base s i [] = none
options_read base s i (o ∷ os) = option base s o.code (i + 2) (length o.value) ⊕ options_read base s (i + 2 + length o.value) os
