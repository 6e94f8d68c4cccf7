-- X.224's TPDUs, laid out as the recommendation draws them: octets from fields.
use Rattle.std.specs.Prelude.{ℕ, ◌+◌, ◌*◌, Bool, List, [], ◌∷◌, ◌++◌, length}
use Rattle.octets.specs.Text.{pick}
use Rattle.octets.specs.Read.{octets_of}
use Rattle.cells.specs.Items.{Items, none, ◌⊕◌}
use Rattle.cotp.specs.Params.{param}

-- LI counts the octets of the header behind it; user data follow
abbrev pub laid : List ℕ → List ℕ → List ℕ
laid header user = length header ∷ (header ++ user)

-- a reference
abbrev pub two : ℕ → List ℕ
two n = octets_of 2 n

-- connection request (code 0xE) and confirm (0xD): credit, references, class and options
abbrev pub connect_laid : ℕ → ℕ → ℕ → ℕ → ℕ → ℕ → List ℕ → List ℕ → List ℕ
connect_laid code credit dst src class options params user =
    laid ((code * 16 + credit) ∷ (two dst ++ (two src ++ ((class * 16 + options) ∷ params)))) user

-- disconnect request and confirm, and error
abbrev pub request_laid : ℕ → ℕ → ℕ → List ℕ → List ℕ → List ℕ
request_laid dst src reason params user = laid (0x80 ∷ (two dst ++ (two src ++ (reason ∷ params)))) user

abbrev pub confirm_laid : ℕ → ℕ → List ℕ → List ℕ
confirm_laid dst src params = laid (0xC0 ∷ (two dst ++ (two src ++ params))) []

abbrev pub error_laid : ℕ → ℕ → List ℕ → List ℕ
error_laid dst cause params = laid (0x70 ∷ (two dst ++ (cause ∷ params))) []

-- a number under an end mark: of 7 bits in the normal format, of 31 in the extended one
abbrev pub number_laid : Bool → ℕ → ℕ → List ℕ
number_laid extended mark n = pick extended (octets_of 4 (mark * 2147483648 + n)) ((mark * 128 + n) ∷ [])

-- data (code octet 0xF0, with the request of acknowledgement in its last bit) and expedited data (0x10)
abbrev pub data_laid : ℕ → Bool → ℕ → ℕ → ℕ → List ℕ → List ℕ → List ℕ
data_laid code extended dst eot n params user = laid (code ∷ (two dst ++ (number_laid extended eot n ++ params))) user

-- expedited acknowledgement
abbrev pub expedited_laid : Bool → ℕ → ℕ → List ℕ → List ℕ
expedited_laid extended dst n params = laid (0x20 ∷ (two dst ++ (number_laid extended 0 n ++ params))) []

-- acknowledgement (code 6) and reject (5): the credit in the code octet, or behind the number in the extended format
abbrev pub credit_laid : ℕ → Bool → ℕ → ℕ → ℕ → List ℕ → List ℕ
credit_laid code extended dst n credit params =
    laid (pick extended (code * 16) (code * 16 + credit) ∷ (two dst ++ (number_laid extended 0 n ++ (pick extended (two credit) [] ++ params)))) []

-- ---- parameters
pub record Parameter : Type 0 where
  pub code : ℕ
  pub value : List ℕ

unfoldable pub params_laid : List Parameter → List ℕ
params_laid [] = []
params_laid (p ∷ ps) = (p.code ∷ length p.value ∷ p.value) ++ params_laid ps

-- the items of parameters laid out in the part s from its place i on, where s stands at place base of the input
unfoldable pub params_read : ℕ → List ℕ → ℕ → List Parameter → Items
params_read base s i [] = none
params_read base s i (p ∷ ps) = param base s p.code (i + 2) (length p.value) ⊕ params_read base s (i + 2 + length p.value) ps
