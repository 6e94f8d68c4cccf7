-- ITU-T X.25's packets, laid out as the recommendation draws them: octets from fields.
use Rattle.std.specs.Prelude.{ℕ, ◌+◌, ◌*◌, ◌/◌, ◌≤◌, ◌<◌, ◌≡◌, List, [], ◌∷◌, ◌++◌, ltb, length}
use Rattle.octets.specs.Text.{pick}
use Rattle.cells.specs.Items.{Items, none, ◌⊕◌}
use Rattle.x25.specs.Facility.{facility}

-- octets 1 and 2: the general format (Q and D bits over 1 at modulo 8, 2 at modulo 128), the channel's group, its number
abbrev pub head : ℕ → ℕ → ℕ → ℕ → List ℕ → List ℕ
head qd format g n rest = ((qd * 4 + format) * 16 + g) ∷ n ∷ rest

-- the sequence part as one number: a bit 0, P(S), the more bit, P(R), numbers at modulus m; one octet at modulo 8, two (the
-- low one first) at modulo 128
abbrev pub sequence : ℕ → ℕ → ℕ → ℕ → ℕ
sequence m pr more ps = 2 * (ps + m * (more + 2 * pr))

-- a data packet at modulo 8
abbrev pub data_laid : ℕ → ℕ → ℕ → ℕ → ℕ → ℕ → List ℕ → List ℕ
data_laid qd g n pr more ps user = head qd 1 g n (sequence 8 pr more ps ∷ user)

-- RR, RNR and REJ: P(R) over the five bits of the type, 1, 5 or 9
abbrev pub numbered_laid : ℕ → ℕ → ℕ → ℕ → ℕ → List ℕ
numbered_laid qd g n pr code = head qd 1 g n ((pr * 32 + code) ∷ [])

-- clear, reset and restart requests: the type, a cause and a diagnostic, and what may follow
abbrev pub request_laid : ℕ → ℕ → ℕ → ℕ → ℕ → ℕ → List ℕ → List ℕ
request_laid t qd g n cause diagnostic more = head qd 1 g n (t ∷ cause ∷ diagnostic ∷ more)

-- their confirmations: the type alone
abbrev pub confirmation_laid : ℕ → ℕ → ℕ → ℕ → List ℕ → List ℕ
confirmation_laid t qd g n more = head qd 1 g n (t ∷ more)

-- a diagnostic packet: a code and its explanation
abbrev pub diagnostic_laid : ℕ → ℕ → ℕ → ℕ → List ℕ → List ℕ
diagnostic_laid qd g n code explanation = head qd 1 g n (0xF1 ∷ code ∷ explanation)

-- ---- calls
-- digits two in an octet, the first one high; a last one over 0
unfoldable pub packed : List ℕ → List ℕ
packed [] = []
packed (d ∷ []) = d * 16 ∷ []
packed (d ∷ (e ∷ ds)) = (d * 16 + e) ∷ packed ds

-- the address block: how many digits the calling and the called address have, then the called and the calling digits
abbrev pub addresses_laid : List ℕ → List ℕ → List ℕ
addresses_laid called calling = (length calling * 16 + length called) ∷ packed (called ++ calling)

pub record Facility : Type 0 where
  pub code : ℕ
  pub params : List ℕ

-- the class of a facility, its code's top two bits: one, two or three octets of parameters, or their count in an octet
abbrev pub facility_laid : Facility → List ℕ
facility_laid f = pick (ltb (f.code / 64) 3) (f.code ∷ f.params) (f.code ∷ length f.params ∷ f.params)

unfoldable pub facilities_laid : List Facility → List ℕ
facilities_laid [] = []
facilities_laid (f ∷ fs) = facility_laid f ++ facilities_laid fs

-- a facility that can be laid out
pub record Right (f : Facility) : Type 0 where
  pub octet : f.code < 256
  pub classed : f.code / 64 < 3 → length f.params ≡ f.code / 64 + 1
  pub counted : 3 ≤ f.code / 64 → length f.params < 256

unfoldable pub AllRight : List Facility → Type 0
AllRight [] = Unit
AllRight (f ∷ fs) = Right f × AllRight fs

-- a call request (type 0x0B) or accept (0x0F): addresses, the facilities' length, the facilities, call user data
abbrev pub call_laid : ℕ → ℕ → ℕ → ℕ → List ℕ → List ℕ → List Facility → List ℕ → List ℕ
call_laid t qd g n called calling fs user =
    head qd 1 g n (t ∷ (addresses_laid called calling ++ (length (facilities_laid fs) ∷ (facilities_laid fs ++ user))))

-- the place at which its facilities begin
abbrev pub facilities_at : List ℕ → List ℕ → ℕ
facilities_at called calling = 5 + length (packed (called ++ calling))

-- the items of facilities that are laid out from place at on: each with the place of its parameters
unfoldable pub facilities_read : ℕ → List Facility → Items
facilities_read at [] = none
facilities_read at (f ∷ fs) =
    facility f.code (at + pick (ltb (f.code / 64) 3) 1 2) (length f.params) ⊕ facilities_read (at + length (facility_laid f)) fs
