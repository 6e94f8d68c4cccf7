-- The cases of document 01 that are marked P, in one list.
use Rattle.std.specs.Prelude.{◌≡◌, List, [], ◌∷◌, ◌++◌, ℕ, Some, None, replicate}
use Rattle.names.specs.Numbers.{k_lcn, k_kind, k_more, k_cause, t_restart_request}
use Rattle.cells.specs.Items.{Items, none, leaf, number, flag, text, record_of, flat}
use Rattle.cells.specs.Answer.{number_of}
use Rattle.x25.specs.Packet.{x25_cells, x25_answer}
use Rattle.cotp.specs.Segment as cotp
use Rattle.clnp.specs.Segment as clnp
use Rattle.clnp.specs.declared.segment.Segment.{Segment}

-- an X.25 packet has the cells of the record with these members; the answer on one is this number, whatever room is lent; octets
-- are no piece for a COTP push; octets have this segmentation part of CLNP, and no addresses that can be read
pub data Case : Type 0 where
  recorded : List ℕ → Items → Case
  answered : List ℕ → ℕ → Case
  no_piece : List ℕ → Case
  unaddressed : List ℕ → Segment → Case

abbrev pub Holds : Case → Type 0
Holds (recorded s kids) = x25_cells s ≡ flat 0 (record_of kids)
Holds (answered s n) = (room : ℕ) → number_of (x25_answer s room) ≡ n
Holds (no_piece s) = cotp.segment_of s ≡ None
Holds (unaddressed s g) = (clnp.segment_of s ≡ Some g) × (clnp.addresses_of s ≡ None)

abbrev pub Every : List Case → Type 0
Every [] = Unit
Every (c ∷ cs) = Holds c × Every cs

-- restart: cause 0, no cause text
abbrev pub restart : Case
restart =
    recorded (0x10 ∷ 0x00 ∷ 0xFB ∷ 0x85 ∷ [])
    (leaf k_lcn (number 0) (leaf k_kind (text t_restart_request) (leaf k_more (flag 0) (leaf k_cause (number 0) none))))

-- two octets, X.25: 15 from parse
abbrev pub two_octets : Case
two_octets = answered (0x10 ∷ 0x00 ∷ []) 15

-- COTP F0 piece with LI 0, and with LI 255 and as many octets
abbrev pub no_length_lem : Case
no_length_lem = no_piece (0x00 ∷ 0xF0 ∷ 0x00 ∷ 0x01 ∷ 0x80 ∷ 0x41 ∷ [])

abbrev pub longest : Case
longest = no_piece (0xFF ∷ 0xF0 ∷ 0x00 ∷ 0x01 ∷ 0x80 ∷ replicate 252 0x41)

-- CLNP destination length 21, else a well-formed middle piece: number 7 at offset 2 of 42 - 39 octets
abbrev pub far_destination : Case
far_destination =
    unaddressed
    (0x81 ∷ 0x27 ∷ 0x01 ∷ 0x10 ∷ 0xDC ∷ 0x00 ∷ 0x28 ∷ 0x00 ∷ 0x00 ∷ 0x15 ∷ (replicate 21 0x0A ++ (0x01 ∷ 0x0B ∷ 0x00 ∷ 0x07 ∷ 0x00 ∷ 0x02 ∷ 0x00 ∷ 0x2A ∷ 0x43 ∷ [])))
    (record { id = 7; offset = 2; total = 42; more = 1; header = 39 })

abbrev pub cases : List Case
cases = restart ∷ two_octets ∷ no_length_lem ∷ longest ∷ far_destination ∷ []
