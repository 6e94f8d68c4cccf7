-- What the exported functions say in numbers.
use Rattle.std.specs.Prelude.{ℕ, ◌≡◌, Bool, true, false, Option, Some, None, List, [], ◌∷◌, length}
use Rattle.octets.specs.Emit.{put}
use Rattle.cells.specs.Answer.{answer_to, number_of, count_of, output_of}
use Rattle.cotp.specs.declared.segment.Segment.{Segment}
use Rattle.clnp.specs.declared.segment.Segment as clnp
use Rattle.clnp.specs.declared.segment.Addresses.{Addresses}

-- for an input of size octets that has the result xs: the answer's number, the output, and its count said
pub record Told (size : ℕ) (xs old new : List ℕ) (number : ℕ) (said said' : List ℕ) : Type 0 where
  pub answered : number ≡ number_of (answer_to size xs (length old))
  pub output : new ≡ output_of (answer_to size xs (length old)) xs old
  pub counted : said' ≡ put said 0 (count_of (answer_to size xs (length old)) ∷ [])

abbrev pub is_piece : Option Segment → Bool
is_piece None = false
is_piece (Some s) = true

abbrev pub piece_numbers : Option Segment → List ℕ
piece_numbers None = []
piece_numbers (Some s) = s.dst ∷ s.eot ∷ s.number ∷ s.user ∷ []

abbrev pub is_segment : Option clnp.Segment → Bool
is_segment None = false
is_segment (Some s) = true

abbrev pub segment_numbers : Option clnp.Segment → List ℕ
segment_numbers None = []
segment_numbers (Some s) = s.id ∷ s.offset ∷ s.total ∷ s.more ∷ s.header ∷ []

abbrev pub address_numbers : Option Addresses → List ℕ
address_numbers None = []
address_numbers (Some a) = a.dst ∷ a.dstlen ∷ a.src ∷ a.srclen ∷ []
