-- What the entry point gives: the answer, the output and the payload.
use Rattle.std.specs.Prelude.{◌≡◌, List, ℕ, length, drop}
use Rattle.cells.specs.Answer.{Answer, output_of}
use Rattle.x25.specs.Packet.{x25_cells, payload_for, x25_answer}

-- the octets s, where the output old was lent
pub record ParsedX25 (s old : List ℕ) (r : Answer) (new part : List ℕ) : Type 0 where
  pub answered : r ≡ x25_answer s (length old)
  pub output : new ≡ output_of (x25_answer s (length old)) (x25_cells s) old
  pub payload : part ≡ drop (payload_for s (x25_answer s (length old))) s
