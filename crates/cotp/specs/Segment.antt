-- `cotp_dt_segment`: a DT TPDU as a piece of a unit.
use Rattle.std.specs.Prelude.{ℕ, ◌+◌, ◌/◌, ◌%◌, not, List, Option, Some, None, ltb, eqb, length, get_or}
use Rattle.octets.specs.Text.{pick}
use Rattle.octets.specs.Read.{be16}
use Rattle.cotp.specs.Tpdu.{seq_of}
use Rattle.cotp.specs.declared.segment.Segment.{Segment}

-- destination reference, end mark, number, and the place of the user data; LI is 1 to 254 and within the octets, and the fixed
-- part is bounded by the octets, not by LI
unfoldable pub segment_of : List ℕ → Option Segment
segment_of s =
    let li = get_or s 0 0 in
    let extended = eqb (li % 2) 1 in
    pick (ltb (length s) (li + 1)) None
    (pick (eqb li 0) None
    (pick (eqb li 255) None
    (pick (not (eqb (get_or s 1 0 / 16) 15)) None
    (pick (ltb (length s) (pick extended 8 5)) None
    (Some (record { dst = be16 (get_or s 2 0) (get_or s 3 0); eot = get_or s 4 0 / 128; number = seq_of s extended; user = li + 1 }))))))

-- where the user data begins, or the end of the octets where there is none
abbrev pub user_from : List ℕ → Option Segment → ℕ
user_from s None = length s
user_from s (Some g) = g.user
