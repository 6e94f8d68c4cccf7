-- `clnp_segment`, `clnp_addresses` and `clnp_cotp_tpdu`.
use Rattle.std.specs.Prelude.{ℕ, ◌+◌, ◌/◌, ◌%◌, Bool, false, not, ◌&&◌, ◌||◌, List, Option, Some, None, ltb, leb, eqb, length, get_or}
use Rattle.octets.specs.Text.{pick}
use Rattle.octets.specs.Read.{be16}
use Rattle.clnp.specs.declared.segment.Segment.{Segment}
use Rattle.clnp.specs.declared.segment.Addresses.{Addresses}

-- a full CLNP header: nine octets, protocol 0x81, a header length of nine or more that the octets have
abbrev pub headed : List ℕ → Bool
headed s = leb 9 (length s) && (eqb (get_or s 0 0) 0x81 && (leb 9 (get_or s 1 0) && leb (get_or s 1 0) (length s)))

-- bits of the flags' octet: segmentation permitted, more segments, error report
abbrev pub sp : List ℕ → Bool
sp s = leb 128 (get_or s 4 0)

abbrev pub more : List ℕ → ℕ
more s = get_or s 4 0 / 64 % 2

abbrev pub report : List ℕ → ℕ
report s = get_or s 4 0 / 32 % 2

-- the place behind an address whose length octet stands at p
abbrev pub behind : List ℕ → ℕ → ℕ
behind s p = p + 1 + get_or s p 0

-- the segmentation part behind the two addresses, whatever their lengths: bounded by the octets, not by the header
abbrev pub seg_at : List ℕ → ℕ
seg_at s = behind s (behind s 9)

-- the fields of a segmentation part at p
abbrev pub fields_at : List ℕ → ℕ → Segment
fields_at s p = record {
  id = be16 (get_or s p 0) (get_or s (p + 1) 0);
  offset = be16 (get_or s (p + 2) 0) (get_or s (p + 3) 0);
  total = be16 (get_or s (p + 4) 0) (get_or s (p + 5) 0);
  more = more s;
  header = get_or s 1 0;
}

unfoldable pub segment_of : List ℕ → Option Segment
segment_of s =
    pick (not (headed s && sp s)) None
    (pick (leb (length s) 9) None
    (pick (leb (length s) (behind s 9)) None
    (pick (ltb (length s) (seg_at s + 6)) None (Some (fields_at s (seg_at s))))))

-- an address at p: at most 20 octets, which are there
abbrev pub address_ok : List ℕ → ℕ → Bool
address_ok s p = ltb p (length s) && (leb (behind s p) (length s) && leb (get_or s p 0) 20)

-- destination and source, each with its place and length
unfoldable pub addresses_of : List ℕ → Option Addresses
addresses_of s =
    pick (address_ok s 9 && address_ok s (behind s 9)) (Some (record { dst = 10; dstlen = get_or s 9 0; src = behind s 9 + 1; srclen = get_or s (behind s 9) 0 })) None

-- a piece of a segmented unit: more follow, or it does not begin the unit
abbrev pub is_piece : Option Segment → Bool
is_piece None = false
is_piece (Some g) = eqb g.more 1 || not (eqb g.offset 0)

-- the data part of a whole DT PDU, by its place
unfoldable pub tpdu_of : List ℕ → Option ℕ
tpdu_of s =
    pick (not (headed s)) None
    (pick (not (eqb (get_or s 4 0 % 32) 0x1C)) None
    (pick (sp s && is_piece (segment_of s)) None (Some (get_or s 1 0))))

-- answer 3, 15 or 0, and the place of the part: the end of the octets where there is none
abbrev pub tpdu_answer : List ℕ → Option ℕ → ℕ
tpdu_answer s None = pick (ltb 65535 (length s)) 3 15
tpdu_answer s (Some p) = pick (ltb 65535 (length s)) 3 0

abbrev pub tpdu_place : List ℕ → Option ℕ → ℕ
tpdu_place s None = length s
tpdu_place s (Some p) = pick (ltb 65535 (length s)) (length s) p
