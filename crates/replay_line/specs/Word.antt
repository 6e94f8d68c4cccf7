-- The words of a line: numbers and octets in hex.
use Rattle.std.specs.Prelude.{ℕ, ◌+◌, ◌-◌, ◌*◌, ◌%◌, Bool, ◌&&◌, ◌||◌, List, [], ◌∷◌, Option, Some, None, leb, eqb, length, get_or, drop}
use Rattle.octets.specs.Text.{pick, value_from}
use Rattle.octets.specs.Tests.{all}

-- the octets before the first that is sep
unfoldable pub up_to : ℕ → List ℕ → List ℕ
up_to sep [] = []
up_to sep (x ∷ xs) = pick (eqb x sep) [] (x ∷ up_to sep xs)

-- words are parted by one space: the first word, and what stands behind its space
abbrev pub word_of : List ℕ → List ℕ
word_of l = up_to 32 l

abbrev pub behind_word : List ℕ → List ℕ
behind_word l = drop (length (word_of l) + 1) l

-- ---- numbers: 1 to 10 decimal digits, up to 4,294,967,295
abbrev pub is_digit : ℕ → Bool
is_digit x = leb 48 x && leb x 57

abbrev pub value_of : List ℕ → ℕ
value_of w = value_from 0 w

unfoldable pub is_number : List ℕ → Bool
is_number w = leb 1 (length w) && (leb (length w) 10 && (all (λ i. is_digit (get_or w i 0)) (length w) && leb (value_of w) 4294967295))

abbrev pub number_in : List ℕ → Option ℕ
number_in w = pick (is_number w) (Some (value_of w)) None

-- ---- packets: at most 2,048 octets, each as two hex digits of either case; - where there are none
-- the value of a hex digit, and 16 for what is none
unfoldable pub digit_of : ℕ → ℕ
digit_of x =
    pick (is_digit x) (x - 48) (pick (leb 97 x && leb x 102) (x - 87) (pick (leb 65 x && leb x 70) (x - 55) 16))

abbrev pub is_hex : ℕ → Bool
is_hex x = leb (digit_of x) 15

abbrev pub hex_in : ℕ → Option ℕ
hex_in x = pick (is_hex x) (Some (digit_of x)) None

unfoldable pub pairs_of : List ℕ → List ℕ
pairs_of [] = []
pairs_of (x ∷ []) = []
pairs_of (x ∷ (y ∷ ys)) = (digit_of x * 16 + digit_of y) ∷ pairs_of ys

abbrev pub is_dash : List ℕ → Bool
is_dash w = eqb (length w) 1 && eqb (get_or w 0 0) 45

unfoldable pub is_packet : List ℕ → Bool
is_packet w =
    is_dash w || (leb 1 (length w) && (leb (length w) 4096 && (eqb (length w % 2) 0 && all (λ i. is_hex (get_or w i 0)) (length w))))

unfoldable pub packet_in : List ℕ → List ℕ
packet_in w = pick (is_dash w) [] (pairs_of w)
