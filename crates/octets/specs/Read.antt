-- Numbers read from octets, most significant first, and the octets of a number.
use Rattle.std.specs.Prelude.{List, [], ◌∷◌, ◌++◌, ℕ, zero, suc, ◌+◌, ◌*◌, ◌/◌, ◌%◌}

-- two octets as a number of 16 bits, and four as one of 32
abbrev pub be16 : ℕ → ℕ → ℕ
be16 a b = a * 256 + b

abbrev pub be32 : ℕ → ℕ → ℕ → ℕ → ℕ
be32 a b c d = be16 (be16 (be16 a b) c) d

-- any count of octets as a number, read on from h
abbrev pub big_endian_from : ℕ → List ℕ → ℕ
big_endian_from h [] = h
big_endian_from h (x ∷ xs) = big_endian_from (be16 h x) xs

abbrev pub big_endian : List ℕ → ℕ
big_endian xs = big_endian_from 0 xs

-- the last w octets of a number
abbrev pub octets_of : ℕ → ℕ → List ℕ
octets_of zero n = []
octets_of (suc w) n = octets_of w (n / 256) ++ (n % 256 ∷ [])
