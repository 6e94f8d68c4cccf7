-- The text of a number in decimal, and of octets in hex.
use Rattle.std.specs.Prelude.{List, [], ◌∷◌, ◌++◌, Bool, true, false, ℕ, zero, suc, ◌+◌, ◌-◌, ◌*◌, ◌/◌, ◌%◌, leb, ltb}
use Rattle.octets.specs.Read.{octets_of}

abbrev pub pick : {A : Type 0} → Bool → A → A → A
pick true a b = a
pick false a b = b

-- at most the last k decimal digits of n, with no zero in front
unfoldable pub digits : ℕ → ℕ → List ℕ
digits zero n = []
digits (suc k) n = pick (leb 10 n) (digits k (n / 10)) [] ++ ((48 + n % 10) ∷ [])

-- a number below 10 ^ 10 in decimal
abbrev pub decimal : ℕ → List ℕ
decimal n = digits 10 n

-- the value of decimal digits, read on from h
abbrev pub value_from : ℕ → List ℕ → ℕ
value_from h [] = h
value_from h (x ∷ xs) = value_from (h * 10 + (x - 48)) xs

-- 0 to 9, a to f
unfoldable pub hex_digit : ℕ → ℕ
hex_digit n = pick (ltb n 10) (48 + n) (87 + n)

-- an octet as two digits
unfoldable pub hex_octet : ℕ → List ℕ
hex_octet x = hex_digit (x / 16) ∷ hex_digit (x % 16) ∷ []

-- the texts of the elements, one after the other
unfoldable pub each : (ℕ → List ℕ) → List ℕ → List ℕ
each f [] = []
each f (x ∷ xs) = f x ++ each f xs

-- octets in hex
abbrev pub hex : List ℕ → List ℕ
hex s = each hex_octet s

-- an octet as 0x and two digits
abbrev pub hex0x : ℕ → List ℕ
hex0x x = 48 ∷ 120 ∷ hex_octet x

-- a number of 32 bits as eight digits
abbrev pub hex_word : ℕ → List ℕ
hex_word n = hex (octets_of 4 n)
