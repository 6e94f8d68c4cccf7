-- The JSON text of a record, without spaces.
use Rattle.std.specs.Prelude.{List, [], ◌∷◌, ◌++◌, Bool, true, false, ℕ, eqb, take, drop}
use Rattle.octets.specs.Text.{pick, decimal, hex, hex0x, hex_word}
use Rattle.names.specs.Ascii.{octets}
use Rattle.names.specs.Keys.{key_text}
use Rattle.names.specs.Texts.{text_of}
use Rattle.cells.specs.Items.{Leaf, number, flag, part, text, prefix, octet, word, Items, none, leaf, group}

abbrev pub quote : ℕ
quote = 34

abbrev pub quoted : List ℕ → List ℕ
quoted s = (quote ∷ []) ++ s ++ (quote ∷ [])

abbrev pub flag_text : ℕ → List ℕ
flag_text n = pick (eqb n 1) (octets "true") (octets "false")

-- the value of a leaf, for an input
unfoldable pub leaf_text : List ℕ → Leaf → List ℕ
leaf_text inp (number n) = decimal n
leaf_text inp (flag n) = flag_text n
leaf_text inp (part at len) = quoted (hex (take len (drop at inp)))
leaf_text inp (text n) = quoted (text_of n)
leaf_text inp (prefix at len bits) = quoted (hex (take len (drop at inp)) ++ octets "/" ++ decimal bits)
leaf_text inp (octet n) = quoted (hex0x n)
leaf_text inp (word n) = quoted (hex_word n)

-- a comma, unless it is the first
unfoldable pub comma : Bool → List ℕ
comma first = pick first [] (octets ",")

-- in an object the key, in quotes, and a colon
unfoldable pub name : Bool → ℕ → List ℕ
name keyed f = pick keyed (quoted (key_text f) ++ octets ":") []

unfoldable pub lead : Bool → Bool → ℕ → List ℕ
lead keyed first f = comma first ++ name keyed f

-- the brackets of an object and of a list
abbrev pub opens : Bool → ℕ
opens true = 123
opens false = 91

abbrev pub closes : Bool → ℕ
closes true = 125
closes false = 93

-- the text of a row inside an object (keyed) or a list
unfoldable pub row_text : List ℕ → Bool → Bool → Items → List ℕ
row_text inp keyed first none = []
row_text inp keyed first (leaf f v xs) = lead keyed first f ++ leaf_text inp v ++ row_text inp keyed false xs
row_text inp keyed first (group g f is xs) =
    lead keyed first f ++ (opens g ∷ []) ++ row_text inp g true is ++ (closes g ∷ []) ++ row_text inp keyed false xs

-- the text of an object with these members
unfoldable pub json_of : List ℕ → Items → List ℕ
json_of inp kids = (opens true ∷ []) ++ row_text inp true true kids ++ (closes true ∷ [])
