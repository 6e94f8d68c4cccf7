-- Trees whose cells are well formed for an input of n octets, said of the tree itself.
use Rattle.std.specs.Prelude.{◌≡◌, Bool, true, false, ℕ, ◌+◌, ◌/◌, ◌≤◌, ◌<◌}
use Rattle.names.specs.Numbers.{last_field, last_text}
use Rattle.cells.specs.Items.{Leaf, number, flag, part, text, prefix, octet, word, Items, none, leaf, group}

-- exactly an object's members have a key
abbrev pub Key : Bool → ℕ → Type 0
Key true f = (0 < f) × (f ≤ last_field)
Key false f = f ≡ 0

abbrev pub GoodLeaf : ℕ → Leaf → Type 0
GoodLeaf n (number v) = v < 4294967296
GoodLeaf n (flag v) = v < 2
GoodLeaf n (part at len) = at + len ≤ n
GoodLeaf n (text v) = (0 < v) × (v ≤ last_text)
GoodLeaf n (prefix at len bits) = (bits < 256) × (len ≡ (bits + 7) / 8) × (at + len ≤ n)
GoodLeaf n (octet v) = v < 256
GoodLeaf n (word v) = v < 4294967296

-- a row inside an object (true) or a list, with d groups open around it; a cell has 4 bits for that count
abbrev pub GoodRow : ℕ → Bool → ℕ → Items → Type 0
GoodRow n k d none = Unit
GoodRow n k d (leaf f v xs) = (d < 16) × Key k f × GoodLeaf n v × GoodRow n k d xs
GoodRow n k d (group g f is xs) = (d < 16) × Key k f × GoodRow n g (d + 1) is × GoodRow n k d xs

-- the members of a record
abbrev pub Good : ℕ → Items → Type 0
Good n kids = GoodRow n true 1 kids
