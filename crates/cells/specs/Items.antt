-- A record as a tree of items, and its cells.
use Rattle.std.specs.Prelude.{List, [], ◌∷◌, ◌++◌, Bool, true, false, ℕ, ◌+◌, ◌*◌}
use Rattle.cells.specs.Cell.{cell_of, f_number, f_flag, f_part, f_text, f_object, f_list, f_close, f_prefix, f_octet, f_word}

-- a value with nothing inside; a part and a prefix name a place of the input, a length and, for a prefix, bits
pub data Leaf : Type 0 where
  number : ℕ → Leaf
  flag : ℕ → Leaf
  part : ℕ → ℕ → Leaf
  text : ℕ → Leaf
  prefix : ℕ → ℕ → ℕ → Leaf
  octet : ℕ → Leaf
  word : ℕ → Leaf

-- a row of items: none; a leaf under its field number, and the rest; a group (an object or a list) under its field number,
-- what is inside, and the rest
pub data Items : Type 0 where
  none : Items
  leaf : ℕ → Leaf → Items → Items
  group : Bool → ℕ → Items → Items → Items

infixr 20 ◌⊕◌
-- one row after the other
abbrev pub ◌⊕◌ : Items → Items → Items
none ⊕ ys = ys
(leaf f v xs) ⊕ ys = leaf f v (xs ⊕ ys)
(group g f is xs) ⊕ ys = group g f is (xs ⊕ ys)

-- a whole record: an object with no key around its members
abbrev pub record_of : Items → Items
record_of kids = group true 0 kids none

-- a list under a key, left out where it is empty
abbrev pub in_list : ℕ → Items → Items
in_list f none = none
in_list f (leaf g v xs) = group false f (leaf g v xs) none
in_list f (group o g is xs) = group false f (group o g is xs) none

-- ---- cells, at a depth

unfoldable pub leaf_cell : ℕ → ℕ → Leaf → ℕ
leaf_cell d f (number n) = cell_of f f_number d 0 n
leaf_cell d f (flag n) = cell_of f f_flag d 0 n
leaf_cell d f (part at len) = cell_of f f_part d len at
leaf_cell d f (text n) = cell_of f f_text d 0 n
leaf_cell d f (prefix at len bits) = cell_of f f_prefix d len (at * 256 + bits)
leaf_cell d f (octet n) = cell_of f f_octet d 0 n
leaf_cell d f (word n) = cell_of f f_word d 0 n

abbrev pub open_form : Bool → ℕ
open_form true = f_object
open_form false = f_list

abbrev pub open_cell : ℕ → Bool → ℕ → ℕ
open_cell d g f = cell_of f (open_form g) d 0 0

abbrev pub close_cell : ℕ → ℕ
close_cell d = cell_of 0 f_close d 0 0

-- the cells of a row
unfoldable pub flat : ℕ → Items → List ℕ
flat d none = []
flat d (leaf f v xs) = leaf_cell d f v ∷ flat d xs
flat d (group g f is xs) = open_cell d g f ∷ (flat (d + 1) is ++ (close_cell d ∷ flat d xs))
