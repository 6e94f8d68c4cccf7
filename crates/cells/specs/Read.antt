-- Cells read back, one after the other, with the groups that are open around them. Where document 01 says when cells are
-- well formed for an input, this is:
--   one object                             `step` at `start` and at `done`, `finish`
--   groups nest and close                  `closed`, `finish`
--   exactly an object's members have a key `field_ok`
--   a yes/no is 0 or 1                     `leaf_ok`, fFlag
--   a form 8 value below 256               `leaf_ok`, fOctet
--   a prefix's length ceil(bits/8)         `prefix_ok`
--   depths are right                       `placed` and `closes`, by the height of the stack
--   field and text numbers are listed      `field_ok`, `text_ok`
--   every named part inside the input      `leaf_ok`, fPart; `prefix_ok`
--   unused fields are 0                    lengths in `leaf_ok`, `below`, `text_ok`; `bare`; a closing cell's field in `closes`
use Rattle.std.specs.Prelude.{List, [], ◌∷◌, Bool, true, false, ◌&&◌, ℕ, zero, suc, ◌+◌, ◌/◌, ◌%◌, eqb, leb, ltb}
use Rattle.std.specs.Prelude.{Option, Some, None}
use Rattle.std.proofs.Math.Option as math
use Rattle.std.proofs.Math.Option.{none, some}
use Rattle.octets.specs.Text.{pick}
use Rattle.names.specs.Numbers.{last_field, last_text}
use Rattle.cells.specs.Cell.{field_of, form_of, depth_of, len_of, value_of, f_number, f_flag, f_part, f_text, f_object, f_list, f_close, f_prefix, f_octet, f_word}
use Rattle.cells.specs.Items as items
use Rattle.cells.specs.Items.{Leaf, number, flag, part, text, prefix, octet, word, Items, ◌⊕◌, open_cell}
use Rattle.cells.specs.declared.class.Class.{Class}
use Rattle.cells.specs.declared.class.Class.TheVariants.{Leafy, Object, Entries, Close}

-- exactly an object's members have a key
unfoldable pub field_ok : Bool → ℕ → Bool
field_ok true f = ltb 0 f && leb f last_field
field_ok false f = eqb f 0

-- a length that is unused and so 0, and a value below a bound
unfoldable pub below : ℕ → ℕ → ℕ → Bool
below bound len v = eqb len 0 && ltb v bound

unfoldable pub text_ok : ℕ → ℕ → Bool
text_ok len v = eqb len 0 && (ltb 0 v && leb v last_text)

-- the value is place · 256 + bits
unfoldable pub prefix_ok : ℕ → ℕ → ℕ → Bool
prefix_ok n len v = eqb len ((v % 256 + 7) / 8) && leb (v / 256 + len) n

-- a leaf's form, length and value, for an input of n octets
unfoldable pub leaf_ok : ℕ → ℕ → ℕ → ℕ → Bool
leaf_ok n form len v =
    pick (eqb form f_number) (eqb len 0)
    (pick (eqb form f_flag) (below 2 len v)
    (pick (eqb form f_part) (leb (v + len) n)
    (pick (eqb form f_text) (text_ok len v)
    (pick (eqb form f_prefix) (prefix_ok n len v)
    (pick (eqb form f_octet) (below 256 len v)
    (pick (eqb form f_word) (eqb len 0) false))))))

unfoldable pub leaf_of : ℕ → ℕ → ℕ → Leaf
leaf_of form len v =
    pick (eqb form f_number) (number v)
    (pick (eqb form f_flag) (flag v)
    (pick (eqb form f_part) (part v len)
    (pick (eqb form f_text) (text v)
    (pick (eqb form f_prefix) (prefix (v / 256) len (v % 256))
    (pick (eqb form f_octet) (octet v) (word v))))))

-- the leaf that a cell holds
abbrev pub leaf_in : ℕ → Leaf
leaf_in c = leaf_of (form_of c) (len_of c) (value_of c)

-- a cell with no length and no value
unfoldable pub bare : ℕ → Bool
bare c = eqb (len_of c) 0 && eqb (value_of c) 0

-- a cell that closes a group, with d groups open inside it
unfoldable pub closes : ℕ → ℕ → Bool
closes d c = eqb (depth_of c + 1) d && (eqb (field_of c) 0 && bare c)

-- an item, with d groups open around it, that has a key or none as it should
unfoldable pub placed : Bool → ℕ → ℕ → Bool
placed keyed d c = eqb (depth_of c) d && field_ok keyed (field_of c)

-- what an item is
unfoldable pub item_class : ℕ → ℕ → Option Class
item_class n c =
    pick (eqb (form_of c) f_object) (pick (bare c) (Some Object) None)
    (pick (eqb (form_of c) f_list) (pick (bare c) (Some Entries) None) (pick (leaf_ok n (form_of c) (len_of c) (value_of c)) (Some Leafy) None))

-- what a cell is, inside an object or a list, with d groups open around it
unfoldable pub class_of : ℕ → Bool → ℕ → ℕ → Option Class
class_of n keyed d c = pick (eqb (form_of c) f_close) (pick (closes d c) (Some Close) None) (pick (placed keyed d c) (item_class n c) None)

-- the groups around the one that is read: each with whether it is an object, what it has before the group inside, and that
-- group's field number
pub data Stack : Type 0 where
  root : Stack
  push : Bool → ℕ → Items → Stack → Stack

abbrev pub height : Stack → ℕ
height root = zero
height (push k f acc st) = suc (height st)

-- before the first cell; inside a group, with what it has so far; behind the last cell
pub data State : Type 0 where
  start : State
  going : Bool → Items → Stack → State
  done : Items → State

-- a group ends
abbrev pub closed : Bool → Items → Stack → State
closed k acc root = done acc
closed k acc (push k' f before st) = going k' (before ⊕ items.group k f acc items.none) st

abbrev pub turn : Option Class → ℕ → Bool → Items → Stack → math.Option State
turn (Some Leafy) c k acc st = some (going k (acc ⊕ items.leaf (field_of c) (leaf_in c) items.none) st)
turn (Some Object) c k acc st = some (going true items.none (push k (field_of c) acc st))
turn (Some Entries) c k acc st = some (going false items.none (push k (field_of c) acc st))
turn (Some Close) c k acc st = some (closed k acc st)
turn None c k acc st = none

-- the first cell opens an object, with no group open and no key
unfoldable pub step : ℕ → ℕ → State → math.Option State
step n c start = pick (eqb c (open_cell 0 true 0)) (some (going true items.none root)) none
step n c (going k acc st) = turn (class_of n k (height st + 1) c) c k acc st
step n c (done is) = none

abbrev pub and_then : math.Option State → (State → math.Option Items) → math.Option Items
and_then none f = none
and_then (some s) f = f s

abbrev pub finish : State → math.Option Items
finish start = none
finish (going k acc st) = none
finish (done is) = some is

unfoldable pub read : ℕ → List ℕ → State → math.Option Items
read n [] s = finish s
read n (c ∷ cs) s = and_then (step n c s) (read n cs)

-- the members of the object that the cells are, for an input of n octets; nothing where they are not well formed
unfoldable pub items_of : ℕ → List ℕ → math.Option Items
items_of n cs = read n cs start
