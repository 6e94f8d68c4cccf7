-- A cell of an item record as a number, its fields, and the names of its forms.
use Rattle.std.specs.Prelude.{ℕ, ◌+◌, ◌*◌, ◌/◌, ◌%◌}

-- fields most significant first: field 8 bits, form 4, depth 4, length 16, value 32
unfoldable pub cell_of : ℕ → ℕ → ℕ → ℕ → ℕ → ℕ
cell_of field form depth len value =
    field * 72057594037927936 + form * 4503599627370496 + depth * 281474976710656 + len * 4294967296 + value

unfoldable pub field_of : ℕ → ℕ
field_of c = c / 72057594037927936

unfoldable pub form_of : ℕ → ℕ
form_of c = c / 4503599627370496 % 16

unfoldable pub depth_of : ℕ → ℕ
depth_of c = c / 281474976710656 % 16

unfoldable pub len_of : ℕ → ℕ
len_of c = c / 4294967296 % 65536

unfoldable pub value_of : ℕ → ℕ
value_of c = c % 4294967296

-- ---- forms

-- a number, shown in decimal
abbrev pub f_number : ℕ
f_number = 0

-- yes or no, shown as true or false
abbrev pub f_flag : ℕ
f_flag = 1

-- octets of the input, shown in hex
abbrev pub f_part : ℕ
f_part = 2

-- a fixed text, by its number
abbrev pub f_text : ℕ
f_text = 3

-- an object opens
abbrev pub f_object : ℕ
f_object = 4

-- a list opens
abbrev pub f_list : ℕ
f_list = 5

-- the group that opened last closes
abbrev pub f_close : ℕ
f_close = 6

-- octets of the input in hex and a count of bits
abbrev pub f_prefix : ℕ
f_prefix = 7

-- an octet, shown as 0x and two digits
abbrev pub f_octet : ℕ
f_octet = 8

-- a number of 32 bits, shown as eight hex digits
abbrev pub f_word : ℕ
f_word = 9
