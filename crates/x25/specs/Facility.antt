-- The facilities of a call packet: `parse_facilities`.
use Rattle.std.specs.Prelude.{ℕ, ◌+◌, ◌/◌, true, Option, None, List, ltb, leb, length, get_or}
use Rattle.octets.specs.Text.{pick}
use Rattle.names.specs.Numbers.{k_code, k_params}
use Rattle.cells.specs.Items.{Items, none, leaf, group, octet, part}
use Rattle.cells.specs.Walk.{Step, step_of, body, items_from, left_from}
use Rattle.cells.specs.declared.entry.Body.{Body}

-- parameters of n octets from start on, if the part has them
abbrev pub body_at : List ℕ → ℕ → ℕ → Option Body
body_at s start n = pick (leb (start + n) (length s)) (body start n) None

-- the code's class, its top two bits, says how many octets of parameters follow: one, two, three, or as many as an octet
-- between them and the code says
unfoldable pub fac_at : List ℕ → ℕ → Option Body
fac_at s i =
    pick (leb (get_or s i 0 / 64) 2) (body_at s (i + 1) (get_or s i 0 / 64 + 1))
    (pick (ltb (i + 1) (length s)) (body_at s (i + 2) (get_or s (i + 1) 0)) None)

-- one facility, whose parameters have this place in the input
abbrev pub facility : ℕ → ℕ → ℕ → Items
facility code at len = group true 0 (leaf k_code (octet code) (leaf k_params (part at len) none)) none

abbrev pub fac_step : ℕ → List ℕ → ℕ → Step Items
fac_step base s i = step_of (λ start len. facility (get_or s i 0) (base + start) len) (fac_at s i)

-- the facilities of a part that stands at place base of the input, and how many of its octets are left unread
abbrev pub fac_items : ℕ → List ℕ → Items
fac_items base s = items_from (fac_step base s) (length s) 0

abbrev pub fac_left : List ℕ → ℕ
fac_left s = left_from (fac_step 0 s) (length s) 0
