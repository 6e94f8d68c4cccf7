-- Entries of a type octet, a length octet and a value: options and parameters.
use Rattle.std.specs.Prelude.{ℕ, ◌+◌, List, Option, None, leb, length, get_or}
use Rattle.octets.specs.Text.{pick}
use Rattle.cells.specs.declared.entry.Body.{Body}
use Rattle.cells.specs.Walk.{body}

-- the value of the entry at i, if the part has all of it
unfoldable pub tlv_at : List ℕ → ℕ → Option Body
tlv_at s i =
    pick (leb (i + 2) (length s)) (pick (leb (i + 2 + get_or s (i + 1) 0) (length s)) (body (i + 2) (get_or s (i + 1) 0)) None) None
