-- The cells of a PDU.
use mathlib.Core.Path.{◌≡◌, sym}
use mathlib.Core.List.{List, []}
use mathlib.Core.Bool.{true, false, ◌&&◌}
use Prim.Native.Nat.{ℕ}
use Rattle.octets.proofs.Picks.{pick_yes, pick_no}
use Rattle.cells.specs.Items.{record_of, flat}
use Rattle.clnp.specs.Segment.{headed, addresses_of}
use Rattle.clnp.specs.Pdu.{members_of, has_addresses, clnp_cells}

pub no_cells : (s : List ℕ) → (headed s && has_addresses (addresses_of s)) ≡ false → clnp_cells s ≡ []
unfolding clnp_cells
no_cells s h = pick_no (flat 0 (record_of (members_of s))) [] h

pub cells_are : (s : List ℕ) → (headed s && has_addresses (addresses_of s)) ≡ true → flat 0 (record_of (members_of s)) ≡ clnp_cells s
unfolding clnp_cells
cells_are s h = sym (pick_yes (flat 0 (record_of (members_of s))) [] h)
