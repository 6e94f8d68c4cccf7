use mathlib.Core.Path.{◌≡◌}
use Prim.Native.Nat.{◌≤◌}
use lib.ListN.{length, take}
use Rattle.octets.specs.Emit.{Emits}
use Rattle.octets.specs.Text.{hex}
use Rattle.octets.proofs.text.put_hex.Given as goal

-- The invariant: the first i octets of s are put in hex.
abbrev pub invariant-loop-x : goal.invariant-loop-x
invariant-loop-x l = (l.x-index ≤ length l.s) × (length l.out ≡ length l.initial.out) × Emits l.initial.out l.at (hex (take l.x-index l.s)) l.out l.next
