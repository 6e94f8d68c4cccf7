use Prim.Native.Nat.{◌*◌, ◌≤◌}
use mathlib.Core.Path.{◌≡◌}
use mathlib.Core.Bool.{true}
use Rattle.octets.specs.Tests.{all}
use Rattle.tables.specs.Tables.{link_ok, used_of, excess_of}
use Rattle.tables.proofs.checked_used.Given as goal

abbrev pub invariant-loop-l : goal.invariant-loop-l
invariant-loop-l l = (all (link_ok l.words) l.l ≡ true) × (l.used ≡ used_of l.words l.l) × (l.over ≡ excess_of l.words l.l) × (l.used ≤ 1024 * l.l) × (l.over ≤ 1024 * l.l)
