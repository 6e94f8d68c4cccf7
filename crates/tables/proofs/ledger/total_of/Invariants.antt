use Prim.Native.Nat.{◌*◌, ◌≤◌}
use mathlib.Core.Path.{◌≡◌}
use lib.ListN.{get_or}
use Rattle.tables.specs.Tables.{sum}
use Rattle.tables.proofs.ledger.total_of.Given as goal

abbrev pub invariant-loop-i : goal.invariant-loop-i
invariant-loop-i l = (l.sum ≡ sum (λ k. get_or l.g.counts k 0) l.i) × (l.sum ≤ 65536 * l.i)
