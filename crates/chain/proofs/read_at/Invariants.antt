use Prim.Native.Nat.{◌-◌, ◌≤◌}
use mathlib.Core.Path.{◌≡◌}
use lib.ListN.{take, drop}
use Rattle.octets.specs.Emit.{put}
use Rattle.chain.specs.Chain.{flat}
use Rattle.chain.proofs.read_at.Given as goal

abbrev pub invariant-loop-done : goal.invariant-loop-done
invariant-loop-done l = (l.done ≤ l.m) × (l.out ≡ put l.initial.out l.at (take l.done (drop l.v (flat l.blocks (take l.n l.list)))))

abbrev pub decreases-loop-done : goal.decreases-loop-done
decreases-loop-done l = l.m - l.done
