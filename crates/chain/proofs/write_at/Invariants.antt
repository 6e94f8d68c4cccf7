use Prim.Native.Nat.{◌-◌, ◌≤◌}
use mathlib.Core.Path.{◌≡◌}
use lib.ListN.{length, take}
use Rattle.octets.specs.Emit.{put}
use Rattle.chain.specs.Chain.{flat}
use Rattle.chain.proofs.write_at.Given as goal

abbrev pub invariant-loop-done : goal.invariant-loop-done
invariant-loop-done g l = (l.done ≤ length (g.S.Source.octets l.src)) × (flat l.blocks (take l.n l.list) ≡ put (flat l.initial.blocks (take l.n l.list)) l.v (take l.done (g.S.Source.octets l.src)))

abbrev pub decreases-loop-done : goal.decreases-loop-done
decreases-loop-done g l = length (g.S.Source.octets l.src) - l.done
