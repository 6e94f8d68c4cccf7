use mathlib.Core.Path.{◌≡◌}
use lib.ListN.{length, take, drop}
use Rattle.octets.specs.Emit.{put}
use Rattle.octets.proofs.emit.copy.Given as goal

-- The invariant: the first j entries are copied.
abbrev pub invariant-loop-j : goal.invariant-loop-j
invariant-loop-j g l = (l.dst ≡ put l.initial.dst l.at (take l.j (drop l.from l.src))) × (length l.dst ≡ length l.initial.dst)
