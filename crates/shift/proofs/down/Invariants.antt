use mathlib.Core.Path.{◌≡◌}
use Rattle.shift.specs.Shift.{shifted}
use Rattle.shift.proofs.down.Given as goal

abbrev pub invariant-loop-i : goal.invariant-loop-i
invariant-loop-i g l = l.w ≡ shifted l.initial.w l.p l.s l.i
