use Rattle.chain.proofs.Step.{Rises}
use Rattle.chain.proofs.run.Given as goal

abbrev pub invariant-loop-t : goal.invariant-loop-t
invariant-loop-t l = Rises l.list l.i l.t
