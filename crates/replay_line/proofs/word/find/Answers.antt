use Rattle.std.proofs.Common.{sym, arith}
use lib.ListN.{drop, length-drop}
use Rattle.replay_line.proofs.Words.{rest-is, up_to_found, up_to_none}
use Rattle.replay_line.proofs.word.find.Goals as goal

pub returns-in-Some-clause-value : goal.returns-in-Some-clause-value
returns-in-Some-clause-value c =
    let a = c.args in
    omega (arith, up_to_found a.sep (drop a.from a.s.now) c.in-Some.i (sym (rw (rest-is a.s.now a.from) at c.in-Some.ensures)))

pub returns-in-None-clause-value : goal.returns-in-None-clause-value
returns-in-None-clause-value c =
    let a = c.args in
    omega (arith, length-drop a.from a.s.now, up_to_none a.sep (drop a.from a.s.now) (sym (rw (rest-is a.s.now a.from) at c.in-None.ensures)))
