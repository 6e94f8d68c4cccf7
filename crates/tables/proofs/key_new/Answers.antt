use mathlib.Core.Path.{sym, ap, ◌∙◌}
use mathlib.Core.Bool.{not}
use native.Mathlib.Omega.{arith}
use Rattle.octets.proofs.Tests.{all-fails}
use Rattle.tables.proofs.key_new.Invariants.{differs}
use Rattle.tables.proofs.key_new.Goals as goal

pub returns-then-key_eq : goal.returns-then-key_eq
returns-then-key_eq c =
    let a = c.args in
    sym (all-fails (differs a.words.now a.p a.i) c.loop-j.j a.i (omega arith) (ap not (sym c.key_eq.ensures ∙ c.if-key_eq.true)))
