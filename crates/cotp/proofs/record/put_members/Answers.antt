use native.Mathlib.Omega.{arith}
use Rattle.cotp.proofs.Heads.{said}
use Rattle.cotp.proofs.record.put_members.Goals as goal

pub invariant_of-put_tpdu : goal.invariant_of-put_tpdu
invariant_of-put_tpdu c =
    let a = c.args in
    let w = said a.b.now a.h c.requires.2 in
    record { low = omega (arith, w.counts, (c.type_inv.b 0).fits); whole = w.whole }
