use Prim.Native.Nat.{◌+◌}
use native.Mathlib.Omega.{arith}
use Rattle.octets.proofs.Tests.{all-at}
use Rattle.tables.specs.Tables.{place_ok}
use Rattle.tables.proofs.cost.Goals as goal

pub place_cost-sum-requires : goal.place_cost-sum-requires
place_cost-sum-requires c =
    let a = c.args in
    (omega arith, omega arith, all-at (λ j. place_ok a.words.now (a.p + j)) c.loop-j.j a.u c.requires.3 (omega arith))
