use mathlib.Core.Path.{refl}
use Prim.Native.Nat.{◌+◌, ◌*◌}
use native.Mathlib.Omega.{arith}
use Rattle.tables.proofs.Laws.{place}
use Rattle.tables.proofs.place_cost.Goals as goal

pub overflow_add-result-5 : goal.overflow_add-result-5
overflow_add-result-5 c =
    let a = c.args in
    let k = place a.words.now a.p c.requires.2 in
    omega (arith, k.body, k.top, c.type_inv.words (40 + 12 * a.p + 7), c.type_inv.words (40 + 12 * a.p + 8))

pub returns : goal.returns
returns c =
    let a = c.args in
    let k = place a.words.now a.p c.requires.2 in
    (refl, omega (arith, k.body, k.top, c.type_inv.words (40 + 12 * a.p + 7), c.type_inv.words (40 + 12 * a.p + 8)))
