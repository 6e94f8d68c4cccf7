use Prim.Native.Nat.{◌+◌, ◌*◌}
use native.Mathlib.Omega.{arith}
use Rattle.octets.proofs.Tests.{all-at, all_of}
use Rattle.tables.specs.Tables.{units, place_ok}
use Rattle.tables.proofs.Laws.{tables}
use Rattle.pool.proofs.Near.{own, Near, near}
use Rattle.pool.proofs.unit.start_of.Goals.{Start}
use Rattle.pool.proofs.unit.start_of.Goals as goal

nr : (c : Start) → Near c.args.words.now c.args.l c.args.j
nr c = near c.args.words.now c.args.l c.args.j (tables c.args.words.now c.requires.0) c.requires.1 c.requires.2

pub used-requires : goal.used-requires
used-requires c =
    let w = c.args.words.now in
    let k = tables w c.requires.0 in
    (omega (arith, nr (goal.at.used-requires c).Start), k.long, k.set, k.each)

pub overflow_mul-l : goal.overflow_mul-l
overflow_mul-l c = omega (arith, nr (goal.at.overflow_mul-l c).Start)

pub cost-requires : goal.cost-requires
cost-requires c =
    let a = c.args in
    let w = a.words.now in
    let n = nr (goal.at.cost-requires c).Start in
    (omega (arith, n, c.requires.2), omega (arith, n, c.requires.2), n.long, all_of (λ i. place_ok w (8 * a.l + i)) a.j (λ i h. all-at (λ q. place_ok w (8 * a.l + q)) i (units w a.l) (own w a.l (tables w c.requires.0) c.requires.1).right (omega (arith, c.requires.2))))

pub overflow_add-result : goal.overflow_add-result
overflow_add-result c = omega (arith, nr (goal.at.overflow_add-result c).Start, c.cost.ensures, c.used.ensures)

pub returns : goal.returns
returns c =
    (omega (arith, c.cost.ensures, c.used.ensures), omega (arith, nr (goal.at.returns c).Start, c.cost.ensures, c.used.ensures))
