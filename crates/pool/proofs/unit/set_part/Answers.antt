use Prim.Native.Nat.{◌+◌, ◌*◌}
use mathlib.Core.Path.{◌∙◌}
use native.Mathlib.Omega.{arith}
use lib.ListN.{set, length-set}
use Rattle.tables.proofs.Counts.{stored}
use Rattle.pool.proofs.unit.set_part.Goals as goal

pub bounds-words-at-3 : goal.bounds-words-at-3
bounds-words-at-3 c = simp length-set (omega arith)

pub set_count-requires : goal.set_count-requires
set_count-requires c = (c.requires.0, simp length-set (omega arith))

pub shape_of-words : goal.shape_of-words
shape_of-words c = c.set_count.auto.words ∙ simp length-set

pub returns : goal.returns
returns c =
    let a = c.args in
    let at = 40 + 12 * (8 * a.l + a.j) in
    let w = set (set a.words.now (at + (7 + a.part)) a.x) (at + (9 + a.part)) a.n in
    stored w _ _ _ a.l _ c.ledger_of.ensures c.recounted-g.ensures c.set_count.ensures c.requires.0 (simp length-set (omega arith))
