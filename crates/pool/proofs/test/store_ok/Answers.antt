use mathlib.Core.Path.{sym, ap, ◌∙◌}
use mathlib.Core.Bool.{Bool, ◌&&◌}
use native.Mathlib.Omega.{arith}
use lib.Dec.{eqb}
use lib.ListN.{get_or}
use Rattle.pool.proofs.Good.{good}
use Rattle.pool.proofs.Passing.{sound-any}
use Rattle.pool.proofs.test.store_ok.Goals as goal

pub bounds-words-0 : goal.bounds-words-0
bounds-words-0 c =
    let a = c.args in
    omega (arith, (good a.words.now a.times.now a.list.now a.home.now a.blocks.now (sym c.base_ok.ensures ∙ c.if-base_ok.true)).tab.long)

pub returns-then-base_ok : goal.returns-then-base_ok
returns-then-base_ok c =
    let a = c.args in
    sym (sound-any a.kind a.words.now a.times.now a.list.now a.home.now a.blocks.now ∙ ap (λ (t : Bool). t && eqb (get_or a.words.now 0 0) a.kind) (sym c.base_ok.ensures ∙ c.if-base_ok.true))

pub returns-else-base_ok : goal.returns-else-base_ok
returns-else-base_ok c =
    let a = c.args in
    c.if-base_ok.false ∙ sym (sound-any a.kind a.words.now a.times.now a.list.now a.home.now a.blocks.now ∙ ap (λ (t : Bool). t && eqb (get_or a.words.now 0 0) a.kind) (sym c.base_ok.ensures ∙ c.if-base_ok.false))
