use native.Mathlib.Omega.{arith}
use mathlib.Core.Path.{sym}
use Rattle.std.proofs.lemmas.Grind.{common_steps}
use Rattle.tables.proofs.Laws.{tables, settings, used_fits}
use Rattle.pool.specs.View.{sound}
use Rattle.pool.proofs.Good.{told_bad, told-good, bad_tables}
use Rattle.pool.proofs.test.base_ok.Goals as goal

pub returns-in_default : goal.returns-in_default
returns-in_default c =
    let a = c.args in
    sym (bad_tables a.words.now a.times.now a.list.now a.home.now a.blocks.now (told_bad a.words.now c.checked_used.result c.checked_used.ensures c.in_default.is))

pub bounds-words-2 : goal.bounds-words-2
bounds-words-2 c =
    let w = c.args.words.now in
    omega (arith, (tables w (told-good w c.checked_used.result c.checked_used.ensures c.in-Some.m c.in-Some.is).0).long)

pub overflow_mul-b : goal.overflow_mul-b
overflow_mul-b c =
    let w = c.args.words.now in
    omega (arith, (settings w (tables w (told-good w c.checked_used.result c.checked_used.ensures c.in-Some.m c.in-Some.is).0).set).few-blocks)

pub homed_ok-requires : goal.homed_ok-requires
homed_ok-requires c =
    let w = c.args.words.now in
    let told = told-good w c.checked_used.result c.checked_used.ensures c.in-Some.m c.in-Some.is in
    let k = tables w told.0 in
    let fits = used_fits w k in
    let few = (settings w k.set).few-blocks in
    grind (arith, told.1, fits, few)

pub returns-then-b-blocks : goal.returns-then-b-blocks
unfolding sound
returns-then-b-blocks c =
    let w = c.args.words.now in
    let told = told-good w c.checked_used.result c.checked_used.ensures c.in-Some.m c.in-Some.is in
    let ok = told.0 in
    let used = told.1 in
    grind (arith, common_steps)

pub returns-else-b-blocks : goal.returns-else-b-blocks
unfolding sound
returns-else-b-blocks c =
    let w = c.args.words.now in
    let told = told-good w c.checked_used.result c.checked_used.ensures c.in-Some.m c.in-Some.is in
    let ok = told.0 in
    grind (arith, common_steps)
