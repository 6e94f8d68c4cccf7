use Prim.Native.Nat.{◌<◌}
use mathlib.Core.Path.{◌≡◌, sym}
use mathlib.Core.Bool.{true}
use native.Mathlib.Omega.{arith}
use Rattle.tables.specs.Tables.{units}
use Rattle.pool.specs.View.{pend}
use Rattle.pool.proofs.Good.{Good, good}
use Rattle.pool.proofs.Near.{Near, near, sizes}
use Rattle.pool.proofs.Read.{part-long}
use Rattle.turns.proofs.kept.Goals.{In-Some}
use Rattle.turns.proofs.kept.Goals as goal

gd : (c : In-Some) → Good c.args.words.now c.args.times.now c.args.list.now c.args.home.now c.args.blocks.now
gd c = good c.args.words.now c.args.times.now c.args.list.now c.args.home.now c.args.blocks.now c.requires.is_sound

here : (c : In-Some) → c.in-Some.j < units c.args.words.now c.args.l
here c = rw c.in-Some.is at c.requires.in_range.1

nr : (c : In-Some) → Near c.args.words.now c.args.l c.in-Some.j
nr c = near c.args.words.now c.args.l c.in-Some.j (gd c).tab c.requires.in_range.0 (let h = here c in omega arith)

pub overflow_add-result : goal.overflow_add-result
overflow_add-result c = let s = (goal.at.overflow_add-result c).In-Some in omega (arith, nr s, here s)

pub overflow_mul-result-in-Some : goal.overflow_mul-result-in-Some
overflow_mul-result-in-Some c = let s = (goal.at.overflow_mul-result-in-Some c).In-Some in omega (arith, nr s, here s)

pub overflow_add-result-in-Some : goal.overflow_add-result-in-Some
overflow_add-result-in-Some c = let s = (goal.at.overflow_add-result-in-Some c).In-Some in omega (arith, nr s, here s)

pub overflow_add-result-in-Some-2 : goal.overflow_add-result-in-Some-2
overflow_add-result-in-Some-2 c = let s = (goal.at.overflow_add-result-in-Some-2 c).In-Some in omega (arith, nr s, here s)

pub offset_bounds-words-l : goal.offset_bounds-words-l
offset_bounds-words-l c = let s = (goal.at.offset_bounds-words-l c).In-Some in omega (arith, nr s, here s)

pub bounds-words-l : goal.bounds-words-l
bounds-words-l c = let s = (goal.at.bounds-words-l c).In-Some in omega (arith, nr s, here s)

pub returns-in-Some : goal.returns-in-Some
returns-in-Some c =
    let s = (goal.at.returns-in-Some c).In-Some in
    let a = c.args in
    let st = pend a.words.now a.times.now a.list.now a.blocks.now in
    let long = part-long a.words.now a.times.now a.list.now a.home.now a.blocks.now a.l c.in-Some.j 0 (gd s) c.requires.in_range.0 (here s) (omega arith) in
    let low = (sizes a.words.now a.l c.in-Some.j (gd s).tab c.requires.in_range.0 (here s)).body in
    let k : a.keep ≡ true = cc in
    rw (k, c.in-Some.is) (sym long, low)
