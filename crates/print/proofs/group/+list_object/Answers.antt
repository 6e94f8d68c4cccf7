use Rattle.std.specs.Prelude.{Some}
use borrow.Author.Rules.{rules}
use native.Mathlib.Omega.{arith}
use mathlib.Core.Path.{sym, ap, ◌∙◌}
use mathlib.Core.Bool.{true, false}
use Rattle.cells.proofs.Classes.{class-leaf, open_low}
use Rattle.print.proofs.Turns.{row-start, row-end, row_bad, row-close, row-leaf, row-group, row_broken}
use Rattle.print.proofs.group.+list_object.Goals as goal

pub list-loop-i-init : goal.list-loop-i-init
list-loop-i-init t c = (search rules, search rules, row-start _ _ _ _ _ _ _ (search rules) (search rules))

pub list-returns-in_default : goal.list-returns-in_default
list-returns-in_default t c = row_bad c.loop-i.invariant.2 c.loop-i-test.true (sym c.class_of.ensures ∙ c.in_default.is)

pub list-returns-in-Close : goal.list-returns-in-Close
list-returns-in-Close t c = row-close c.loop-i.invariant.2 c.loop-i.invariant.0 c.loop-i-test.true (sym c.class_of.ensures ∙ c.in-Some.is ∙ ap Some c.in-Close.is) c.put_octet.ensures

pub list-put_member-next-requires : goal.list-put_member-next-requires
list-put_member-next-requires t c = (class-leaf _ false _ _ (sym c.class_of.ensures ∙ c.in-Some.is ∙ ap Some c.in-Leafy.is)).2

pub list-overflow_add-depth : goal.list-overflow_add-depth
list-overflow_add-depth t c = let w = open_low _ false _ _ true (sym c.class_of.ensures ∙ c.in-Some.is ∙ ap Some c.in-Object.is) in omega (arith, w)

pub list-object-requires : goal.list-object-requires
list-object-requires t c = (omega (arith, c.loop-i.invariant.0, c.loop-i-test.true), tt)

pub list-returns-in_default-object : goal.list-returns-in_default-object
list-returns-in_default-object t c = row_broken c.loop-i.invariant.2 true c.loop-i-test.true (sym c.class_of.ensures ∙ c.in-Some.is ∙ ap Some c.in-Object.is) (rw c.in_default-object.is at c.object.ensures)

pub list-overflow_add-depth-in-Entries : goal.list-overflow_add-depth-in-Entries
list-overflow_add-depth-in-Entries t c = let w = open_low _ false _ _ false (sym c.class_of.ensures ∙ c.in-Some.is ∙ ap Some c.in-Entries.is) in omega (arith, w)

pub list-list-requires : goal.list-list-requires
list-list-requires t c = (omega (arith, c.loop-i.invariant.0, c.loop-i-test.true), tt)

pub list-returns-in_default-list : goal.list-returns-in_default-list
list-returns-in_default-list t c = row_broken c.loop-i.invariant.2 false c.loop-i-test.true (sym c.class_of.ensures ∙ c.in-Some.is ∙ ap Some c.in-Entries.is) (rw c.in_default-list.is at c.list.ensures)

pub list-loop-i-preserved-in-Leafy : goal.list-loop-i-preserved-in-Leafy
list-loop-i-preserved-in-Leafy t c =
    (search rules, search rules, row-leaf c.loop-i.invariant.2 c.loop-i-test.true (sym c.class_of.ensures ∙ c.in-Some.is ∙ ap Some c.in-Leafy.is) c.put_member-next.ensures)

pub list-loop-i-smaller-in-Some-object : goal.list-loop-i-smaller-in-Some-object
list-loop-i-smaller-in-Some-object t c = let s = rw c.in-Some-object.is at c.object.ensures in omega (arith, s.after, s.within)

pub list-loop-i-preserved-in-Some-object : goal.list-loop-i-preserved-in-Some-object
list-loop-i-preserved-in-Some-object t c =
    let s = rw c.in-Some-object.is at c.object.ensures in
    (omega (arith, s.after, c.loop-i.invariant.0), search rules, row-group c.loop-i.invariant.2 true c.loop-i-test.true (sym c.class_of.ensures ∙ c.in-Some.is ∙ ap Some c.in-Object.is) c.put_open-begun.ensures s)

pub list-loop-i-smaller : goal.list-loop-i-smaller
list-loop-i-smaller t c = let s = rw c.in-Some-list.is at c.list.ensures in omega (arith, s.after, s.within)

pub list-loop-i-preserved : goal.list-loop-i-preserved
list-loop-i-preserved t c =
    let s = rw c.in-Some-list.is at c.list.ensures in
    (omega (arith, s.after, c.loop-i.invariant.0), search rules, row-group c.loop-i.invariant.2 false c.loop-i-test.true (sym c.class_of.ensures ∙ c.in-Some.is ∙ ap Some c.in-Entries.is) c.put_open-begun-in-Entries.ensures s)

pub list-returns : goal.list-returns
list-returns t c = row-end c.loop-i.invariant.2 c.loop-i-test.false

pub object-loop-i-init : goal.object-loop-i-init
object-loop-i-init t c = (search rules, search rules, row-start _ _ _ _ _ _ _ (search rules) (search rules))

pub object-returns-in_default : goal.object-returns-in_default
object-returns-in_default t c = row_bad c.loop-i.invariant.2 c.loop-i-test.true (sym c.class_of.ensures ∙ c.in_default.is)

pub object-returns-in-Close : goal.object-returns-in-Close
object-returns-in-Close t c = row-close c.loop-i.invariant.2 c.loop-i.invariant.0 c.loop-i-test.true (sym c.class_of.ensures ∙ c.in-Some.is ∙ ap Some c.in-Close.is) c.put_octet.ensures

pub object-put_member-next-requires : goal.object-put_member-next-requires
object-put_member-next-requires t c = (class-leaf _ true _ _ (sym c.class_of.ensures ∙ c.in-Some.is ∙ ap Some c.in-Leafy.is)).2

pub object-overflow_add-depth : goal.object-overflow_add-depth
object-overflow_add-depth t c = let w = open_low _ true _ _ true (sym c.class_of.ensures ∙ c.in-Some.is ∙ ap Some c.in-Object.is) in omega (arith, w)

pub object-object-requires : goal.object-object-requires
object-object-requires t c = (omega (arith, c.loop-i.invariant.0, c.loop-i-test.true), tt)

pub object-returns-in_default-object : goal.object-returns-in_default-object
object-returns-in_default-object t c = row_broken c.loop-i.invariant.2 true c.loop-i-test.true (sym c.class_of.ensures ∙ c.in-Some.is ∙ ap Some c.in-Object.is) (rw c.in_default-object.is at c.object.ensures)

pub object-overflow_add-depth-in-Entries : goal.object-overflow_add-depth-in-Entries
object-overflow_add-depth-in-Entries t c = let w = open_low _ true _ _ false (sym c.class_of.ensures ∙ c.in-Some.is ∙ ap Some c.in-Entries.is) in omega (arith, w)

pub object-list-requires : goal.object-list-requires
object-list-requires t c = (omega (arith, c.loop-i.invariant.0, c.loop-i-test.true), tt)

pub object-returns-in_default-list : goal.object-returns-in_default-list
object-returns-in_default-list t c = row_broken c.loop-i.invariant.2 false c.loop-i-test.true (sym c.class_of.ensures ∙ c.in-Some.is ∙ ap Some c.in-Entries.is) (rw c.in_default-list.is at c.list.ensures)

pub object-loop-i-preserved-in-Leafy : goal.object-loop-i-preserved-in-Leafy
object-loop-i-preserved-in-Leafy t c =
    (search rules, search rules, row-leaf c.loop-i.invariant.2 c.loop-i-test.true (sym c.class_of.ensures ∙ c.in-Some.is ∙ ap Some c.in-Leafy.is) c.put_member-next.ensures)

pub object-loop-i-smaller-in-Some-object : goal.object-loop-i-smaller-in-Some-object
object-loop-i-smaller-in-Some-object t c = let s = rw c.in-Some-object.is at c.object.ensures in omega (arith, s.after, s.within)

pub object-loop-i-preserved-in-Some-object : goal.object-loop-i-preserved-in-Some-object
object-loop-i-preserved-in-Some-object t c =
    let s = rw c.in-Some-object.is at c.object.ensures in
    (omega (arith, s.after, c.loop-i.invariant.0), search rules, row-group c.loop-i.invariant.2 true c.loop-i-test.true (sym c.class_of.ensures ∙ c.in-Some.is ∙ ap Some c.in-Object.is) c.put_open-begun.ensures s)

pub object-loop-i-smaller : goal.object-loop-i-smaller
object-loop-i-smaller t c = let s = rw c.in-Some-list.is at c.list.ensures in omega (arith, s.after, s.within)

pub object-loop-i-preserved : goal.object-loop-i-preserved
object-loop-i-preserved t c =
    let s = rw c.in-Some-list.is at c.list.ensures in
    (omega (arith, s.after, c.loop-i.invariant.0), search rules, row-group c.loop-i.invariant.2 false c.loop-i-test.true (sym c.class_of.ensures ∙ c.in-Some.is ∙ ap Some c.in-Entries.is) c.put_open-begun-in-Entries.ensures s)

pub object-returns : goal.object-returns
object-returns t c = row-end c.loop-i.invariant.2 c.loop-i-test.false
