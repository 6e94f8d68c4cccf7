use Rattle.std.proofs.Common.{ℕ, ◌+◌, ◌≤◌, ◌<◌, ◌≡◌, sym, ap, ◌∙◌, arith, Some, length}
use Rattle.cells.specs.Walk.{left_from}
use Rattle.idrp.specs.Update.{attribute_at, attribute_step}
use Rattle.idrp.proofs.Attributes.{left_behind, place-stop, place-over}
use Rattle.idrp.proofs.attribute.attributes_place.Goals as goal

pub loop-place-init : goal.loop-place-init
loop-place-init c =
    let s = c.args.s.now in
    (c.requires.1, ap (λ (k : ℕ). left_from (attribute_step 0 s) (length s) (k + 2)) (sym c.requires.0))

pub returns-in_default : goal.returns-in_default
returns-in_default c =
    let s = c.args.s.now in
    let e = sym c.attribute_at.ensures.value ∙ c.in_default.is in
    (place-stop s c.attributes_end-end.result c.attributes_end-end.ensures c.loop-place.place c.loop-place-test.true c.loop-place.invariant.1 e, c.loop-place.invariant.0)

pub loop-place-preserved : goal.loop-place-preserved
loop-place-preserved c =
    let s = c.args.s.now in
    let e : attribute_at s c.attributes_end-end.result c.loop-place.place ≡ Some c.in-Some.b = sym c.attribute_at.ensures.value ∙ c.in-Some.is in
    ((rw c.in-Some.is at c.attribute_at.ensures.within).1, c.loop-place.invariant.1 ∙ left_behind s c.attributes_end-end.result c.attributes_end-end.ensures c.loop-place.place c.in-Some.b c.loop-place-test.true e)

pub returns : goal.returns
returns c =
    let s = c.args.s.now in
    (place-over s c.attributes_end-end.result c.attributes_end-end.ensures c.loop-place.place c.loop-place.invariant.0 c.loop-place-test.false c.loop-place.invariant.1, c.loop-place.invariant.0)
