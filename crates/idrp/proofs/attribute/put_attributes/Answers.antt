use Rattle.std.proofs.Common.{rules, false, ℕ, ◌+◌, ap, length}
use Rattle.octets.proofs.Emits.{nothing}
use Rattle.names.specs.Numbers.{k_path_attributes}
use Rattle.cells.proofs.Rows.{around, flat-none, row_as}
use Rattle.cells.specs.Walk.{items_from}
use Rattle.idrp.specs.Update.{attribute_step, attribute_items}
use Rattle.idrp.proofs.Attributes.{no_attributes, some-attributes}
use Rattle.idrp.proofs.attribute.put_attributes.Goals as goal

pub returns-then-two_at-eq0 : goal.returns-then-two_at-eq0
returns-then-two_at-eq0 c =
    let a = c.args in
    row_as 2 (no_attributes a.base a.s.now a.p c.requires.0 c.two_at.result c.two_at.ensures.0 c.if-two_at-eq0.true) (rw flat-none (nothing _ _ (search rules) (search rules)))

pub returns : goal.returns
returns c =
    let a = c.args in
    row_as 2 (some-attributes a.base a.s.now a.p c.requires.0 c.two_at.result c.two_at.ensures.0 c.if-two_at-eq0.false)
    (around 2 false k_path_attributes (attribute_items a.base a.s.now) c.open_list-opened.ensures (row_as 3 (ap (λ (k : ℕ). items_from (attribute_step a.base a.s.now) (length a.s.now) (k + 2)) c.requires.0) c.put_entries-shown.ensures) c.close_group.ensures)
