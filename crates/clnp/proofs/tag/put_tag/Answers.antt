use mathlib.Core.Bool.{true}
use Rattle.names.specs.Numbers.{k_tag_set}
use Rattle.cells.specs.Items.{Items, none, leaf, number, ◌⊕◌}
use Rattle.cells.proofs.Rows.{around, then_row}
use Rattle.clnp.specs.Label.{tag_members}
use Rattle.clnp.proofs.tag.put_tag.Goals as goal

pub returns : goal.returns
returns c =
    let a = c.args in
    let named : Items = leaf k_tag_set (number a.name) none in
    let shown : Items = tag_members a.part.base a.part.octets.now a.name a.b.start a.b.len in
    around 5 true 0 (named ⊕ shown) c.open_object-opened.ensures (then_row 6 named shown c.put_number-named.ensures c.put_by_name-shown.ensures) c.close_group.ensures
