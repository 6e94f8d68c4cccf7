use native.Mathlib.Omega.{arith}
use Rattle.names.specs.Numbers.{k_nlri}
use Rattle.cells.specs.Items.{Items, in_list, ◌⊕◌}
use Rattle.cells.proofs.Rows.{then_row, row_as}
use Rattle.idrp.specs.Update.{routes_member, attributes_member, nlri_items}
use Rattle.idrp.proofs.Updates.{there, nlri-at, members_are}
use Rattle.idrp.proofs.update.put_update.Goals as goal

pub attributes_at-p-requires : goal.attributes_at-p-requires
attributes_at-p-requires c = (there c.args.s.now c.requires.0).0

pub attributes_place-place-requires : goal.attributes_place-place-requires
attributes_place-place-requires c = (c.attributes_at-p.ensures.0, omega (arith, c.attributes_at-p.ensures.0, (there c.args.s.now c.requires.0).1))

pub put_routes-routes-requires : goal.put_routes-routes-requires
put_routes-routes-requires c = let w = there c.args.s.now c.requires.0 in (w.0, omega (arith, w.1))

pub put_attributes-attributes-requires : goal.put_attributes-attributes-requires
put_attributes-attributes-requires c =
    (c.attributes_at-p.ensures.0, omega (arith, c.attributes_at-p.ensures.0, (there c.args.s.now c.requires.0).1), c.requires.1)

pub returns : goal.returns
returns c =
    let a = c.args in
    let s = a.s.now in
    let routes : Items = routes_member s in
    let attributes : Items = attributes_member a.base s in
    let nlri : Items = in_list k_nlri (nlri_items a.base s) in
    row_as 2 (members_are s a.base)
    (then_row 2 routes (attributes ⊕ nlri) c.put_routes-routes.ensures (then_row 2 attributes nlri c.put_attributes-attributes.ensures
    (row_as 2 (nlri-at s a.base c.attributes_place-place.result c.attributes_place-place.ensures.0) c.put_nlri.ensures)))
