use borrow.Author.Rules.{rules}
use mathlib.Core.Bool.{false}
use Rattle.octets.proofs.Emits.{nothing}
use Rattle.names.specs.Numbers.{k_withdrawn_routes}
use Rattle.cells.proofs.Rows.{around, flat-none, row_as}
use Rattle.idrp.specs.Update.{route_items}
use Rattle.idrp.proofs.Routes.{no_routes, some-routes}
use Rattle.idrp.proofs.route.put_routes.Goals as goal

pub returns-then-n-eq0 : goal.returns-then-n-eq0
returns-then-n-eq0 c =
    row_as 2 (no_routes c.args.s.now c.two_at-n.result c.two_at-n.ensures.0 c.if-n-eq0.true) (rw flat-none (nothing _ _ (search rules) (search rules)))

pub returns : goal.returns
returns c =
    let s = c.args.s.now in
    let n = c.two_at-n.result in
    row_as 2 (some-routes s n c.two_at-n.ensures.0 c.if-n-eq0.false)
    (around 2 false k_withdrawn_routes (route_items s n 2) c.open_list-opened.ensures c.routes-shown.ensures c.close_group.ensures)
