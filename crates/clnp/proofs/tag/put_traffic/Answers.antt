use Prim.Native.Nat.{◌%◌}
use Rattle.cells.specs.Items.{Items, none, leaf, number, text, ◌⊕◌}
use Rattle.cells.proofs.Rows.{then_row}
use Rattle.names.specs.Numbers.{k_kind, k_traffic_type, k_category, k_route_policy, t_traffic_type}
use Rattle.clnp.specs.Label.{traffic_name, category_name}
use Rattle.clnp.proofs.tag.put_traffic.Goals as goal

pub returns : goal.returns
returns c =
    let a = c.args in
    let v = a.v in
    let kind : Items = leaf k_kind (text t_traffic_type) none in
    let type : Items = leaf k_traffic_type (text (traffic_name v)) none in
    let category : Items = leaf k_category (text (category_name v)) none in
    let policy : Items = leaf k_route_policy (number (v % 32)) none in
    (then_row 6 kind (type ⊕ (category ⊕ policy)) c.put_text_number-kind.ensures (then_row 6 type (category ⊕ policy) (rw c.traffic_name.ensures at c.put_text_number-traffic.ensures)
    (then_row 6 category policy (rw c.category_name.ensures at c.put_text_number-category.ensures) c.put_number.ensures)))
