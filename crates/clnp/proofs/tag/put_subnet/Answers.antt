use mathlib.Core.List.{[]}
use Rattle.cells.specs.Items.{Items, none, leaf, group, number, text, ◌⊕◌}
use Rattle.cells.proofs.Rows.{then_row}
use Rattle.fields.specs.Member.{opt_text}
use mathlib.Core.Bool.{false}
use Rattle.names.specs.Numbers.{k_kind, k_subnet_id, k_subnet_name, k_permitted_traffic_types, t_subnet_type}
use Rattle.codes.specs.Codes.{text_in, subnets, traffic_types}
use Rattle.clnp.specs.Label.{bit_names}
use Rattle.clnp.proofs.tag.put_subnet.Goals as goal

pub returns : goal.returns
returns c =
    let a = c.args in
    let kind : Items = leaf k_kind (text t_subnet_type) none in
    let id : Items = leaf k_subnet_id (number a.v) none in
    let named : Items = opt_text k_subnet_name (text_in subnets [] a.v) in
    let types : Items = group false k_permitted_traffic_types (bit_names traffic_types a.bits) none in
    (then_row 6 kind (id ⊕ (named ⊕ types)) c.put_text_number-kind.ensures (then_row 6 id (named ⊕ types) c.put_number-subnet.ensures
    (then_row 6 named types (rw c.atn_subnet_name.ensures at c.put_text_if-named.ensures) c.put_bits.ensures)))
