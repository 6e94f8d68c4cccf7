use native.Mathlib.Omega.{arith}
use Prim.Native.Nat.{ℕ, ◌+◌, ◌-◌}
use mathlib.Core.Path.{◌≡◌, ap}
use mathlib.Core.Bool.{true}
use lib.ListN.{take, drop}
use Rattle.names.specs.Numbers.{k_security_format, k_security_label, t_globally_unique}
use Rattle.cells.specs.Items.{Items, none, leaf, group, text}
use Rattle.cells.proofs.Rows.{then_row, around, row_as}
use Rattle.clnp.specs.Label.{label_members}
use Rattle.clnp.proofs.option.put_security.Goals as goal

pub returns : goal.returns
returns c =
    let a = c.args in
    let s = a.part.octets.now in
    let i = a.b.start in
    let n = a.b.len in
    let l : Items = label_members (a.part.base + i + 1) (take (n - 1) (drop (i + 1) s)) in
    let e : i + n - (i + 1) ≡ n - 1 = omega (arith, c.requires.0) in
    then_row 3 (leaf k_security_format (text t_globally_unique) none) (group true k_security_label l none) c.put_text_number-format.ensures
    (around 3 true k_security_label l c.open_object-opened.ensures
    (row_as 4 (ap (λ (k : ℕ). label_members (a.part.base + i + 1) (take k (drop (i + 1) s))) e) c.put_label-shown.ensures) c.close_group.ensures)
