use mathlib.Core.Path.{◌≡◌}
use mathlib.Core.List.{append_assoc}
use Prim.Native.Nat.{◌+◌, ◌-◌}
use native.Mathlib.Omega.{arith}
use Rattle.octets.proofs.Emits.{then, emits_as}
use Rattle.print.specs.Json.{leaf_text}
use Rattle.print.proofs.leaf.put_prefix.Goals as goal

pub returns : goal.returns
unfolding leaf_text
returns c =
    let a = c.args in
    let n : a.from + a.size - a.from ≡ a.size = omega arith in
    emits_as (simp append_assoc)
    (then c.put_octet-quoted.ensures (then (rw n at c.put_hex_part-digits.ensures) (then c.put_octet-slash.ensures (then c.put_decimal-counted.ensures c.put_octet.ensures))))
