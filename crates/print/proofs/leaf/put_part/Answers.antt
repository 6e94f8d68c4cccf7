use mathlib.Core.Path.{◌≡◌}
use Prim.Native.Nat.{◌+◌, ◌-◌}
use native.Mathlib.Omega.{arith}
use Rattle.octets.proofs.Emits.{then}
use Rattle.print.specs.Json.{leaf_text}
use Rattle.print.proofs.leaf.put_part.Goals as goal

pub returns : goal.returns
unfolding leaf_text
returns c =
    let a = c.args in
    let n : a.from + a.size - a.from ≡ a.size = omega arith in
    then c.put_octet-quoted.ensures (then (rw n at c.put_hex_part-shown.ensures) c.put_octet.ensures)
