use mathlib.Core.Path.{ap₂}
use mathlib.Core.List.{[], ◌∷◌}
use Prim.Native.Nat.{ℕ}
use Rattle.octets.specs.Text.{hex_octet}
use Rattle.octets.proofs.Emits.{emits_as, then}
use Rattle.octets.proofs.text.put_hex_octet.Goals as goal

pub returns : goal.returns
unfolding hex_octet
returns c =
    let d = c in emits_as (ap₂ (λ (h l : ℕ). h ∷ l ∷ []) d.hex_digit-high.ensures d.hex_digit-low.ensures)
    (then c.put_octet-next.ensures c.put_octet.ensures)
