-- How many cells a record has at most, so that an output with that many is never short.
use Prim.Native.Nat.{ℕ, ◌+◌, ◌*◌, ◌≤◌}
use mathlib.Core.Path.{◌≡◌}
use mathlib.Core.List.{List}
use native.Mathlib.Omega.{arith}
use lib.Dec.{eqb}
use lib.ListN.{length, get_or}
use Rattle.octets.proofs.Picks.{pick_elim}
use Rattle.cells.specs.Answer.{number_of, answer_to}
use Rattle.cells.proofs.Answers.{enough}
use Rattle.clnp.proofs.Thin as clnp
use Rattle.esis.proofs.Thin as esis
use Rattle.idrp.proofs.Thin as idrp
use Rattle.network.specs.Network.{network_cells}
use Rattle.network.proofs.Firsts.{five}

module _ (s : List ℕ) where
  abbrev Few : List ℕ → Type 0
  Few xs = length xs ≤ 4 * length s + 64

  pub network_thin : Few (network_cells s)
  unfolding network_cells
  network_thin =
      pick_elim Few (eqb (length s) 0) (λ h. omega arith)
      (λ h. pick_elim Few (eqb (get_or s 0 0) 0x81) (λ h. clnp.clnp_thin s)
      (λ h. pick_elim Few (eqb (get_or s 0 0) 0x82) (λ h. esis.esis_thin s)
      (λ h. pick_elim Few (eqb (get_or s 0 0) 0x83) (λ h. idrp.idrp_thin s) (λ h. omega (arith, five s)))))

  pub never_short : (room : ℕ) → 4 * length s + 64 ≤ room → number_of (answer_to (length s) (network_cells s) room) ≡ 10 → ⊥
  never_short room h = enough (length s) (network_cells s) room (omega (arith, network_thin, h))
