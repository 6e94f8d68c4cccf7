-- `clock::fresh` meets its contract: the literal 60.0 and `sixty` are one value once `of_bits` is unfolded.
use mathlib.Core.Path.{refl}
use lib.Ieee.{of_bits}
use Rattle.clock.specs.Time.{fresh_t}
use Rattle.clock.proofs.fresh.Goals as goal

-- `clock::fresh` meets its contract: the literal 60.0 and `sixty` are one value once `of_bits` is unfolded.
pub returns : goal.returns
unfolding fresh_t of_bits
returns c = refl
