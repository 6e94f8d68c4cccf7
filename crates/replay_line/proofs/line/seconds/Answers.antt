use Rattle.replay_line.specs.Line.{seconds_of}
use lib.Ieee.{of_bits}
use mathlib.Core.Path.{refl}
use Rattle.replay_line.proofs.line.seconds.Goals as goal

pub returns : goal.returns
unfolding seconds_of of_bits
returns c = refl
