use Rattle.std.proofs.Common.{◌≡◌, ◌<◌, ◌^◌, drop}
use Rattle.octets.specs.Text.{value_from}
use Rattle.replay_line.specs.Word.{value_of}
use Rattle.replay_line.proofs.word.value.Given as goal

abbrev pub invariant-loop-x : goal.invariant-loop-x
invariant-loop-x l = (l.v < 10 ^ l.x-index) × (value_from l.v (drop l.x-index l.w) ≡ value_of l.w)
