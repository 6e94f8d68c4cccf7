use Rattle.std.proofs.Common.{◌≡◌, ◌≤◌, length, true, get_or}
use Rattle.octets.specs.Emit.{top}
use Rattle.octets.specs.Tests.{all}
use Rattle.octets.proofs.Emits.{Toward}
use Rattle.replay_line.specs.Word.{pairs_of, is_hex}
use Rattle.replay_line.proofs.word.put_pairs.Given as goal

abbrev pub invariant-loop-rest : goal.invariant-loop-rest
invariant-loop-rest l = record {
  small : l.next ≤ top;
  hex : all (λ i. is_hex (get_or l.rest i 0)) (length l.rest) ≡ true;
  on : Toward l.initial.out l.at (pairs_of l.w) l.out l.next (pairs_of l.rest);
}

abbrev pub decreases-loop-rest : goal.decreases-loop-rest
decreases-loop-rest l = length l.rest
