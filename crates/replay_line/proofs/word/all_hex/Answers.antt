use Rattle.std.proofs.Common.{rules}
use Rattle.replay_line.proofs.Words.{all_says}
use Rattle.replay_line.proofs.word.all_hex.Goals as goal

pub returns : goal.returns
returns c = all_says _ _ _ (search rules)
