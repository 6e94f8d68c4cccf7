use Rattle.octets.specs.Text.{hex}
use Rattle.replay_line.proofs.Texts.{hex-none, hex_some}
use Rattle.replay_line.proofs.said.put_octets_said.Goals as goal

pub returns : goal.returns
returns c = let s = c.args.s.now in c.put_said.ensures hex (λ o a x n p k. k) (hex-none s, hex_some s)
