use Rattle.replay_line.proofs.said.put_text_said.Goals as goal

pub returns : goal.returns
returns c = c.put_said.ensures (λ x. x) (λ o a x n p k. k) (λ e. e, λ e. e)
