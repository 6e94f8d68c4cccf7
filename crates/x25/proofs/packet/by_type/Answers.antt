use mathlib.Core.Path.{sym, ◌∙◌}
use Rattle.x25.proofs.ByType.{is_data, is-rr, is-rnr, is-rej}
use Rattle.x25.proofs.packet.by_type.Goals as goal

pub returns-then-t-eq0 : goal.returns-then-t-eq0
returns-then-t-eq0 c = c.sequenced.ensures ∙ sym (is_data _ _ c.if-t-eq0.true)

pub returns-in-1 : goal.returns-in-1
returns-in-1 c = c.received.ensures ∙ sym (is-rr _ _ c.in-1.is)

pub returns-in-5 : goal.returns-in-5
returns-in-5 c = c.received-in-5.ensures ∙ sym (is-rnr _ _ c.in-5.is)

pub returns-in-9 : goal.returns-in-9
returns-in-9 c = c.received-in-9.ensures ∙ sym (is-rej _ _ c.in-9.is)
