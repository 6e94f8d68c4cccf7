use Rattle.std.proofs.Common.{length, sym, ap, ◌∙◌}
use Rattle.replay_line.proofs.Words.{dash_none, hex-packet, pairs_half}
use Rattle.replay_line.proofs.word.packet_len.Goals as goal

pub returns-then-is_dash : goal.returns-then-is_dash
returns-then-is_dash c = sym (ap length (dash_none c.args.w.now (sym c.is_dash.ensures ∙ c.if-is_dash.true)))

pub returns-else-is_dash : goal.returns-else-is_dash
returns-else-is_dash c =
    let w = c.args.w.now in
    sym (ap length (hex-packet w (sym c.is_dash.ensures ∙ c.if-is_dash.false)) ∙ pairs_half w)
