use Rattle.replay_line.proofs.Lines.{packet-long-enough, packet-there, packet-none}
use Rattle.replay_line.specs.Line.{has_packet}
use Rattle.replay_line.specs.Word.{is_packet}
use Rattle.octets.proofs.Put.{put_nil}
use Rattle.octets.specs.Emit.{put}
use mathlib.Core.Path.{sym, ap, ◌∙◌}
use Rattle.replay_line.proofs.line.read_line.Goals as goal

pub returns-in_err-line-clause-packet_after : goal.returns-in_err-line-clause-packet_after
returns-in_err-line-clause-packet_after c =
    let a = c.args in
    sym (put_nil a.packet.now 0) ∙ ap (put a.packet.now 0) (packet-none a.l.now (ap has_packet (sym c.line_of.ensures ∙ c.in_err-line.was)))

pub word_at-requires : goal.word_at-requires
word_at-requires c =
    packet-long-enough c.args.l.now (ap has_packet (sym c.line_of.ensures ∙ c.in_ok-line.was) ∙ sym c.has_packet.ensures ∙ c.if-has_packet.true)

pub put_packet-requires : goal.put_packet-requires
put_packet-requires c =
    ap is_packet c.word_at.ensures ∙ packet-there c.args.l.now (ap has_packet (sym c.line_of.ensures ∙ c.in_ok-line.was) ∙ sym c.has_packet.ensures ∙ c.if-has_packet.true)

pub returns-else-has_packet-clause-packet_after : goal.returns-else-has_packet-clause-packet_after
returns-else-has_packet-clause-packet_after c =
    let a = c.args in
    sym (put_nil a.packet.now 0)
    ∙ ap (put a.packet.now 0) (packet-none a.l.now (ap has_packet (sym c.line_of.ensures ∙ c.in_ok-line.was) ∙ sym c.has_packet.ensures ∙ c.if-has_packet.false))
