use borrow.Author.Rules.{rules}
use mathlib.Core.Path.{sym, ap, ◌∙◌}
use lib.ListN.{length}
use lib.Seq.{length-take-le}
use Rattle.std.specs.Prelude.{Some}
use Rattle.octets.proofs.Emits.{emits_as}
use Rattle.reply.proofs.Lines.{x25_carries, network_carries, x25_said, network_said, bad_reply, ordered_reply}
use Rattle.reply.proofs.reply.Goals as goal

pub slice_bounds-reply_x25-end : goal.slice_bounds-reply_x25-end
slice_bounds-reply_x25-end c =
    let x = c.in-Some-X25 in
    (x25_carries c.args.l.now c.args.packet.now (c.read_line.ensures.value, c.read_line.ensures.packet_after) (x.is ∙ ap Some x.field-0-is) c.requires).0

pub slice_bounds-reply_x25-end-in-Some-X25 : goal.slice_bounds-reply_x25-end-in-Some-X25
slice_bounds-reply_x25-end-in-Some-X25 c =
    let x = c.in-Some-X25 in
    sym (length-take-le x.size c.read_line.new.packet (x25_carries c.args.l.now c.args.packet.now (c.read_line.ensures.value, c.read_line.ensures.packet_after) (x.is ∙ ap Some x.field-0-is) c.requires).0)

pub slice_bounds-reply_network-end : goal.slice_bounds-reply_network-end
slice_bounds-reply_network-end c =
    let x = c.in-Some-Network in
    (network_carries c.args.l.now c.args.packet.now (c.read_line.ensures.value, c.read_line.ensures.packet_after) (x.is ∙ ap Some x.field-0-is) c.requires).0

pub slice_bounds-reply_network-end-in-Some-Network : goal.slice_bounds-reply_network-end-in-Some-Network
slice_bounds-reply_network-end-in-Some-Network c =
    let x = c.in-Some-Network in
    sym (length-take-le x.size c.read_line.new.packet (network_carries c.args.l.now c.args.packet.now (c.read_line.ensures.value, c.read_line.ensures.packet_after) (x.is ∙ ap Some x.field-0-is) c.requires).0)

pub returns-in-Some-X25 : goal.returns-in-Some-X25
returns-in-Some-X25 c =
    let a = c.args in
    let x = c.in-Some-X25 in
    emits_as (x25_said a.l.now a.packet.now (length a.cells.now) (length a.text.now) a.n (c.read_line.ensures.value, c.read_line.ensures.packet_after) (x.is ∙ ap Some x.field-0-is) c.requires) c.reply_x25.ensures

pub returns-in-Some-Network : goal.returns-in-Some-Network
returns-in-Some-Network c =
    let a = c.args in
    let x = c.in-Some-Network in
    emits_as (network_said a.l.now a.packet.now (length a.cells.now) (length a.text.now) a.n (c.read_line.ensures.value, c.read_line.ensures.packet_after) (x.is ∙ ap Some x.field-0-is) c.requires) c.reply_network.ensures

pub returns-in-Some-Ordered : goal.returns-in-Some-Ordered
returns-in-Some-Ordered c = emits_as (search (rules, ordered_reply)) c.put_text_said.ensures

pub returns-in-None : goal.returns-in-None
returns-in-None c =
    let a = c.args in
    emits_as (bad_reply (length a.cells.now) (length a.text.now) a.n a.l.now c.read_line.ensures.value c.in-None.is) c.put_text_said-in-None.ensures
