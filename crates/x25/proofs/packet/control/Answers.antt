use Rattle.x25.specs.Packet.{by_type}
use Rattle.x25.proofs.ByType.{is_none}
use mathlib.Core.Path.{sym, ◌∙◌}
use Rattle.x25.proofs.packet.control.Goals as goal

pub returns-in-11 : goal.returns-in-11
unfolding by_type
returns-in-11 c = rw c.in-11.is c.call_request.ensures

pub returns-in-15 : goal.returns-in-15
unfolding by_type
returns-in-15 c = rw c.in-15.is c.call_accepted.ensures

pub returns-in-19 : goal.returns-in-19
unfolding by_type
returns-in-19 c = rw c.in-19.is c.clear_request.ensures

pub returns-in-27 : goal.returns-in-27
unfolding by_type
returns-in-27 c = rw c.in-27.is c.reset_request.ensures

pub returns-in-251 : goal.returns-in-251
unfolding by_type
returns-in-251 c = rw c.in-251.is c.restart_request.ensures

pub returns-in-23 : goal.returns-in-23
unfolding by_type
returns-in-23 c = rw (c.in-23.is, ← c.channel.ensures) c.plain.ensures

pub returns-in-31 : goal.returns-in-31
unfolding by_type
returns-in-31 c = rw (c.in-31.is, ← c.channel-in-31.ensures) c.plain-in-31.ensures

pub returns-in-255 : goal.returns-in-255
unfolding by_type
returns-in-255 c = rw (c.in-255.is, ← c.channel-in-255.ensures) c.plain-in-255.ensures

pub returns-in-241 : goal.returns-in-241
unfolding by_type
returns-in-241 c = rw c.in-241.is c.diagnostic.ensures

pub returns-in_default : goal.returns-in_default
returns-in_default c =
    let n = c.in_default.in_default-own.rest in
    let p = c.requires in
    c.plain-in_default.ensures
    ∙ sym (is_none c.args.b.now c.args.t (p.1, n.0.0.0.0.0.0.0.0.1, n.0.0.0.0.0.0.0.1, n.0.0.0.0.0.0.1, n.0.0.0.0.0.1, n.0.0.0.0.1, n.0.0.0.1, n.0.0.1, n.0.1, n.1) p.2 p.3 p.4)
