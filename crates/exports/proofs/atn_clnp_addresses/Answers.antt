use Rattle.std.proofs.Common.{sym, ◌∙◌}
use Rattle.octets.proofs.Put.{put_nil}
use Rattle.exports.proofs.atn_clnp_addresses.Goals as goal

pub returns-in_default-clause-said_after : goal.returns-in_default-clause-said_after
returns-in_default-clause-said_after c = rw (sym c.clnp_addresses.ensures ∙ c.in_default.is) (sym (put_nil c.args.said.now 0))
