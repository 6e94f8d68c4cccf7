use Rattle.std.proofs.Common.{ap, ◌∙◌, ℕ, ◌∷◌, []}
use Rattle.octets.specs.Emit.{put}
use Rattle.clnp.specs.Segment.{tpdu_of, tpdu_place}
use Rattle.clnp.proofs.Headers.{within}
use Rattle.exports.proofs.Said.{part-place}
use Rattle.exports.proofs.atn_clnp_cotp_tpdu.Goals as goal

pub returns-in-Ok-clause-said_after : goal.returns-in-Ok-clause-said_after
returns-in-Ok-clause-said_after c =
    let s = c.args.b.now in
    let p = rw c.in-Ok.is at c.clnp_cotp_tpdu.ensures.answer in
    c.say.ensures ∙ ap (λ (n : ℕ). put c.args.said.now 0 (n ∷ [])) (part-place s _ (tpdu_place s (tpdu_of s)) (within s) p.1)
