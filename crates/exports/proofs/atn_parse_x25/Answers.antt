use Rattle.std.proofs.Common.{ap, ◌∙◌, ℕ, ◌-◌, ◌∷◌, [], length}
use Rattle.octets.specs.Emit.{put}
use Rattle.cells.specs.Answer.{number_of, count_of}
use Rattle.x25.specs.Packet.{payload_for, x25_answer}
use Rattle.exports.proofs.Said.{payload-within, part_shorter, part-place}
use Rattle.exports.proofs.atn_parse_x25.Goals as goal

pub overflow_sub-place : goal.overflow_sub-place
overflow_sub-place c =
    part_shorter c.args.b.now _ (payload_for c.args.b.now (x25_answer c.args.b.now (length c.args.out.now))) c.parse_x25-a.ensures.parsed.payload

pub returns : goal.returns
returns c =
    let s = c.args.b.now in
    let a = x25_answer s (length c.args.out.now) in
    let p = c.parse_x25-a.ensures.parsed in
    record {
      value = c.number.ensures ∙ ap number_of p.answered;
      out_after = p.output;
      said_after = c.say.ensures ∙ ap (λ (n : ℕ). put c.args.said.now 0 (n ∷ (length s - length c.parse_x25-a.result.1.now) ∷ [])) (c.count.ensures ∙ ap count_of p.answered)
          ∙ ap (λ (n : ℕ). put c.args.said.now 0 (count_of a ∷ n ∷ [])) (part-place s _ (payload_for s a) (payload-within s a) p.payload);
    }
