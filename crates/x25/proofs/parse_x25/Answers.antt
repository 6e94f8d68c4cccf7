use Rattle.std.proofs.Common.{arith, sym, ◌∙◌, ap, ◌≡◌, Some, length}
use Rattle.x25.specs.Packet.{payload_for, x25_answer}
use Rattle.x25.proofs.Says.{payload-is, payload-within}
use Rattle.x25.proofs.parse_x25.Goals.{After-payload_at-from}
use Rattle.x25.proofs.parse_x25.Goals as goal

placed : (c : After-payload_at-from) → c.payload_at-from.result ≡ payload_for c.args.b.now (x25_answer c.args.b.now (length c.args.out.now))
placed c =
    let s = c.args.b.now in
    let a = c.put_known-a.ensures.answer in
    c.payload_at-from.ensures ∙ payload-is s (length c.args.out.now) c.put_known-a.result (Some c.in-Ok.x) (sym c.in-Ok.ensures.0) a ∙ ap (payload_for s) a

pub slice_bounds-result-count : goal.slice_bounds-result-count
slice_bounds-result-count c = omega (arith, placed (goal.at.slice_bounds-result-count c).After-payload_at-from, payload-within c.args.b.now 0 (x25_answer c.args.b.now (length c.args.out.now)))

pub slice_bounds-result-start : goal.slice_bounds-result-start
slice_bounds-result-start c = omega (arith, placed (goal.at.slice_bounds-result-start c).After-payload_at-from, payload-within c.args.b.now 0 (x25_answer c.args.b.now (length c.args.out.now)))
