use native.Mathlib.Omega.{arith}
use mathlib.Core.Path.{◌≡◌, ◌∙◌, ap}
use Rattle.clnp.specs.Segment.{behind, seg_at}
use Rattle.clnp.proofs.Records.{reached}
use Rattle.clnp.proofs.record.seg_at.Goals as goal

pub behind-dst-requires : goal.behind-dst-requires
behind-dst-requires c = ((reached c.args.b.now c.requires).0, omega arith)

pub behind-requires : goal.behind-requires
behind-requires c = (omega (arith, c.behind-dst.ensures.0, (reached c.args.b.now c.requires).1), omega (arith, c.behind-dst.ensures.1))

pub returns : goal.returns
returns c =
    let s = c.args.b.now in
    let e : c.behind.result ≡ seg_at s = c.behind.ensures.0 ∙ ap (behind s) c.behind-dst.ensures.0 in
    (e, omega (arith, e, (reached s c.requires).2), omega (arith, c.behind.ensures.1, c.behind-dst.ensures.1))
