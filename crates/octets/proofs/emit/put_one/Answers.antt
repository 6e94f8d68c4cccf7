use Rattle.std.proofs.Common.{rules, refl, sym, [], ◌∷◌}
use Rattle.octets.specs.Emit.{put, on_from}
use Rattle.octets.proofs.Put.{put-past}
use Rattle.octets.proofs.emit.put_one.Goals as goal

pub returns-then-at-out : goal.returns-then-at-out
unfolding put on_from
returns-then-at-out g c = record { held = refl; place = search rules; small = search rules }

pub returns : goal.returns
unfolding put on_from
returns g c =
    record { held = sym (put-past c.args.out.now c.args.at (c.args.x ∷ []) c.if-at-out.false); place = c.saturating_add.ensures; small = search rules }
