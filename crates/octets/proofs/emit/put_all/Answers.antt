use lib.Seq.{take-length}
use mathlib.Core.Path.{ap, ◌∙◌}
use Rattle.octets.specs.Emit.{put, on_from}
use borrow.Author.Rules.{rules}
use Rattle.octets.proofs.emit.put_all.Goals as goal

pub returns-then-n-out : goal.returns-then-n-out
unfolding on_from
returns-then-n-out g c =
    let a = c.args in
    record { held = c.copy.ensures ∙ ap (put a.out.now a.at) (take-length a.s.now); place = search rules; small = search rules }
