use Prim.Native.Nat.{◌+◌, ◌*◌, ◌-◌}
use mathlib.Core.Path.{◌≡◌, ◌∙◌}
use native.Mathlib.Omega.{arith}
use lib.Dec.{eqb}
use lib.ListN.{length, get_or, take, drop, length-drop}
use lib.Seq.{get_or-take, get_or-drop, length-take-le}
use Rattle.tables.proofs.Sums.{all_same, pairs}
use Rattle.tables.specs.Tables.{word}
use Rattle.pool.proofs.link.key_at.Goals as goal

pub returns : goal.returns
returns c =
    let w = c.args.words.now in
    let at = 40 + 12 * c.args.p in
    let key = c.args.key.now in
    let n : at + 6 - at ≡ 6 = omega arith in
    let own = take (at + 6 - at) (drop at w) in
    let long : length own ≡ 6 = length-take-le (at + 6 - at) (drop at w) (simp length-drop (omega arith)) ∙ n in
    c.eq.ensures
    ∙ pairs 6 own key long c.requires.2
    ∙ all_same (λ k. eqb (get_or own k 0) (get_or key k 0)) (λ k. eqb (word w c.args.p k) (get_or key k 0)) 6
    (λ k h. rw (get_or-take (at + 6 - at) (drop at w) k 0 (omega (arith, h, n)), get_or-drop at w k 0))
