use Prim.Native.Nat.{ℕ, ◌-◌}
use mathlib.Core.Path.{ap, ◌∙◌}
use mathlib.Core.List.{List}
use native.Mathlib.Omega.{arith}
use lib.ListN.{take, drop, replicate}
use Rattle.octets.specs.Emit.{put}
use Rattle.chain.proofs.Laws.{swap_law}
use Rattle.chain.proofs.swap_within.Goals as goal

pub returns : goal.returns
returns g c =
    let l = c.args.list.now in
    let p = c.args.p in
    let q = c.args.q in
    let e = c.args.e in
    c.copy-3.ensures
    ∙ ap (λ (s : List ℕ). put l p (take (e - p) (drop 0 s)))
    (c.copy-2.ensures ∙ ap (λ (s : List ℕ). put s (e - q) (take (q - p) (drop p l))) c.copy.ensures)
    ∙ swap_law l (replicate g.row.N 0) p q e (omega (arith, c.requires)) (omega (arith, c.requires)) (omega (arith, c.requires)) (omega (arith, c.requires))
