use Prim.Native.Nat.{ℕ}
use mathlib.Core.Path.{◌≡◌, sym, subst}
use mathlib.Core.Bool.{true}
use mathlib.Core.List.{List}
use native.Mathlib.Omega.{arith}
use Rattle.std.proofs.lemmas.Grind.{common_steps}
use Rattle.pool.specs.View.{fits, Made}
use Rattle.pool.proofs.Made.{made}
use Rattle.pool.proofs.make.create.Goals as goal

pub returns-clause-made : goal.returns-clause-made
unfolding fits
returns-clause-made c =
    let a = c.args in
    let list' : List ℕ = c.in_order.new.list in
    let ok : fits a.words.now a.times.now list' a.home.now a.blocks.now a.n a.b a.r a.c ≡ true = grind (arith, common_steps) in
    λ _. subst (λ (v : List ℕ). Made v a.times.now list' a.home.now a.blocks.now a.kind a.n a.b a.r a.c) (sym c.set_new.ensures) (made a.words.now a.times.now list' a.home.now a.blocks.now a.n a.b a.r a.c a.kind ok)
