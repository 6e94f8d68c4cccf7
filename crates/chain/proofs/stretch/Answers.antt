use Prim.Native.Nat.{◌/◌}
use native.Mathlib.Omega.{arith}
use Rattle.chain.proofs.Flat.{stretches}
use Rattle.chain.proofs.stretch.Goals as goal

pub overflow_add-k : goal.overflow_add-k
overflow_add-k c = omega (arith, c.type_inv.list (c.args.v / 64))

pub returns-clause-stretch : goal.returns-clause-stretch
returns-clause-stretch c = λ b n long ok h. let a = c.args in stretches b a.list.now a.v _ n c.run.result long ok (omega arith) (omega (arith, c.run.ensures)) c.run.ensures.2 (omega (arith, c.run.ensures, c.min.ensures))
