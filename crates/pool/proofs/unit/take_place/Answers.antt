use Prim.Native.Nat.{ℕ, ◌+◌, ◌-◌}
use mathlib.Core.Path.{ap₂, ◌∙◌}
use mathlib.Core.List.{List}
use native.Mathlib.Omega.{arith}
use lib.ListN.{set, length-set}
use Rattle.tables.specs.Tables.{count, units}
use Rattle.tables.proofs.Counts.{stored}
use Rattle.pool.proofs.unit.take_place.Goals as goal

pub ledger_of-requires : goal.ledger_of-requires
ledger_of-requires c = simp length-set (omega (arith, c.down.auto.w, c.requires))

pub set_count-requires : goal.set_count-requires
set_count-requires c = (c.requires.0, simp length-set (omega (arith, c.down.auto.w, c.requires)))

pub shape_of-words : goal.shape_of-words
shape_of-words c = c.set_count.auto.words ∙ simp length-set c.down.auto.w

pub returns : goal.returns
returns c =
    let a = c.args in
    let w = a.words.now in (
      stored (set c.down.new.w (24 + a.l) (units w a.l - 1)) _ _ _ a.l (count w a.l - a.k) c.ledger_of.ensures c.recounted-g.ensures c.set_count.ensures c.requires.0 (simp length-set (omega (arith, c.down.auto.w, c.requires)))
          ∙ ap₂ (λ (x : List ℕ) (k : ℕ). set (set x (24 + a.l) (units w a.l - 1)) (8 + a.l) (count w a.l - k)) c.down.ensures c.requires.5,
      c.down-2.ensures,
    )
