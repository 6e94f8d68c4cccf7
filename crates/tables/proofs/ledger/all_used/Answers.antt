use Prim.Native.Nat.{ℕ}
use mathlib.Core.Path.{ap, ◌∙◌}
use mathlib.Core.List.{List}
use native.Mathlib.Omega.{arith}
use lib.ListN.{get_or}
use Rattle.tables.specs.Tables.{total}
use Rattle.tables.proofs.Counts.{ledger_low, total-is}
use Rattle.tables.proofs.ledger.all_used.Goals as goal

pub total_of-requires : goal.total_of-requires
total_of-requires c =
    λ l h. omega (arith, ap (λ (g : List ℕ). get_or g l 0) c.ledger_of.ensures, ledger_low c.args.words.now c.requires.1 c.requires.2 l h)

pub returns : goal.returns
returns c = c.total_of.ensures ∙ ap total c.ledger_of.ensures ∙ total-is c.args.words.now c.requires.1 c.requires.2
