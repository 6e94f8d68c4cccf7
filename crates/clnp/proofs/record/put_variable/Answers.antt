use borrow.Author.Rules.{rules}
use mathlib.Core.Logic.{inl, inr}
use native.Mathlib.Omega.{arith}
use Prim.Native.Nat.{◌≤◌}
use lib.ListN.{get_or}
use Rattle.octets.proofs.Emits.{nothing}
use Rattle.cells.proofs.Rows.{flat-none}
use Rattle.clnp.specs.Pdu.{options_at}
use Rattle.clnp.proofs.Records.{no_options}
use Rattle.clnp.proofs.record.put_variable.Goals as goal

pub returns-in_default : goal.returns-in_default
returns-in_default c =
    let p = c.args.p in
    let s = p.octets.now in
    let past : get_or s 1 0 ≤ options_at s = elim c.in_default.ensures.lookup.0 [
      | inl h ↦ omega (arith, h, c.wide.ensures.0, c.options_at-from.ensures)
      | inr h ↦ absurd (omega (arith, h, c.wide.ensures.0, p.full.1))
    ] in
    rw (no_options s past, flat-none) (nothing _ _ (search rules) (search rules))
