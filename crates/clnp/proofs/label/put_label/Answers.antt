use borrow.Author.Rules.{rules}
use native.Mathlib.Omega.{arith}
use mathlib.Core.Path.{◌≡◌}
use lib.ListN.{length}
use Rattle.octets.proofs.Emits.{nothing}
use Rattle.cells.proofs.Rows.{then_row, flat-none}
use Rattle.clnp.proofs.Labels.{reg_of, info_of, no_label, no_reg, with_info, without}
use Rattle.clnp.proofs.label.put_label.Goals as goal

pub returns-in_default : goal.returns-in_default
returns-in_default c = rw (no_label c.args.base c.args.s.now (omega (arith, c.in_default.len_below)), flat-none) (nothing _ _ (search rules) (search rules))

pub returns-then-s-n : goal.returns-then-s-n
returns-then-s-n c =
    let s = c.args.s.now in
    let some : length s ≡ 0 → ⊥ = λ e. omega (arith, e, c.in-len1-up.len_at_least) in
    rw (no_reg c.args.base s some (omega (arith, c.wide-n.ensures.0, c.if-s-n.true)), flat-none) (nothing _ _ (search rules) (search rules))

pub returns-then-n-s : goal.returns-then-n-s
returns-then-n-s c =
    let s = c.args.s.now in
    let is = c.wide-n.ensures.0 in
    let some : length s ≡ 0 → ⊥ = λ e. omega (arith, e, c.in-len1-up.len_at_least) in
    rw (with_info c.args.base s some (omega (arith, is, c.if-s-n.false)) (omega (arith, is, c.if-n-s.true)))
    (then_row 4 (reg_of c.args.base s) (info_of c.args.base s) (rw is at c.put_hex_part-registered.ensures) (rw is at c.put_info.ensures))

pub returns-else-n-s : goal.returns-else-n-s
returns-else-n-s c =
    let s = c.args.s.now in
    let is = c.wide-n.ensures.0 in
    let some : length s ≡ 0 → ⊥ = λ e. omega (arith, e, c.in-len1-up.len_at_least) in
    rw (without c.args.base s some (omega (arith, is, c.if-s-n.false)) (omega (arith, is, c.if-n-s.false))) (rw is at c.put_hex_part-registered.ensures)
