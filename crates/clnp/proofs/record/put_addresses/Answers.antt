use borrow.Author.Rules.{rules}
use native.Mathlib.Omega.{arith}
use mathlib.Core.Path.{sym, subst, ◌∙◌}
use Rattle.names.specs.Numbers.{k_dst_nsap, k_src_nsap}
use Rattle.octets.proofs.Emits.{nothing}
use Rattle.cells.specs.Items.{none, leaf, part}
use Rattle.cells.proofs.Rows.{then_row, flat-none}
use Rattle.clnp.proofs.Records.{Inside, inside}
use Rattle.clnp.proofs.record.put_addresses.Goals as goal

pub returns-in_default : goal.returns-in_default
returns-in_default c = rw (sym c.clnp_addresses.ensures ∙ c.in_default.is, flat-none) (nothing _ _ (search rules) (search rules))

pub put_hex_part-first-requires : goal.put_hex_part-first-requires
put_hex_part-first-requires c =
    let w = subst (Inside c.args.b.now) (sym c.clnp_addresses.ensures ∙ c.in-Some.is) (inside c.args.b.now) in
    (omega arith, omega (arith, w.0, c.requires))

pub put_hex_part-requires : goal.put_hex_part-requires
put_hex_part-requires c =
    let w = subst (Inside c.args.b.now) (sym c.clnp_addresses.ensures ∙ c.in-Some.is) (inside c.args.b.now) in
    (omega arith, omega (arith, w.1, c.requires))

pub returns : goal.returns
returns c =
    let a = c.in-Some.a in
    rw (sym c.clnp_addresses.ensures ∙ c.in-Some.is)
    (then_row 1 (leaf k_dst_nsap (part a.dst a.dstlen) none) (leaf k_src_nsap (part a.src a.srclen) none) c.put_hex_part-first.ensures c.put_hex_part.ensures)
