use mathlib.Core.Bool.{false}
use Prim.Native.Nat.{ℕ}
use Rattle.cells.specs.Items.{Items, ◌⊕◌}
use Rattle.cells.proofs.Rows.{around, then_row}
use Rattle.clnp.specs.Label.{bit_name, bit_names}
use Rattle.clnp.proofs.tag.put_bits.Goals as goal

pub returns : goal.returns
returns g c =
    let a = c.args in
    let bit : ℕ → Items = bit_name g.rows a.o in
    let from_64 : Items = bit 64 ⊕ bit 128 in
    let from_16 : Items = bit 16 ⊕ (bit 32 ⊕ from_64) in
    let from_4 : Items = bit 4 ⊕ (bit 8 ⊕ from_16) in
    around 6 false a.field (bit_names g.rows a.o) c.open_list-opened.ensures
    (then_row 7 (bit 1) (bit 2 ⊕ from_4) c.put_bit-one.ensures (then_row 7 (bit 2) from_4 c.put_bit-two.ensures
    (then_row 7 (bit 4) (bit 8 ⊕ from_16) c.put_bit-four.ensures (then_row 7 (bit 8) from_16 c.put_bit-eight.ensures
    (then_row 7 (bit 16) (bit 32 ⊕ from_64) c.put_bit-sixteen.ensures (then_row 7 (bit 32) from_64 c.put_bit-thirty_two.ensures
    (then_row 7 (bit 64) (bit 128) c.put_bit-sixty_four.ensures c.put_bit-all.ensures)))))))
    c.close_group.ensures
