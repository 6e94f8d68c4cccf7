use native.Mathlib.Omega.{arith}
use Prim.Native.Nat.{◌+◌}
use lib.ListN.{get_or}
use Rattle.octets.specs.Read.{be16}
use Rattle.names.specs.Numbers.{k_version, k_hold_time_s, k_max_pdu_size, k_src_rdi}
use Rattle.cells.specs.Items.{Items, none, leaf, number, part, ◌⊕◌}
use Rattle.cells.proofs.Rows.{then_row, row_as}
use Rattle.idrp.proofs.Records.{with-rdi, no_rdi}
use Rattle.idrp.proofs.open.put_open.Goals as goal

pub overflow_cast-s : goal.overflow_cast-s
overflow_cast-s c = record { fits = omega (arith, (c.shared_slice_known-2-1.given 0).fits) }

pub returns-then-n-s : goal.returns-then-n-s
returns-then-n-s c =
    let a = c.args in
    let s = a.s.now in
    let version : Items = leaf k_version (number (get_or s 0 0)) none in
    let hold : Items = leaf k_hold_time_s (number (be16 (get_or s 1 0) (get_or s 2 0))) none in
    let size : Items = leaf k_max_pdu_size (number (be16 (get_or s 3 0) (get_or s 4 0))) none in
    let n = c.wide-n.result in
    let rdi : Items = leaf k_src_rdi (part (a.base + 6) n) none in
    row_as 2 (with-rdi a.base s n c.wide-n.ensures.0 c.if-n-s.true)
    (then_row 2 version (hold ⊕ (size ⊕ rdi)) c.put_number-version.ensures (then_row 2 hold (size ⊕ rdi) (rw c.u16_of.ensures at c.put_number-hold.ensures)
    (then_row 2 size rdi (rw c.u16_of-2.ensures at c.put_number-size.ensures) c.put_hex_part.ensures)))

pub returns : goal.returns
returns c =
    let a = c.args in
    let s = a.s.now in
    let version : Items = leaf k_version (number (get_or s 0 0)) none in
    let hold : Items = leaf k_hold_time_s (number (be16 (get_or s 1 0) (get_or s 2 0))) none in
    let size : Items = leaf k_max_pdu_size (number (be16 (get_or s 3 0) (get_or s 4 0))) none in
    row_as 2 (no_rdi a.base s c.wide-n.result c.wide-n.ensures.0 c.if-n-s.false)
    (then_row 2 version (hold ⊕ size) c.put_number-version.ensures (then_row 2 hold size (rw c.u16_of.ensures at c.put_number-hold.ensures) (rw c.u16_of-2.ensures at c.put_number-size.ensures)))
