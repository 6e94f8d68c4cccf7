use mathlib.Core.List.{[]}
use native.Mathlib.Omega.{arith}
use lib.ListN.{get_or}
use Rattle.names.specs.Ascii.{octets}
use Rattle.names.specs.Numbers.{k_error_code, k_error, k_error_subcode, k_error_subcode_text}
use Rattle.codes.specs.Codes.{text_in, idrp_errors, error_subcodes}
use Rattle.cells.specs.Items.{Items, none, leaf, number, text, ◌⊕◌}
use Rattle.cells.proofs.Rows.{then_row, row_as}
use Rattle.fields.specs.Member.{opt_text}
use Rattle.idrp.proofs.Records.{no_sub, with-sub, sub_of}
use Rattle.idrp.proofs.error.put_error.Goals as goal

pub overflow_cast-code : goal.overflow_cast-code
overflow_cast-code c = record { fits = omega (arith, (c.shared_slice_known-2-1.given 0).fits) }

pub returns-then-s-lt2 : goal.returns-then-s-lt2
returns-then-s-lt2 c =
    let s = c.args.s.now in
    let code : Items = leaf k_error_code (number (get_or s 0 0)) none in
    let name : Items = leaf k_error (text (text_in idrp_errors (octets "?") (get_or s 0 0))) none in
    row_as 1 (no_sub s c.if-s-lt2.true) (then_row 1 code name c.put_number-coded.ensures (rw c.idrp_error_code_name.ensures at c.put_text_number-named.ensures))

pub overflow_cast-sub : goal.overflow_cast-sub
overflow_cast-sub c = record { fits = omega (arith, (c.shared_slice_known-3-1.given 1).fits) }

pub returns : goal.returns
returns c =
    let s = c.args.s.now in
    let code : Items = leaf k_error_code (number (get_or s 0 0)) none in
    let name : Items = leaf k_error (text (text_in idrp_errors (octets "?") (get_or s 0 0))) none in
    let sub : Items = leaf k_error_subcode (number (get_or s 1 0)) none in
    let told : Items = opt_text k_error_subcode_text (text_in (error_subcodes (get_or s 0 0)) [] (get_or s 1 0)) in
    row_as 1 (with-sub s c.if-s-lt2.false)
    (then_row 1 code (name ⊕ sub_of s) c.put_number-coded.ensures (then_row 1 name (sub_of s) (rw c.idrp_error_code_name.ensures at c.put_text_number-named.ensures)
    (then_row 1 sub told c.put_number-told.ensures (rw c.idrp_error_subcode_name.ensures at c.put_text_if.ensures))))
