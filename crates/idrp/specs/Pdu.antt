-- `parse_idrp`: the record of an IDRP BISPDU.
use Rattle.std.specs.Prelude.{ℕ, ◌+◌, true, List, [], ltb, leb, eqb, length, get_or, drop}
use Rattle.octets.specs.Text.{pick}
use Rattle.octets.specs.Read.{be16, be32}
use Rattle.names.specs.Ascii.{octets}
use Rattle.names.specs.Numbers.{k_protocol, k_payload_len, k_bispdu_len, k_type, k_sequence, k_ack, k_credit_offered, k_credit_avail, k_open, k_update, k_error_code, k_error, k_error_subcode, k_error_subcode_text, k_version, k_hold_time_s, k_max_pdu_size, k_src_rdi, t_idrp}
use Rattle.codes.specs.Codes.{text_in, idrp_types, idrp_errors, error_subcodes}
use Rattle.cells.specs.Items.{Items, none, leaf, group, number, text, part, record_of, flat, ◌⊕◌}
use Rattle.fields.specs.Member.{opt_text}
use Rattle.idrp.specs.Update.{update_readable, update_members}

-- the members of an OPEN's body at place base of the input: `parse_idrp_open`
abbrev pub open_members : ℕ → List ℕ → Items
open_members base s =
    leaf k_version (number (get_or s 0 0)) none ⊕ (leaf k_hold_time_s (number (be16 (get_or s 1 0) (get_or s 2 0))) none
    ⊕ (leaf k_max_pdu_size (number (be16 (get_or s 3 0) (get_or s 4 0))) none
    ⊕ pick (leb (6 + get_or s 5 0) (length s)) (leaf k_src_rdi (part (base + 6) (get_or s 5 0)) none) none))

abbrev pub error_members : List ℕ → Items
error_members s =
    leaf k_error_code (number (get_or s 0 0)) none ⊕ (leaf k_error (text (text_in idrp_errors (octets "?") (get_or s 0 0))) none
    ⊕ pick (ltb (length s) 2) none (leaf k_error_subcode (number (get_or s 1 0)) none
    ⊕ opt_text k_error_subcode_text (text_in (error_subcodes (get_or s 0 0)) [] (get_or s 1 0))))

-- the body stands behind a header of 30 octets
unfoldable pub body_members : ℕ → List ℕ → Items
body_members t s =
    pick (eqb (length s) 0) none
    (pick (eqb t 1) (pick (ltb (length s) 6) none (group true k_open (open_members 30 s) none))
    (pick (eqb t 2) (pick (update_readable s) (group true k_update (update_members 30 s) none) none)
    (pick (eqb t 3) (error_members s) none)))

abbrev pub number_members : List ℕ → Items
number_members s =
    pick (ltb (length s) 12) none
    (leaf k_sequence (number (be32 (get_or s 4 0) (get_or s 5 0) (get_or s 6 0) (get_or s 7 0))) none
    ⊕ leaf k_ack (number (be32 (get_or s 8 0) (get_or s 9 0) (get_or s 10 0) (get_or s 11 0))) none)

abbrev pub credit_members : List ℕ → Items
credit_members s = pick (ltb (length s) 14) none (leaf k_credit_offered (number (get_or s 12 0)) none ⊕ leaf k_credit_avail (number (get_or s 13 0)) none)

abbrev pub head_members : List ℕ → Items
head_members s =
    leaf k_bispdu_len (number (be16 (get_or s 1 0) (get_or s 2 0))) none ⊕ (leaf k_type (text (text_in idrp_types (octets "?") (get_or s 3 0))) none
    ⊕ (number_members s ⊕ (credit_members s ⊕ body_members (get_or s 3 0) (drop 30 s))))

unfoldable pub members_of : List ℕ → Items
members_of s =
    leaf k_protocol (text t_idrp) none ⊕ (leaf k_payload_len (number (length s)) none ⊕ pick (ltb (length s) 4) none (head_members s))

unfoldable pub idrp_cells : List ℕ → List ℕ
idrp_cells s = flat 0 (record_of (members_of s))
