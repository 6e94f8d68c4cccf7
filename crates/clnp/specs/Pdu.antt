-- `parse_clnp`: the record of a CLNP PDU.
use Rattle.std.specs.Prelude.{ℕ, ◌+◌, ◌-◌, ◌%◌, Bool, true, false, not, ◌&&◌, ◌||◌, List, [], Option, Some, None, leb, eqb, length, get_or, take, drop}
use Rattle.octets.specs.Text.{pick}
use Rattle.octets.specs.Read.{be16}
use Rattle.names.specs.Numbers.{k_protocol, k_type, k_version, k_lifetime500ms, k_seg_len, k_dst_nsap, k_src_nsap, k_error_report, k_more_segments, k_pdu_id, k_segment_offset, k_total_len, k_segmented, k_options, k_cotp, t_clnp, t_dt, t_erq, t_erp, t_er, t_question}
use Rattle.cells.specs.Items.{Items, none, leaf, group, number, flag, text, part, record_of, in_list, flat, ◌⊕◌}
use Rattle.fields.specs.Member.{opt_yes}
use Rattle.cotp.specs.Tpdu as cotp
use Rattle.cotp.specs.declared.tpdu.Head.{Head}
use Rattle.clnp.specs.Segment.{headed, sp, more, report, seg_at, addresses_of}
use Rattle.clnp.specs.Options.{option_items}
use Rattle.clnp.specs.declared.segment.Addresses.{Addresses}

abbrev pub type_of : ℕ → ℕ
type_of t = pick (eqb t 0x1C) t_dt (pick (eqb t 0x1E) t_erq (pick (eqb t 0x1F) t_erp (pick (eqb t 0x01) t_er t_question)))

-- the segmentation part is there: SP is set, and the octets have it
abbrev pub has_segment : List ℕ → Bool
has_segment s = sp s && leb (seg_at s + 6) (length s)

abbrev pub offset_of : List ℕ → ℕ
offset_of s = pick (has_segment s) (be16 (get_or s (seg_at s + 2) 0) (get_or s (seg_at s + 3) 0)) 0

-- a piece: the more bit is heeded also without SP
abbrev pub segmented : List ℕ → Bool
segmented s = eqb (more s) 1 || not (eqb (offset_of s) 0)

abbrev pub segment_members : List ℕ → Items
segment_members s =
    pick (has_segment s)
    (leaf k_pdu_id (number (be16 (get_or s (seg_at s) 0) (get_or s (seg_at s + 1) 0))) none ⊕ (leaf k_segment_offset (number (offset_of s)) none
    ⊕ (leaf k_total_len (number (be16 (get_or s (seg_at s + 4) 0) (get_or s (seg_at s + 5) 0))) none ⊕ opt_yes k_segmented (segmented s))))
    none

abbrev pub flag_members : List ℕ → Items
flag_members s = pick (sp s) (leaf k_error_report (flag (report s)) none ⊕ (leaf k_more_segments (flag (more s)) none ⊕ segment_members s)) none

-- options stand between the segmentation part, where SP is set, and the end of the header
abbrev pub options_at : List ℕ → ℕ
options_at s = seg_at s + pick (sp s) 6 0

abbrev pub option_part : List ℕ → List ℕ
option_part s = take (get_or s 1 0 - options_at s) (drop (options_at s) s)

-- the TPDU of a PDU that is no piece
abbrev pub cotp_member : ℕ → List ℕ → Option Head → Items
cotp_member base s None = none
cotp_member base s (Some h) = group true k_cotp (cotp.members_of base s h) none

abbrev pub data_member : List ℕ → Items
data_member s = pick (segmented s) none (cotp_member (get_or s 1 0) (drop (get_or s 1 0) s) (cotp.head_of (drop (get_or s 1 0) s)))

abbrev pub address_members : Option Addresses → Items
address_members None = none
address_members (Some a) = leaf k_dst_nsap (part a.dst a.dstlen) none ⊕ leaf k_src_nsap (part a.src a.srclen) none

unfoldable pub members_of : List ℕ → Items
members_of s =
    leaf k_protocol (text t_clnp) none ⊕ (leaf k_type (text (type_of (get_or s 4 0 % 32))) none ⊕ (leaf k_version (number (get_or s 2 0)) none
    ⊕ (leaf k_lifetime500ms (number (get_or s 3 0)) none ⊕ (leaf k_seg_len (number (be16 (get_or s 5 0) (get_or s 6 0))) none
    ⊕ (address_members (addresses_of s) ⊕ (flag_members s ⊕ (in_list k_options (option_items (options_at s) (option_part s)) ⊕ data_member s)))))))

abbrev pub has_addresses : Option Addresses → Bool
has_addresses None = false
has_addresses (Some a) = true

-- no cells where it is unreadable
unfoldable pub clnp_cells : List ℕ → List ℕ
clnp_cells s = pick (headed s && has_addresses (addresses_of s)) (flat 0 (record_of (members_of s))) []
