-- `parse_cotp`: what a TPDU's octets say, and its record.
use Rattle.std.specs.Prelude.{ℕ, ◌+◌, ◌-◌, ◌/◌, ◌%◌, Bool, true, false, not, ◌&&◌, ◌||◌, List, [], Option, Some, None, ltb, leb, eqb, length, get_or, take, drop}
use Rattle.octets.specs.Text.{pick}
use Rattle.octets.specs.Read.{be16, be32}
use Rattle.names.specs.Numbers.{k_tpdu, k_dst_ref, k_src_ref, k_class, k_options, k_reason, k_reason_text, k_reject_cause, k_reject_cause_text, k_roa, k_eot, k_tpdu_seq, k_credit, k_extended, k_params, k_user_data_len, k_tsdu_segment, t_cr, t_cc, t_dr, t_dc, t_dt, t_ed, t_ak, t_ea, t_rj, t_er}
use Rattle.codes.specs.Codes.{text_in, disconnect_reasons, reject_causes}
use Rattle.cells.specs.Items.{Items, none, leaf, number, flag, text, record_of, in_list, flat, ◌⊕◌}
use Rattle.fields.specs.Member.{opt_text, opt_yes}
use Rattle.cotp.specs.Params.{param_items}
use Rattle.cotp.specs.declared.tpdu.Head.{Head}
use Rattle.cotp.specs.declared.tpdu.Kind.{Kind}
use Rattle.cotp.specs.declared.tpdu.Kind.TheVariants.{Cr, Cc, Dr, Dc, Dt, Ed, Ak, Ea, Rj, Er}

-- the type, by the high half of the code octet, and its name
unfoldable pub kind_of : ℕ → Option Kind
kind_of high =
    pick (eqb high 0xE) (Some Cr) (pick (eqb high 0xD) (Some Cc) (pick (eqb high 0x8) (Some Dr) (pick (eqb high 0xC) (Some Dc) (pick (eqb high 0xF) (Some Dt)
    (pick (eqb high 0x1) (Some Ed) (pick (eqb high 0x6) (Some Ak) (pick (eqb high 0x2) (Some Ea) (pick (eqb high 0x5) (Some Rj) (pick (eqb high 0x7) (Some Er) None)))))))))

abbrev pub name_of : Kind → ℕ
name_of Cr = t_cr
name_of Cc = t_cc
name_of Dr = t_dr
name_of Dc = t_dc
name_of Dt = t_dt
name_of Ed = t_ed
name_of Ak = t_ak
name_of Ea = t_ea
name_of Rj = t_rj
name_of Er = t_er

-- the types that have sequence numbers: of 31 bits, which is the extended format, where LI is odd
abbrev pub numbered : Kind → Bool
numbered Dt = true
numbered Ed = true
numbered Ak = true
numbered Ea = true
numbered Rj = true
numbered k = false

-- the octets of the fixed part, LI included
abbrev pub fixed_len : Kind → Bool → ℕ
fixed_len Cr extended = 7
fixed_len Cc extended = 7
fixed_len Dr extended = 7
fixed_len Dc extended = 6
fixed_len Er extended = 5
fixed_len Ak extended = pick extended 10 5
fixed_len Rj extended = pick extended 10 5
fixed_len k extended = pick extended 8 5

-- LI, the type and the format of a TPDU, and where its parameters begin, where the octets are readable
abbrev pub head_by : List ℕ → ℕ → Kind → Bool → Option Head
head_by s li kind extended =
    pick (ltb (length s) (fixed_len kind extended)) None (Some (record { li = li; kind = kind; extended = extended; fixed = fixed_len kind extended }))

abbrev pub head_at : List ℕ → ℕ → Option Kind → Option Head
head_at s li None = None
head_at s li (Some kind) = head_by s li kind (numbered kind && eqb (li % 2) 1)

unfoldable pub head_of : List ℕ → Option Head
head_of s =
    pick (ltb (length s) 4) None
    (pick (eqb (get_or s 0 0) 0) None
    (pick (eqb (get_or s 0 0) 255) None (head_at s (get_or s 0 0) (kind_of (get_or s 1 0 / 16)))))

-- ---- the members of the fixed part
abbrev pub seq_of : List ℕ → Bool → ℕ
seq_of s extended = pick extended (be32 (get_or s 4 0) (get_or s 5 0) (get_or s 6 0) (get_or s 7 0) % 2147483648) (get_or s 4 0 % 128)

abbrev pub src_ref : List ℕ → Items
src_ref s = leaf k_src_ref (number (be16 (get_or s 4 0) (get_or s 5 0))) none

abbrev pub seq_member : List ℕ → Bool → Items
seq_member s extended = leaf k_tpdu_seq (number (seq_of s extended)) none

-- AK and RJ: the credit behind a number of 31 bits, or in the code octet, and then before the number
abbrev pub credit_members : List ℕ → Bool → Items
credit_members s extended =
    pick extended (seq_member s true ⊕ leaf k_credit (number (be16 (get_or s 8 0) (get_or s 9 0))) none)
    (leaf k_credit (number (get_or s 1 0 % 16)) none ⊕ seq_member s false)

abbrev pub data_members : List ℕ → Bool → Items
data_members s extended = leaf k_eot (flag (get_or s 4 0 / 128)) none ⊕ seq_member s extended

abbrev pub connect_members : List ℕ → Items
connect_members s = src_ref s ⊕ (leaf k_class (number (get_or s 6 0 / 16)) none ⊕ leaf k_options (number (get_or s 6 0 % 16)) none)

abbrev pub fixed_members : List ℕ → Kind → Bool → Items
fixed_members s Cr extended = connect_members s
fixed_members s Cc extended = connect_members s
fixed_members s Dr extended = src_ref s ⊕ (leaf k_reason (number (get_or s 6 0)) none ⊕ opt_text k_reason_text (text_in disconnect_reasons [] (get_or s 6 0)))
fixed_members s Dc extended = src_ref s
fixed_members s Er extended = leaf k_reject_cause (number (get_or s 4 0)) none ⊕ opt_text k_reject_cause_text (text_in reject_causes [] (get_or s 4 0))
fixed_members s Dt extended = leaf k_roa (flag (get_or s 1 0 % 2)) none ⊕ data_members s extended
fixed_members s Ed extended = data_members s extended
fixed_members s Ea extended = seq_member s extended
fixed_members s Ak extended = credit_members s extended
fixed_members s Rj extended = credit_members s extended

-- ---- the parameters, between the fixed part and the octet that LI counts to, where the octets have it
abbrev pub param_part : List ℕ → Head → List ℕ
param_part s h = pick (leb (h.li + 1) (length s)) (take (h.li + 1 - h.fixed) (drop h.fixed s)) []

-- ---- user data, of DT and ED: how many octets; a DT that is not a whole unit is told
abbrev pub has_data : Kind → Bool
has_data Dt = true
has_data Ed = true
has_data k = false

abbrev pub has_user : List ℕ → Head → Bool
has_user s h = has_data h.kind && ltb (h.li + 1) (length s)

abbrev pub is_data : Kind → Bool
is_data Dt = true
is_data k = false

abbrev pub partial : List ℕ → Head → Bool
partial s h = is_data h.kind && (eqb (get_or s 4 0 / 128) 0 || not (eqb (seq_of s h.extended) 0))

abbrev pub user_members : List ℕ → Head → Items
user_members s h = pick (has_user s h) (leaf k_user_data_len (number (length s - (h.li + 1))) none ⊕ opt_yes k_tsdu_segment (partial s h)) none

-- the members of a TPDU that stands at place base of the input
unfoldable pub members_of : ℕ → List ℕ → Head → Items
members_of base s h =
    leaf k_tpdu (text (name_of h.kind)) none ⊕ (leaf k_dst_ref (number (be16 (get_or s 2 0) (get_or s 3 0))) none
    ⊕ (fixed_members s h.kind h.extended ⊕ (opt_yes k_extended h.extended
    ⊕ (in_list k_params (param_items (base + h.fixed) (param_part s h)) ⊕ user_members s h))))

-- no cells where it is unreadable
abbrev pub head_cells : List ℕ → Option Head → List ℕ
head_cells s None = []
head_cells s (Some h) = flat 0 (record_of (members_of 0 s h))

unfoldable pub cotp_cells : List ℕ → List ℕ
cotp_cells s = head_cells s (head_of s)
