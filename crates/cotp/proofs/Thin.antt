-- How many cells a TPDU's record has at most, so that an output with that many is never short.
use Prim.Native.Nat.{ℕ, ◌+◌, ◌*◌, ◌-◌, ◌/◌, ◌%◌, ◌≤◌}
use mathlib.Core.Path.{◌≡◌, refl, sym, ap, subst, ◌∙◌}
use mathlib.Core.List.{List, [], ◌++◌}
use mathlib.Core.Bool.{Bool, true, false, ◌&&◌}
use native.Mathlib.Omega.{arith}
use lib.Dec.{eqb, leb}
use lib.ListN.{length, get_or, length-append}
use Rattle.octets.specs.Read.{be16}
use Rattle.octets.proofs.Picks.{pick_elim}
use Rattle.names.specs.Numbers.{k_code, k_name, k_tpdu_size, k_value, k_value_hex, k_tpdu, k_dst_ref, k_src_ref, k_class, k_options, k_reason, k_reason_text, k_reject_cause, k_reject_cause_text, k_roa, k_eot, k_tpdu_seq, k_credit, k_extended, k_params, k_user_data_len, k_tsdu_segment}
use Rattle.codes.specs.Codes.{text_in, cotp_params, disconnect_reasons, reject_causes}
use Rattle.cells.specs.Items.{Items, none, leaf, number, flag, octet, text, record_of, in_list, ◌⊕◌, flat}
use Rattle.cells.specs.Answer.{number_of, answer_to}
use Rattle.cells.specs.Walk.{step_of}
use Rattle.std.specs.Prelude.{Option, Some, None}
use Rattle.cells.specs.declared.entry.Body.{Body}
use Rattle.cells.proofs.Rows.{group-size, in_list_thin}
use Rattle.cells.proofs.Walks.{Thin, thin, fuse, flat_walk}
use Rattle.cells.proofs.Answers.{enough}
use Rattle.fields.specs.Tlv.{tlv_at}
use Rattle.fields.specs.Member.{opt_text, opt_yes}
use Rattle.fields.proofs.Tlvs.{Whole, tlv_whole}
use Rattle.fields.proofs.Sizes.{size, rows, empty, one, text-thin, yes_thin, part-thin}
use Rattle.cotp.specs.Params.{two_octets, param_value, param, param_step, param_items}
use Rattle.cotp.specs.Tpdu.{name_of, head_of, src_ref, connect_members, seq_member, credit_members, data_members, fixed_members, param_part, has_user, partial, user_members, members_of, head_cells, cotp_cells}
use Rattle.cotp.specs.declared.tpdu.Head.{Head}
use Rattle.cotp.specs.declared.tpdu.Kind.{Kind}
use Rattle.cotp.specs.declared.tpdu.Kind.TheVariants.{Cr, Cc, Dr, Dc, Dt, Ed, Ak, Ea, Rj, Er}

-- ---- parameters: at most three cells for each octet of the part
value-thin : (d base : ℕ) (s : List ℕ) (t i n : ℕ) → size d (param_value base s t i n) ≡ 1
unfolding param_value
value-thin d base s t i n =
    let v = get_or s i 0 in
    pick_elim (λ (x : Items). size d x ≡ 1) (eqb t 0xC0 && (eqb n 1 && (leb 7 v && leb v 13))) (λ h. one d k_tpdu_size _)
    (λ h. pick_elim (λ (x : Items). size d x ≡ 1) (two_octets t && eqb n 2) (λ h. one d k_value _)
    (λ h. pick_elim (λ (x : Items). size d x ≡ 1) (eqb t 0xC4 && eqb n 1) (λ h. one d k_value _)
    (λ h. pick_elim (λ (x : Items). size d x ≡ 1) (eqb t 0xF2 && eqb n 4) (λ h. one d k_value _) (λ h. one d k_value_hex _))))

param-size : (d base : ℕ) (s : List ℕ) (t i n : ℕ) → size d (param base s t i n) ≤ 5
param-size d base s t i n =
    let code : Items = leaf k_code (octet t) none in
    let name : Items = opt_text k_name (text_in cotp_params [] t) in
    let value : Items = param_value base s t i n in
    omega (
      arith,
      group-size d true 0 (code ⊕ (name ⊕ value)),
      rows (d + 1) code (name ⊕ value),
      rows (d + 1) name value,
      one (d + 1) k_code (octet t),
      text-thin (d + 1) k_name (text_in cotp_params [] t),
      value-thin (d + 1) base s t i n,
    )

step-thin : (d base : ℕ) (s : List ℕ) (i : ℕ) (e : Option Body) → Whole s i e
    → Thin (param_step base s) (λ c. length (flat d c)) 3 (length s) i (step_of (λ start n. param base s (get_or s i 0) start n) e)
step-thin d base s i None w = tt
step-thin d base s i (Some b) w = (omega (arith, w.0), w.2, omega (arith, w.0, param-size d base s (get_or s i 0) b.start b.len))

pub params-thin : (d base : ℕ) (s : List ℕ) → length (flat d (param_items base s)) ≤ 3 * length s
params-thin d base s =
    let e = ap length (flat_walk d (param_step base s) (length s) 0)
    ∙ fuse (param_step base s) (λ n. []) (λ c r. flat d c ++ r) (λ n. 0) (λ c r. length (flat d c) + r) length (λ n. refl) (λ c r. length-append (flat d c) r) (length s) 0 in
    subst (λ (n : ℕ). n ≤ 3 * length s) (sym e)
    (thin (param_step base s) (λ c. length (flat d c)) 3 (length s) (λ i h. step-thin d base s i (tlv_at s i) (tlv_whole s i)))

part-short : (s : List ℕ) (h : Head) → length (param_part s h) ≤ length s
part-short s h = pick_elim (λ (l : List ℕ). length l ≤ length s) (leb (h.li + 1) (length s)) (λ e. part-thin (h.li + 1 - h.fixed) h.fixed s) (λ e. omega arith)

list_thin : (d base : ℕ) (s : List ℕ) (h : Head) → size d (in_list k_params (param_items base (param_part s h))) ≤ 3 * length s + 2
list_thin d base s h =
    let p : List ℕ = param_part s h in
    omega (arith, in_list_thin d k_params (param_items base p), params-thin (d + 1) base p, part-short s h)

-- ---- the fixed part
module _ (d : ℕ) (s : List ℕ) where
  abbrev Few : Items → Type 0
  Few x = size d x ≤ 3

  connect_thin : Few (connect_members s)
  connect_thin =
      let c : Items = leaf k_class (number (get_or s 6 0 / 16)) none in
      let o : Items = leaf k_options (number (get_or s 6 0 % 16)) none in
      omega (arith, rows d (src_ref s) (c ⊕ o), rows d c o, one d k_src_ref (number (be16 (get_or s 4 0) (get_or s 5 0))), one d k_class (number (get_or s 6 0 / 16)), one d k_options (number (get_or s 6 0 % 16)))

  request-thin : Few (src_ref s ⊕ (leaf k_reason (number (get_or s 6 0)) none ⊕ opt_text k_reason_text (text_in disconnect_reasons [] (get_or s 6 0))))
  request-thin =
      let r : Items = leaf k_reason (number (get_or s 6 0)) none in
      let t : Items = opt_text k_reason_text (text_in disconnect_reasons [] (get_or s 6 0)) in
      omega (arith, rows d (src_ref s) (r ⊕ t), rows d r t, one d k_src_ref (number (be16 (get_or s 4 0) (get_or s 5 0))), one d k_reason (number (get_or s 6 0)), text-thin d k_reason_text (text_in disconnect_reasons [] (get_or s 6 0)))

  error_thin : Few (leaf k_reject_cause (number (get_or s 4 0)) none ⊕ opt_text k_reject_cause_text (text_in reject_causes [] (get_or s 4 0)))
  error_thin =
      let r : Items = leaf k_reject_cause (number (get_or s 4 0)) none in
      let t : Items = opt_text k_reject_cause_text (text_in reject_causes [] (get_or s 4 0)) in
      omega (arith, rows d r t, one d k_reject_cause (number (get_or s 4 0)), text-thin d k_reject_cause_text (text_in reject_causes [] (get_or s 4 0)))

  seq_thin : (e : Bool) → size d (seq_member s e) ≡ 1
  seq_thin e = one d k_tpdu_seq _

  data_thin : (e : Bool) → size d (data_members s e) ≤ 2
  data_thin e =
      let m : Items = leaf k_eot (flag (get_or s 4 0 / 128)) none in
      omega (arith, rows d m (seq_member s e), one d k_eot (flag (get_or s 4 0 / 128)), seq_thin e)

  asked-thin : (e : Bool) → Few (leaf k_roa (flag (get_or s 1 0 % 2)) none ⊕ data_members s e)
  asked-thin e =
      let m : Items = leaf k_roa (flag (get_or s 1 0 % 2)) none in
      omega (arith, rows d m (data_members s e), one d k_roa (flag (get_or s 1 0 % 2)), data_thin e)

  credit_thin : (e : Bool) → Few (credit_members s e)
  credit_thin true =
      let c : Items = leaf k_credit (number (be16 (get_or s 8 0) (get_or s 9 0))) none in
      omega (arith, rows d (seq_member s true) c, one d k_credit (number (be16 (get_or s 8 0) (get_or s 9 0))), seq_thin true)
  credit_thin false =
      let c : Items = leaf k_credit (number (get_or s 1 0 % 16)) none in
      omega (arith, rows d c (seq_member s false), one d k_credit (number (get_or s 1 0 % 16)), seq_thin false)

  fixed-thin : (k : Kind) (e : Bool) → Few (fixed_members s k e)
  fixed-thin Cr e = connect_thin
  fixed-thin Cc e = connect_thin
  fixed-thin Dr e = request-thin
  fixed-thin Dc e = omega (arith, one d k_src_ref (number (be16 (get_or s 4 0) (get_or s 5 0))))
  fixed-thin Er e = error_thin
  fixed-thin Dt e = asked-thin e
  fixed-thin Ed e = omega (arith, data_thin e)
  fixed-thin Ea e = omega (arith, seq_thin e)
  fixed-thin Ak e = credit_thin e
  fixed-thin Rj e = credit_thin e

  user_thin : (h : Head) → size d (user_members s h) ≤ 2
  user_thin h =
      let count : Items = leaf k_user_data_len (number (length s - (h.li + 1))) none in
      let told : Items = opt_yes k_tsdu_segment (partial s h) in
      pick_elim (λ (x : Items). size d x ≤ 2) (has_user s h)
      (λ e. omega (arith, rows d count told, one d k_user_data_len (number (length s - (h.li + 1))), yes_thin d k_tsdu_segment (partial s h))) (λ e. omega (arith, empty d))

-- ---- the members, at any depth and place
pub members_thin : (d base : ℕ) (s : List ℕ) (h : Head) → length (flat d (members_of base s h)) ≤ 3 * length s + 10
unfolding members_of
members_thin d base s h =
    let name : Items = leaf k_tpdu (text (name_of h.kind)) none in
    let dst : Items = leaf k_dst_ref (number (be16 (get_or s 2 0) (get_or s 3 0))) none in
    let fixed : Items = fixed_members s h.kind h.extended in
    let long : Items = opt_yes k_extended h.extended in
    let params : Items = in_list k_params (param_items (base + h.fixed) (param_part s h)) in
    let user : Items = user_members s h in
    omega (
      arith,
      rows d name (dst ⊕ (fixed ⊕ (long ⊕ (params ⊕ user)))),
      rows d dst (fixed ⊕ (long ⊕ (params ⊕ user))),
      rows d fixed (long ⊕ (params ⊕ user)),
      rows d long (params ⊕ user),
      rows d params user,
      one d k_tpdu (text (name_of h.kind)),
      one d k_dst_ref (number (be16 (get_or s 2 0) (get_or s 3 0))),
      fixed-thin d s h.kind h.extended,
      yes_thin d k_extended h.extended,
      list_thin d (base + h.fixed) s h,
      user_thin d s h,
    )

pub record_thin : (s : List ℕ) (h : Head) → length (flat 0 (record_of (members_of 0 s h))) ≤ 3 * length s + 12
record_thin s h = omega (arith, group-size 0 true 0 (members_of 0 s h), members_thin 1 0 s h)

head_thin : (s : List ℕ) (h : Option Head) → length (head_cells s h) ≤ 4 * length s + 64
head_thin s None = omega arith
head_thin s (Some h) = omega (arith, record_thin s h)

pub cotp_thin : (s : List ℕ) → length (cotp_cells s) ≤ 4 * length s + 64
unfolding cotp_cells
cotp_thin s = head_thin s (head_of s)

-- with four cells for each octet and 64 more the answer is not 10
pub never_short : (s : List ℕ) (room : ℕ) → 4 * length s + 64 ≤ room → number_of (answer_to (length s) (cotp_cells s) room) ≡ 10 → ⊥
never_short s room h e = enough (length s) (cotp_cells s) room (omega (arith, cotp_thin s)) e
