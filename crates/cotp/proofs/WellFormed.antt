-- The members of a TPDU are a good row at any depth and place, and the cells of a readable TPDU read back as its record.
use Prim.Native.Nat.{ℕ, ◌+◌, ◌*◌, ◌-◌, ◌^◌, ◌≤◌, ◌<◌}
use mathlib.Core.Path.{◌≡◌, refl, ap, ◌∙◌}
use mathlib.Core.List.{List, []}
use mathlib.Core.Bool.{Bool, true, false, ◌&&◌}
use mathlib.Core.Option.{some}
use native.Mathlib.Omega.{arith}
use borrow.Author.Tests.{leb-true}
use lib.Dec.{eqb, leb}
use lib.ListN.{length, get_or, drop, length-take, length-drop}
use lib.Pow.{pow_mono}
use Rattle.octets.proofs.Tests.{and_right}
use Rattle.octets.proofs.Picks.{pick_elim}
use Rattle.names.specs.Numbers.{last_text, k_name, k_reason_text, k_reject_cause_text, k_extended, k_params, k_tsdu_segment}
use Rattle.codes.specs.Codes.{text_in, cotp_params, disconnect_reasons, reject_causes}
use Rattle.codes.proofs.Lows.{text-low}
use Rattle.cells.specs.Items.{Items, none, ◌⊕◌, in_list}
use Rattle.cells.specs.Read.{items_of}
use Rattle.cells.specs.Good.{GoodRow}
use Rattle.cells.specs.Walk.{step_of}
use Rattle.std.specs.Prelude.{Option, Some, None}
use Rattle.cells.specs.declared.entry.Body.{Body}
use Rattle.cells.proofs.Rows.{good-⊕, good_in_list}
use Rattle.cells.proofs.Walks.{Each, all}
use Rattle.cells.proofs.WellFormed.{reads-back}
use Rattle.fields.specs.Tlv.{tlv_at}
use Rattle.fields.specs.Member.{opt_text, opt_yes}
use Rattle.fields.proofs.Tlvs.{Whole, tlv_whole}
use Rattle.fields.proofs.Goods.{Octets, text-good, yes_good, take-small, drop-small}
use Rattle.cotp.specs.Params.{two_octets, param_value, param, param_step, param_items}
use Rattle.cotp.specs.Tpdu.{name_of, head_of, src_ref, connect_members, seq_member, credit_members, data_members, fixed_members, param_part, has_user, partial, user_members, members_of, cotp_cells}
use Rattle.cotp.specs.declared.tpdu.Head.{Head}
use Rattle.cotp.specs.declared.tpdu.Kind.{Kind}
use Rattle.cotp.specs.declared.tpdu.Kind.TheVariants.{Cr, Cc, Dr, Dc, Dt, Ed, Ak, Ea, Rj, Er}
use Rattle.cotp.proofs.Values.{size_range}
use Rattle.cotp.proofs.Heads.{Said, said}
use Rattle.cotp.proofs.Cells.{cells_are}

-- ---- text numbers are listed
name-listed : (k : Kind) → (0 < name_of k) × (name_of k ≤ last_text)
name-listed Cr = (omega arith, omega arith)
name-listed Cc = (omega arith, omega arith)
name-listed Dr = (omega arith, omega arith)
name-listed Dc = (omega arith, omega arith)
name-listed Dt = (omega arith, omega arith)
name-listed Ed = (omega arith, omega arith)
name-listed Ak = (omega arith, omega arith)
name-listed Ea = (omega arith, omega arith)
name-listed Rj = (omega arith, omega arith)
name-listed Er = (omega arith, omega arith)

-- ---- rows are good, for an input of n octets and with d groups open around them
module _ (n : ℕ) where
  module _ (base : ℕ) (s : List ℕ) (small : Octets s) where
    size_low : (v : ℕ) → (leb 7 v && leb v 13) ≡ true → 2 ^ v < 4294967296
    size_low v h = let l : 2 ^ v ≤ 2 ^ 13 = pow_mono (size_range v h).1 in omega (arith, l)

    word_low : (i j k l : ℕ) → ((get_or s i 0 * 256 + get_or s j 0) * 256 + get_or s k 0) * 256 + get_or s l 0 < 4294967296
    word_low i j k l = omega (arith, small i, small j, small k, small l)

    value-good : (d t i len : ℕ) → d < 16 → base + i + len ≤ n → GoodRow n true d (param_value base s t i len)
    unfolding param_value
    value-good d t i len l h =
        let v = get_or s i 0 in
        pick_elim (GoodRow n true d) (eqb t 0xC0 && (eqb len 1 && (leb 7 v && leb v 13)))
        (λ e. (l, (omega arith, omega arith), size_low v (and_right (eqb len 1) (leb 7 v && leb v 13) (and_right (eqb t 0xC0) (eqb len 1 && (leb 7 v && leb v 13)) e)), tt))
        (λ e. pick_elim (GoodRow n true d) (two_octets t && eqb len 2) (λ e. (l, (omega arith, omega arith), omega (arith, small i, small (i + 1)), tt))
        (λ e. pick_elim (GoodRow n true d) (eqb t 0xC4 && eqb len 1) (λ e. (l, (omega arith, omega arith), omega (arith, small i), tt))
        (λ e. pick_elim (GoodRow n true d) (eqb t 0xF2 && eqb len 4) (λ e. (l, (omega arith, omega arith), word_low i (i + 1) (i + 2) (i + 3), tt)) (λ e. (l, (omega arith, omega arith), h, tt)))))

    module _ (d : ℕ) (deep : d < 15) where
      param-good : (t i len : ℕ) → t < 256 → base + i + len ≤ n → GoodRow n false d (param base s t i len)
      param-good t i len low h =
          let name : Items = opt_text k_name (text_in cotp_params [] t) in
          let value : Items = param_value base s t i len in
          let l : d + 1 < 16 = omega arith in
          (omega arith, refl, (l, (omega arith, omega arith), low, good-⊕ n true (d + 1) name value (text-good n (d + 1) k_name (text_in cotp_params [] t) l (omega arith, omega arith) (text-low cotp_params [] t)) (value-good (d + 1) t i len l h)), tt)

      abbrev good : Items → Type 0
      good c = GoodRow n false d c

      each : base + length s ≤ n → (i : ℕ) (e : Option Body) → Whole s i e
          → Each (param_step base s) (λ k. none) ◌⊕◌ (length s) good good (λ k. tt) (λ c r q g. good-⊕ n false d c r q g) (step_of (λ start len. param base s (get_or s i 0) start len) e)
      each h i None w = tt
      each h i (Some b) w = param-good (get_or s i 0) b.start b.len (small i) (omega (arith, w.2, h))

      pub params-good : base + length s ≤ n → GoodRow n false d (param_items base s)
      params-good h = all (param_step base s) (λ k. none) ◌⊕◌ (length s) good good (λ k. tt) (λ c r q g. good-⊕ n false d c r q g) (λ i l. each h i (tlv_at s i) (tlv_whole s i))

  module _ (s : List ℕ) (small : Octets s) (d : ℕ) (deep : d < 16) where
    abbrev row : Items → Type 0
    row x = GoodRow n true d x

    seq_good : (e : Bool) → row (seq_member s e)
    seq_good true = (deep, (omega arith, omega arith), omega arith, tt)
    seq_good false = (deep, (omega arith, omega arith), omega arith, tt)

    src-good : row (src_ref s)
    src-good = (deep, (omega arith, omega arith), omega (arith, small 4, small 5), tt)

    data_good : (e : Bool) → row (data_members s e)
    data_good e = (deep, (omega arith, omega arith), omega (arith, small 4), seq_good e)

    credit_good : (e : Bool) → row (credit_members s e)
    credit_good true = (deep, (omega arith, omega arith), omega arith, (deep, (omega arith, omega arith), omega (arith, small 8, small 9), tt))
    credit_good false = (deep, (omega arith, omega arith), omega arith, seq_good false)

    connect-good : row (connect_members s)
    connect-good = (deep, (omega arith, omega arith), omega (arith, small 4, small 5), (deep, (omega arith, omega arith), omega (arith, small 6), (deep, (omega arith, omega arith), omega arith, tt)))

    fixed-good : (k : Kind) (e : Bool) → row (fixed_members s k e)
    fixed-good Cr e = connect-good
    fixed-good Cc e = connect-good
    fixed-good Dr e =
        (deep, (omega arith, omega arith), omega (arith, small 4, small 5), (deep, (omega arith, omega arith), omega (arith, small 6), text-good n d k_reason_text (text_in disconnect_reasons [] (get_or s 6 0)) deep (omega arith, omega arith) (text-low disconnect_reasons [] (get_or s 6 0))))
    fixed-good Dc e = src-good
    fixed-good Er e =
        (deep, (omega arith, omega arith), omega (arith, small 4), text-good n d k_reject_cause_text (text_in reject_causes [] (get_or s 4 0)) deep (omega arith, omega arith) (text-low reject_causes [] (get_or s 4 0)))
    fixed-good Dt e = (deep, (omega arith, omega arith), omega arith, data_good e)
    fixed-good Ed e = data_good e
    fixed-good Ea e = seq_good e
    fixed-good Ak e = credit_good e
    fixed-good Rj e = credit_good e

    user_good : (h : Head) → length s ≤ 65535 → row (user_members s h)
    user_good h l =
        pick_elim row (has_user s h) (λ e. (deep, (omega arith, omega arith), omega arith, yes_good n d k_tsdu_segment (partial s h) deep (omega arith, omega arith))) (λ e. tt)

-- ---- the members of a TPDU that was read, at depth d and at place base of an input of n octets
module _ (n d base : ℕ) (s : List ℕ) (small : Octets s) (short : length s ≤ 65535) (deep : d < 14) (within : base + length s ≤ n) (h : Head) (w : Said s h) where
  part-within : base + h.fixed + length (param_part s h) ≤ n
  part-within =
      let f : h.fixed ≤ length s = omega (arith, w.front, w.whole) in
      pick_elim (λ (l : List ℕ). base + h.fixed + length l ≤ n) (leb (h.li + 1) (length s))
      (λ e. omega (arith, f, leb-true (h.li + 1) (length s) e, length-take (h.li + 1 - h.fixed) (drop h.fixed s), length-drop h.fixed s)) (λ e. omega (arith, f))

  part_small : Octets (param_part s h)
  part_small =
      pick_elim Octets (leb (h.li + 1) (length s)) (λ e. take-small (h.li + 1 - h.fixed) (drop h.fixed s) (drop-small h.fixed s small)) (λ e i. omega arith)

  list_good : GoodRow n true d (in_list k_params (param_items (base + h.fixed) (param_part s h)))
  list_good =
      let l : d + 1 < 15 = omega arith in
      good_in_list n true d k_params (param_items (base + h.fixed) (param_part s h)) (omega arith) (omega arith, omega arith)
      (params-good n (base + h.fixed) (param_part s h) part_small (d + 1) l part-within)

  good-read : GoodRow n true d (members_of base s h)
  unfolding members_of
  good-read =
      let l : d < 16 = omega arith in
      let fixed : Items = fixed_members s h.kind h.extended in
      let long : Items = opt_yes k_extended h.extended in
      let params : Items = in_list k_params (param_items (base + h.fixed) (param_part s h)) in
      let user : Items = user_members s h in (
        l,
        (omega arith, omega arith),
        name-listed h.kind,
        (
          l,
          (omega arith, omega arith),
          omega (arith, small 2, small 3),
          good-⊕ n true d fixed (long ⊕ (params ⊕ user)) (fixed-good n s small d l h.kind h.extended)
              (good-⊕ n true d long (params ⊕ user) (yes_good n d k_extended h.extended l (omega arith, omega arith))
              (good-⊕ n true d params user list_good (user_good n s small d l h short))),
        ),
      )

module _ (s : List ℕ) (small : Octets s) (short : length s ≤ 65535) (h : Head) (readable : head_of s ≡ Some h) where
  -- for an input of n octets that has s at its place base
  pub good_members : (n d base : ℕ) → d ≤ 8 → base + length s ≤ n → GoodRow n true d (members_of base s h)
  good_members n d base l w = good-read n d base s small short (omega arith) w h (said s h readable)

  pub cotp_reads-back : items_of (length s) (cotp_cells s) ≡ some (members_of 0 s h)
  cotp_reads-back =
      ap (items_of (length s)) (cells_are s h readable) ∙ reads-back (length s) (members_of 0 s h) (omega arith) (good_members (length s) 1 0 (omega arith) (omega arith))
