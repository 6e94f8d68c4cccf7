-- The members of a BISPDU's record, by the tests that are made for them.
use Prim.Native.Nat.{ℕ, ◌+◌, ◌-◌, ◌≤◌, ◌<◌}
use mathlib.Core.Path.{◌≡◌, refl, sym, ap, ◌∙◌}
use mathlib.Core.List.{List, []}
use mathlib.Core.Bool.{Bool, true, false}
use native.Mathlib.Omega.{arith}
use borrow.Author.Tests.{eq-eqb, ne_eqb, lt-ltb, le-ltb, le-leb, lt-leb}
use lib.Dec.{ltb, eqb}
use lib.ListN.{length, get_or, take, drop, length-drop}
use Rattle.octets.specs.Text.{pick}
use Rattle.octets.specs.Read.{be16, be32}
use Rattle.octets.proofs.Picks.{pick_yes, pick_no}
use Rattle.names.specs.Ascii.{octets}
use Rattle.names.specs.Numbers.{k_protocol, k_payload_len, k_sequence, k_ack, k_credit_offered, k_credit_avail, k_open, k_update, k_error_code, k_error, k_error_subcode, k_error_subcode_text, k_version, k_hold_time_s, k_max_pdu_size, k_src_rdi, t_idrp}
use Rattle.codes.specs.Codes.{text_in, idrp_errors, error_subcodes}
use Rattle.cells.specs.Items.{Items, none, leaf, group, number, text, part, ◌⊕◌}
use Rattle.cells.proofs.Answers.{rest}
use Rattle.fields.specs.Member.{opt_text}
use Rattle.idrp.specs.Update.{update_readable, update_members}
use Rattle.idrp.specs.Pdu.{open_members, error_members, body_members, number_members, credit_members, head_members, members_of}

-- ---- an OPEN
module _ (base : ℕ) (s : List ℕ) where
  abbrev pub fixed_of : Items → Items
  fixed_of x =
      leaf k_version (number (get_or s 0 0)) none ⊕ (leaf k_hold_time_s (number (be16 (get_or s 1 0) (get_or s 2 0))) none
      ⊕ (leaf k_max_pdu_size (number (be16 (get_or s 3 0) (get_or s 4 0))) none ⊕ x))

  abbrev rdi : ℕ → Items
  rdi n = leaf k_src_rdi (part (base + 6) n) none

  module _ (n : ℕ) (is : n ≡ get_or s 5 0) where
    pub with-rdi : 6 + n ≤ length s → fixed_of (rdi n) ≡ open_members base s
    with-rdi h = ap fixed_of (ap rdi is ∙ sym (pick_yes (rdi (get_or s 5 0)) none (le-leb (6 + get_or s 5 0) (length s) (omega (arith, h, is)))))

    pub no_rdi : length s < 6 + n → fixed_of none ≡ open_members base s
    no_rdi h = ap fixed_of (sym (pick_no (rdi (get_or s 5 0)) none (lt-leb (6 + get_or s 5 0) (length s) (omega (arith, h, is)))))

-- ---- an ERROR
module _ (s : List ℕ) where
  abbrev pub error_of : Items → Items
  error_of x = leaf k_error_code (number (get_or s 0 0)) none ⊕ (leaf k_error (text (text_in idrp_errors (octets "?") (get_or s 0 0))) none ⊕ x)

  abbrev pub sub_of : Items
  sub_of = leaf k_error_subcode (number (get_or s 1 0)) none ⊕ opt_text k_error_subcode_text (text_in (error_subcodes (get_or s 0 0)) [] (get_or s 1 0))

  pub no_sub : length s < 2 → error_of none ≡ error_members s
  no_sub h = ap error_of (sym (pick_yes none sub_of (lt-ltb (length s) 2 h)))

  pub with-sub : 2 ≤ length s → error_of sub_of ≡ error_members s
  with-sub h = ap error_of (sym (pick_no none sub_of (le-ltb (length s) 2 h)))

-- ---- a body, which is not empty
module _ (s : List ℕ) (some : 0 < length s) where
  abbrev opened : Items
  opened = group true k_open (open_members 30 s) none

  abbrev updated : Items
  updated = group true k_update (update_members 30 s) none

  abbrev chosen : Bool → Bool → Bool → Items
  chosen a b c =
      pick a (pick (ltb (length s) 6) none opened)
      (pick b (pick (update_readable s) updated none) (pick c (error_members s) none))

  body_is : (t : ℕ) {a b c : Bool} → eqb t 1 ≡ a → eqb t 2 ≡ b → eqb t 3 ≡ c → chosen a b c ≡ body_members t s
  unfolding body_members
  body_is t {a} {b} {c} p q r =
      let n : eqb (length s) 0 ≡ false = ne_eqb (length s) 0 (λ e. omega (arith, e, some)) in
      sym (pick_no none (chosen (eqb t 1) (eqb t 2) (eqb t 3)) n ∙ ap (λ (x : Bool). chosen x (eqb t 2) (eqb t 3)) p ∙ ap (λ (x : Bool). chosen a x (eqb t 3)) q ∙ ap (λ (x : Bool). chosen a b x) r)

  pub open_cut : length s < 6 → none ≡ body_members 1 s
  open_cut h = sym (pick_yes none opened (lt-ltb (length s) 6 h)) ∙ body_is 1 refl refl refl

  pub open_whole : 6 ≤ length s → opened ≡ body_members 1 s
  open_whole h = sym (pick_no none opened (le-ltb (length s) 6 h)) ∙ body_is 1 refl refl refl

  pub update_whole : update_readable s ≡ true → updated ≡ body_members 2 s
  update_whole h = sym (pick_yes updated none h) ∙ body_is 2 refl refl refl

  pub update_cut : update_readable s ≡ false → none ≡ body_members 2 s
  update_cut h = sym (pick_no updated none h) ∙ body_is 2 refl refl refl

  pub as_typed : (t k : ℕ) → t ≡ k → body_members k s ≡ body_members t s
  as_typed t k e = ap (λ (x : ℕ). body_members x s) (sym e)

  pub is_error : (t : ℕ) → t ≡ 3 → error_members s ≡ body_members t s
  is_error t e = body_is 3 refl refl refl ∙ as_typed t 3 e

  pub untyped : (t : ℕ) → (t ≡ 1 → ⊥) → (t ≡ 2 → ⊥) → (t ≡ 3 → ⊥) → none ≡ body_members t s
  untyped t a b c = body_is t (ne_eqb t 1 a) (ne_eqb t 2 b) (ne_eqb t 3 c)

-- ---- behind the header of 30 octets
empty-body : (t : ℕ) (s : List ℕ) → length s ≡ 0 → none ≡ body_members t s
unfolding body_members
empty-body t s h = sym (pick_yes none _ (eq-eqb (length s) 0 h))

pub no_body : (t : ℕ) (s : List ℕ) → length s ≤ 30 → none ≡ body_members t (drop 30 s)
no_body t s h = empty-body t (drop 30 s) (omega (arith, length-drop 30 s, h))

pub the_body : (t : ℕ) (s : List ℕ) → body_members t (take (length s - 30) (drop 30 s)) ≡ body_members t (drop 30 s)
the_body t s = ap (body_members t) (rest 30 s)

-- ---- the header
module _ (s : List ℕ) where
  abbrev pub sequence_of : Items
  sequence_of = leaf k_sequence (number (be32 (get_or s 4 0) (get_or s 5 0) (get_or s 6 0) (get_or s 7 0))) none

  abbrev pub ack_of : Items
  ack_of = leaf k_ack (number (be32 (get_or s 8 0) (get_or s 9 0) (get_or s 10 0) (get_or s 11 0))) none

  pub no_numbers : length s < 12 → none ≡ number_members s
  no_numbers h = sym (pick_yes none (sequence_of ⊕ ack_of) (lt-ltb (length s) 12 h))

  pub with-numbers : 12 ≤ length s → sequence_of ⊕ ack_of ≡ number_members s
  with-numbers h = sym (pick_no none (sequence_of ⊕ ack_of) (le-ltb (length s) 12 h))

  abbrev pub offered_of : Items
  offered_of = leaf k_credit_offered (number (get_or s 12 0)) none

  abbrev pub avail_of : Items
  avail_of = leaf k_credit_avail (number (get_or s 13 0)) none

  pub no_credit : length s < 14 → none ≡ credit_members s
  no_credit h = sym (pick_yes none (offered_of ⊕ avail_of) (lt-ltb (length s) 14 h))

  pub with_credit : 14 ≤ length s → offered_of ⊕ avail_of ≡ credit_members s
  with_credit h = sym (pick_no none (offered_of ⊕ avail_of) (le-ltb (length s) 14 h))

  abbrev pub start_of : Items → Items
  start_of x = leaf k_protocol (text t_idrp) none ⊕ (leaf k_payload_len (number (length s)) none ⊕ x)

  pub no_head_lem : length s < 4 → start_of none ≡ members_of s
  unfolding members_of
  no_head_lem h = ap start_of (sym (pick_yes none (head_members s) (lt-ltb (length s) 4 h)))

  pub with-head : 4 ≤ length s → start_of (head_members s) ≡ members_of s
  unfolding members_of
  with-head h = ap start_of (sym (pick_no none (head_members s) (le-ltb (length s) 4 h)))
