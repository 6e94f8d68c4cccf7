-- Headers, OPENs and ERRORs that are laid out as ISO/IEC 10747 draws them are read as what was laid out.
use Prim.Native.Nat.{ℕ, ◌+◌, ◌<◌}
use mathlib.Core.Bool.{Bool, true, false}
use mathlib.Core.List.{List, [], ◌∷◌, ◌++◌}
use mathlib.Core.Path.{◌≡◌, refl, ap, ◌∙◌}
use native.Mathlib.Omega.{arith}
use borrow.Author.Tests.{le-ltb, le-leb, ne_eqb}
use lib.Dec.{eqb, ltb, leb}
use lib.ListN.{length, get_or, take, drop, length-append}
use lib.Seq.{take_at, drop_at}
use Rattle.octets.specs.Text.{pick}
use Rattle.octets.specs.Read.{be16, be32, octets_of}
use Rattle.octets.proofs.Stands.{two_back, four-back}
use Rattle.octets.proofs.Picks.{pick_no}
use Rattle.names.specs.Ascii.{octets}
use Rattle.names.specs.Numbers.{k_protocol, k_payload_len, k_bispdu_len, k_type, k_sequence, k_ack, k_credit_offered, k_credit_avail, k_open, k_version, k_hold_time_s, k_max_pdu_size, k_src_rdi, k_error_code, k_error, k_error_subcode, k_error_subcode_text, t_idrp}
use Rattle.codes.specs.Codes.{text_in, idrp_types, idrp_errors, error_subcodes}
use Rattle.cells.specs.Items.{Items, none, leaf, group, number, text, part, ◌⊕◌}
use Rattle.fields.specs.Member.{opt_text}
use Rattle.idrp.specs.Pdu.{open_members, body_members, members_of}
use Rattle.idrp.specs.Layout.{Fields, laid, Right, record_read, Open, open_laid, open_read, error_laid}

-- ---- the header
abbrev before : Fields → ℕ → List ℕ
before f n = f.id ∷ (octets_of 2 n ++ (f.type ∷ (octets_of 4 f.sequence ++ (octets_of 4 f.ack ++ (f.offered ∷ f.available ∷ f.validation)))))

module _ (f : Fields) (body : List ℕ) (r : Right f body) where
  header-long : length (before f (30 + length body)) ≡ 30
  header-long = omega (arith, r.validation)

  pub body-stands : drop 30 (laid f body) ≡ body
  body-stands = drop_at (before f (30 + length body)) body 30 header-long

  pub long-back : length (laid f body) ≡ 30 + length body
  long-back = length-append (before f (30 + length body)) body ∙ ap (λ (n : ℕ). n + length body) header-long

  -- the record, by the tests and the numbers in it
  abbrev told : ℕ → ℕ → ℕ → ℕ → Bool → Bool → Bool → Items → Items
  told n m x y a b c rest =
      leaf k_protocol (text t_idrp) none ⊕ (leaf k_payload_len (number n) none ⊕ pick a none (leaf k_bispdu_len (number m) none
      ⊕ (leaf k_type (text (text_in idrp_types (octets "?") f.type)) none
      ⊕ (pick b none (leaf k_sequence (number x) none ⊕ leaf k_ack (number y) none)
      ⊕ (pick c none (leaf k_credit_offered (number f.offered) none ⊕ leaf k_credit_avail (number f.available) none) ⊕ rest)))))

  pub head-back : members_of (laid f body) ≡ record_read f (30 + length body) (body_members f.type body)
  unfolding members_of
  head-back =
      let s : List ℕ = laid f body in
      let n : length s ≡ 30 + length body = long-back in
      let m : be16 (get_or s 1 0) (get_or s 2 0) ≡ 30 + length body = two_back (30 + length body) [] r.whole in
      let x : be32 (get_or s 4 0) (get_or s 5 0) (get_or s 6 0) (get_or s 7 0) ≡ f.sequence = four-back f.sequence [] r.numbers.0 in
      let y : be32 (get_or s 8 0) (get_or s 9 0) (get_or s 10 0) (get_or s 11 0) ≡ f.ack = four-back f.ack [] r.numbers.1 in
      let a : ltb (length s) 4 ≡ false = le-ltb (length s) 4 (omega (arith, n)) in
      let b : ltb (length s) 12 ≡ false = le-ltb (length s) 12 (omega (arith, n)) in
      let c : ltb (length s) 14 ≡ false = le-ltb (length s) 14 (omega (arith, n)) in
      λ i. told (n i) (m i) (x i) (y i) (a i) (b i) (c i) (body_members f.type (body-stands i))

-- ---- an OPEN
module _ (o : Open) where
  open_long : length (open_laid o) ≡ 6 + (length o.rdi + length o.rest)
  open_long = omega (arith, length-append o.rdi o.rest)

  pub open_rdi : take (length o.rdi) (drop 6 (open_laid o)) ≡ o.rdi
  open_rdi = take_at o.rdi o.rest (length o.rdi) refl

  pub open_members_lem : (base : ℕ) → o.hold < 65536 → o.largest < 65536 → open_members base (open_laid o) ≡ open_read base o
  open_members_lem base h l =
      let s : List ℕ = open_laid o in
      let x : be16 (get_or s 1 0) (get_or s 2 0) ≡ o.hold = two_back o.hold [] h in
      let y : be16 (get_or s 3 0) (get_or s 4 0) ≡ o.largest = two_back o.largest [] l in
      let t : leb (6 + length o.rdi) (length s) ≡ true = le-leb (6 + length o.rdi) (length s) (omega (arith, open_long)) in
      λ i. leaf k_version (number o.version) none ⊕ (leaf k_hold_time_s (number (x i)) none
      ⊕ (leaf k_max_pdu_size (number (y i)) none ⊕ pick (t i) (leaf k_src_rdi (part (base + 6) (length o.rdi)) none) none))

  pub open_back : o.hold < 65536 → o.largest < 65536 → body_members 1 (open_laid o) ≡ group true k_open (open_read 30 o) none
  unfolding body_members
  open_back h l =
      let s : List ℕ = open_laid o in
      let n : length s ≡ 6 + (length o.rdi + length o.rest) = open_long in
      pick_no none (pick (ltb (length s) 6) none (group true k_open (open_members 30 s) none)) (ne_eqb (length s) 0 (λ e. omega (arith, n, e)))
      ∙ pick_no none (group true k_open (open_members 30 s) none) (le-ltb (length s) 6 (omega (arith, n)))
      ∙ ap (λ (x : Items). group true k_open x none) (open_members_lem 30 h l)

-- ---- an ERROR
pub error_back : (code subcode : ℕ) (more : List ℕ) → body_members 3 (error_laid code subcode more)
    ≡ leaf k_error_code (number code) none ⊕ (leaf k_error (text (text_in idrp_errors (octets "?") code)) none
    ⊕ (leaf k_error_subcode (number subcode) none ⊕ opt_text k_error_subcode_text (text_in (error_subcodes code) [] subcode)))
unfolding body_members
error_back code subcode more =
    let s : List ℕ = error_laid code subcode more in
    let a : eqb (length s) 0 ≡ false = ne_eqb (length s) 0 (λ e. omega (arith, e)) in
    let b : ltb (length s) 2 ≡ false = le-ltb (length s) 2 (omega arith) in
    λ i. pick (a i) none (leaf k_error_code (number code) none ⊕ (leaf k_error (text (text_in idrp_errors (octets "?") code)) none
    ⊕ pick (b i) none (leaf k_error_subcode (number subcode) none ⊕ opt_text k_error_subcode_text (text_in (error_subcodes code) [] subcode))))

either-none : (b : Bool) → pick b none none ≡ none
either-none true = refl
either-none false = refl

-- ---- the other types have no body that is read
pub other-back : (t : ℕ) (body : List ℕ) → 3 < t → body_members t body ≡ none
unfolding body_members
other-back t body h = simp (ne_eqb t 1 (λ e. omega (arith, h, e)), ne_eqb t 2 (λ e. omega (arith, h, e)), ne_eqb t 3 (λ e. omega (arith, h, e))) (either-none (eqb (length body) 0))
