-- TPDUs that are laid out as X.224 draws them, those with numbers apart, and parameters, are read as what was laid out.
use Prim.Native.Nat.{ℕ, ◌+◌, ◌*◌, ◌-◌, ◌/◌, ◌%◌, ◌≤◌, ◌<◌}
use mathlib.Core.Bool.{Bool, false, ◌&&◌}
use mathlib.Core.List.{List, [], ◌∷◌, ◌++◌, append_assoc}
use mathlib.Core.Path.{◌≡◌, refl, sym, ap, ◌∙◌}
use native.Mathlib.Omega.{arith}
use borrow.Author.Tests.{le-ltb, le-leb, ne_eqb}
use lib.Dec.{eqb}
use lib.ListN.{length, get_or, drop, length-append}
use lib.Seq.{get_or_at, get_or-append-add, take_at, drop_at}
use Rattle.octets.specs.Read.{be16}
use Rattle.octets.proofs.Stands.{two_back}
use Rattle.names.specs.Numbers.{k_tpdu, k_dst_ref, k_class, k_options, k_reason, k_reason_text, k_reject_cause, k_reject_cause_text, k_extended, k_params, k_src_ref}
use Rattle.codes.specs.Codes.{text_in, disconnect_reasons, reject_causes}
use Rattle.cells.specs.Items.{Items, none, leaf, number, text, in_list, ◌⊕◌}
use Rattle.std.specs.Prelude.{Option, Some}
use Rattle.std.specs.Option.{option_map}
use Rattle.cells.specs.Walk.{body, walk_from}
use Rattle.cells.proofs.Walks.{turn, over}
use Rattle.fields.specs.Tlv.{tlv_at}
use Rattle.fields.specs.Member.{opt_text, opt_yes}
use Rattle.cotp.specs.Params.{param, param_step, param_items, param_left}
use Rattle.cotp.specs.Tpdu.{kind_of, name_of, numbered, fixed_len, head_of, fixed_members, param_part, user_members, members_of}
use Rattle.cotp.specs.Layout.{laid, two, connect_laid, request_laid, confirm_laid, error_laid, Parameter, params_laid, params_read}
use Rattle.cotp.specs.declared.tpdu.Head.{Head}
use Rattle.cotp.specs.declared.tpdu.Kind.{Kind}
use Rattle.cotp.specs.declared.tpdu.Kind.TheVariants.{Cr, Cc, Dr, Dc, Er}

-- ---- a header and user data
pub li_back : (header user : List ℕ) → get_or (laid header user) 0 0 ≡ length header
li_back header user = refl

pub user_back : (header user : List ℕ) → drop (get_or (laid header user) 0 0 + 1) (laid header user) ≡ user
user_back header user = drop_at (length header ∷ header) user (length header + 1) (omega arith)

-- parameters behind a fixed part
pub part-back : (front params user : List ℕ) (h : Head) → h.li ≡ length (front ++ params) → h.fixed ≡ length front + 1
    → param_part (laid (front ++ params) user) h ≡ params
part-back front params user h l f =
    let s : List ℕ = laid (front ++ params) user in
    let k : length (front ++ params) ≡ length front + length params = length-append front params in
    let n : length s ≡ h.li + 1 + length user = omega (arith, length-append (front ++ params) user) in
    let w : s ≡ (length (front ++ params) ∷ front) ++ (params ++ user) = ap (λ (z : List ℕ). length (front ++ params) ∷ z) (append_assoc front params user) in
    let d : drop h.fixed s ≡ params ++ user = ap (drop h.fixed) w ∙ drop_at (length (front ++ params) ∷ front) (params ++ user) h.fixed (omega arith) in
    simp (le-leb (h.li + 1) (length s) (omega arith), d) (take_at params user (h.li + 1 - h.fixed) (omega arith))

-- ---- heads
pub head-is : (s : List ℕ) (li : ℕ) (kind : Kind) (extended : Bool) → get_or s 0 0 ≡ li → 0 < li → li < 255 → 4 ≤ length s
    → kind_of (get_or s 1 0 / 16) ≡ Some kind → (numbered kind && eqb (li % 2) 1) ≡ extended → fixed_len kind extended ≤ length s
    → head_of s ≡ Some (record { li = li; kind = kind; extended = extended; fixed = fixed_len kind extended })
unfolding head_of
head-is s li kind extended e p l n t x f =
    simp (le-ltb (length s) 4 n, e, ne_eqb li 0 (λ q. omega arith), ne_eqb li 255 (λ q. omega arith), t, x, le-ltb (length s) (fixed_len kind extended) f)

-- what is read of a TPDU: its head, destination reference, the members of its fixed part, its parameters and what stands behind its header
pub record Read (s : List ℕ) (h : Head) (dst : ℕ) (fields : Items) (params user : List ℕ) : Type 0 where
  pub head : head_of s ≡ Some h
  pub ref : be16 (get_or s 2 0) (get_or s 3 0) ≡ dst
  pub fixed : fixed_members s h.kind h.extended ≡ fields
  pub part : param_part s h ≡ params
  pub behind : drop (h.li + 1) s ≡ user

-- the members, by what is read
abbrev pub told : ℕ → Head → ℕ → Items → List ℕ → Items → Items
told base h dst fields params user =
    leaf k_tpdu (text (name_of h.kind)) none ⊕ (leaf k_dst_ref (number dst) none
    ⊕ (fields ⊕ (opt_yes k_extended h.extended ⊕ (in_list k_params (param_items (base + h.fixed) params) ⊕ user))))

pub members_told : {s : List ℕ} {h : Head} {dst : ℕ} {fields : Items} {params user : List ℕ} → Read s h dst fields params user → (base : ℕ)
    → option_map (members_of base s) (head_of s) ≡ Some (told base h dst fields params (user_members s h))
unfolding members_of
members_told {s} {h} r base =
    ap (option_map (members_of base s)) r.head ∙ (λ i. Some (told base h (r.ref i) (r.fixed i) (r.part i) (user_members s h)))

-- a fixed part, parameters and user data, by their head
pub read_by : (front params user : List ℕ) (h : Head) (dst : ℕ) (fields : Items) → h.li ≡ length front + length params → h.fixed ≡ length front + 1
    → head_of (laid (front ++ params) user) ≡ Some h → be16 (get_or (laid (front ++ params) user) 2 0) (get_or (laid (front ++ params) user) 3 0) ≡ dst
    → fixed_members (laid (front ++ params) user) h.kind h.extended ≡ fields → Read (laid (front ++ params) user) h dst fields params user
read_by front params user h dst fields l f e r m =
    let k : h.li ≡ length (front ++ params) = l ∙ sym (length-append front params) in
    record {
      head = e;
      ref = r;
      fixed = m;
      part = part-back front params user h k f;
      behind = ap (λ (z : ℕ). drop (z + 1) (laid (front ++ params) user)) k ∙ user_back (front ++ params) user;
    }

-- ---- the types without numbers: the high half of the code octet, the name, and the octets of the fixed part with LI
pub data Plain : ℕ → Kind → ℕ → Type 0 where
  cr : Plain 0xE Cr 7
  cc : Plain 0xD Cc 7
  dr : Plain 0x8 Dr 7
  dc : Plain 0xC Dc 6
  er : Plain 0x7 Er 5

abbrev pub plain_head : ℕ → Kind → ℕ → Head
plain_head li kind fixed = record { li = li; kind = kind; extended = false; fixed = fixed }

plain-head : {code : ℕ} {kind : Kind} {fixed : ℕ} → Plain code kind fixed → (s : List ℕ) (li : ℕ) → get_or s 0 0 ≡ li → 0 < li → li < 255 → get_or s 1 0 / 16 ≡ code
    → fixed ≤ length s → head_of s ≡ Some (plain_head li kind fixed)
unfolding kind_of
plain-head cr s li e p l c n = head-is s li Cr false e p l (omega arith) (ap kind_of c) refl n
plain-head cc s li e p l c n = head-is s li Cc false e p l (omega arith) (ap kind_of c) refl n
plain-head dr s li e p l c n = head-is s li Dr false e p l (omega arith) (ap kind_of c) refl n
plain-head dc s li e p l c n = head-is s li Dc false e p l (omega arith) (ap kind_of c) refl n
plain-head er s li e p l c n = head-is s li Er false e p l (omega arith) (ap kind_of c) refl n

plain-some : {code : ℕ} {kind : Kind} {fixed : ℕ} → Plain code kind fixed → 5 ≤ fixed
plain-some cr = omega arith
plain-some cc = omega arith
plain-some dr = omega arith
plain-some dc = omega arith
plain-some er = omega arith

plain-read : {code : ℕ} {kind : Kind} {fixed : ℕ} → Plain code kind fixed → (front params user : List ℕ) (li dst : ℕ) (fields : Items) → length front + 1 ≡ fixed
    → li ≡ length front + length params → li < 255 → get_or (laid (front ++ params) user) 1 0 / 16 ≡ code
    → be16 (get_or (laid (front ++ params) user) 2 0) (get_or (laid (front ++ params) user) 3 0) ≡ dst
    → fixed_members (laid (front ++ params) user) kind false ≡ fields → Read (laid (front ++ params) user) (plain_head li kind fixed) dst fields params user
plain-read {code} {kind} {fixed} p front params user li dst fields f l h c r m =
    let s : List ℕ = laid (front ++ params) user in
    let b : 5 ≤ fixed = plain-some p in
    let k : length (front ++ params) ≡ length front + length params = length-append front params in
    let n : length s ≡ li + 1 + length user = omega (arith, length-append (front ++ params) user) in
    read_by front params user (plain_head li kind fixed) dst fields l (sym f) (plain-head p s li (k ∙ sym l) (omega arith) h c (omega arith)) r m

-- ---- connection request and confirm: the credit is not read
pub data Connect : ℕ → Kind → Type 0 where
  request : Connect 0xE Cr
  confirm : Connect 0xD Cc

connect_plain : {code : ℕ} {kind : Kind} → Connect code kind → Plain code kind 7
connect_plain request = cr
connect_plain confirm = cc

abbrev pub source : ℕ → Items
source src = leaf k_src_ref (number src) none

abbrev pub classed : ℕ → ℕ → ℕ → Items
classed src class options = source src ⊕ (leaf k_class (number class) none ⊕ leaf k_options (number options) none)

connect_fixed : {code : ℕ} {kind : Kind} → Connect code kind → (s : List ℕ) → fixed_members s kind false ≡ classed (be16 (get_or s 4 0) (get_or s 5 0)) (get_or s 6 0 / 16) (get_or s 6 0 % 16)
connect_fixed request s = refl
connect_fixed confirm s = refl

connect_user : {code : ℕ} {kind : Kind} → Connect code kind → (s : List ℕ) (li : ℕ) → user_members s (plain_head li kind 7) ≡ none
connect_user request s li = refl
connect_user confirm s li = refl

module _ {code : ℕ} {kind : Kind} (k : Connect code kind) (dst src class options : ℕ) (params user : List ℕ) (hd : dst < 65536) (hs : src < 65536) (ho : options < 16)
    (hp : length params < 249) where
  abbrev with : ℕ → List ℕ
  with credit = connect_laid code credit dst src class options params user

  pub connect_read : (credit : ℕ) → credit < 16
      → Read (with credit) (plain_head (6 + length params) kind 7) dst (classed src class options) params user
  connect_read credit hc =
      let o : ℕ = class * 16 + options in
      let c : o / 16 ≡ class = omega arith in
      let d : o % 16 ≡ options = omega arith in
      plain-read (connect_plain k) ((code * 16 + credit) ∷ (two dst ++ (two src ++ (o ∷ [])))) params user (6 + length params) dst (classed src class options)
      refl (omega arith) (omega arith) (omega arith) (two_back dst [] hd) (connect_fixed k (with credit) ∙ (λ i. classed (two_back src [] hs i) (c i) (d i)))

  abbrev said_of : ℕ → ℕ → Option Items
  said_of base credit = option_map (members_of base (with credit)) (head_of (with credit))

  connect_told : (base credit : ℕ) → credit < 16 → said_of base credit ≡ Some (told base (plain_head (6 + length params) kind 7) dst (classed src class options) params none)
  connect_told base credit h =
      let x : Head = plain_head (6 + length params) kind 7 in
      members_told (connect_read credit h) base ∙ ap (λ (u : Items). Some (told base x dst (classed src class options) params u)) (connect_user k (with credit) (6 + length params))

  pub connect_credit : (base credit other : ℕ) → credit < 16 → other < 16
      → option_map (members_of base (with credit)) (head_of (with credit)) ≡ option_map (members_of base (with other)) (head_of (with other))
  connect_credit base credit other h l = connect_told base credit h ∙ sym (connect_told base other l)

-- ---- disconnect request and confirm, and error
abbrev pub reasoned : ℕ → ℕ → Items
reasoned src reason = source src ⊕ (leaf k_reason (number reason) none ⊕ opt_text k_reason_text (text_in disconnect_reasons [] reason))

abbrev pub caused : ℕ → Items
caused cause = leaf k_reject_cause (number cause) none ⊕ opt_text k_reject_cause_text (text_in reject_causes [] cause)

module _ (dst : ℕ) (params : List ℕ) (hd : dst < 65536) where
  pub request-read : (src reason : ℕ) (user : List ℕ) → src < 65536 → length params < 249
      → Read (request_laid dst src reason params user) (plain_head (6 + length params) Dr 7) dst (reasoned src reason) params user
  request-read src reason user hs hp =
      plain-read dr (0x80 ∷ (two dst ++ (two src ++ (reason ∷ [])))) params user (6 + length params) dst (reasoned src reason)
      refl (omega arith) (omega arith) refl (two_back dst [] hd) (ap (λ (n : ℕ). reasoned n reason) (two_back src [] hs))

  pub confirm-read : (src : ℕ) → src < 65536 → length params < 250
      → Read (confirm_laid dst src params) (plain_head (5 + length params) Dc 6) dst (source src) params []
  confirm-read src hs hp =
      plain-read dc (0xC0 ∷ (two dst ++ two src)) params [] (5 + length params) dst (source src)
      refl (omega arith) (omega arith) refl (two_back dst [] hd) (ap source (two_back src [] hs))

  pub error_read : (cause : ℕ) → length params < 251 → Read (error_laid dst cause params) (plain_head (4 + length params) Er 5) dst (caused cause) params []
  error_read cause hp =
      plain-read er (0x70 ∷ (two dst ++ (cause ∷ []))) params [] (4 + length params) dst (caused cause)
      refl (omega arith) (omega arith) refl (two_back dst [] hd) refl

-- ---- parameters
abbrev one : Parameter → List ℕ
one p = p.code ∷ length p.value ∷ p.value

-- a parameter is found where it is laid out
param-at : (p : Parameter) (pre rest : List ℕ) (i : ℕ) → length pre ≡ i → tlv_at (pre ++ (one p ++ rest)) i ≡ body (i + 2) (length p.value)
unfolding tlv_at
param-at p pre rest i q =
    let s : List ℕ = pre ++ (one p ++ rest) in
    let d : get_or s (i + 1) 0 ≡ length p.value = rw (← q) (get_or-append-add pre (one p ++ rest) 1 0) in
    let n : length s ≡ i + 2 + (length p.value + length rest) = simp (length-append, q) (omega arith) in
    simp (d, le-leb (i + 2) (length s) (omega arith), le-leb (i + 2 + length p.value) (length s) (omega arith))

module _ (base : ℕ) (s : List ℕ) where
  abbrev found : ℕ → Parameter → Items
  found i p = param base s p.code (i + 2) (length p.value)

  -- a walk goes over it
  param-turn : {R : Type 0} (ends : ℕ → R) (more : Items → R → R) (p : Parameter) (pre rest : List ℕ) (i : ℕ) → s ≡ pre ++ (one p ++ rest) → length pre ≡ i
      → walk_from (param_step base s) ends more (length s) i ≡ more (found i p) (walk_from (param_step base s) ends more (length s) (i + 2 + length p.value))
  param-turn ends more p pre rest i e q =
      let n : length s ≡ i + 2 + (length p.value + length rest) = ap length e ∙ simp (length-append, q) (omega arith) in
      let c : tlv_at s i ≡ body (i + 2) (length p.value) = rw e (param-at p pre rest i q) in
      let d : get_or s i 0 ≡ p.code = rw e (get_or_at pre p.code (length p.value ∷ (p.value ++ rest)) 0 i q) in
      turn (param_step base s) ends more (length s) i (i + 2 + length p.value) (found i p) (omega arith) (omega arith) (simp (c, d))

  -- a walk from where parameters are laid out on to the end of the part, by what it makes of them
  module _ {R : Type 0} (ends : ℕ → R) (more : Items → R → R) (P : ℕ → List Parameter → R) (he : (i : ℕ) → ends 0 ≡ P i [])
      (hm : (i : ℕ) (p : Parameter) (ps : List Parameter) → more (found i p) (P (i + 2 + length p.value) ps) ≡ P i (p ∷ ps)) where
    pub walk-laid : (ps : List Parameter) (pre : List ℕ) (i : ℕ) → s ≡ pre ++ params_laid ps → length pre ≡ i → walk_from (param_step base s) ends more (length s) i ≡ P i ps
    unfolding params_laid
    walk-laid [] pre i e q = over (param_step base s) ends more (length s) i (omega (arith, simp length-append at (ap length e))) ∙ he i
    walk-laid (p ∷ ps) pre i e q =
        let rest = params_laid ps in
        param-turn ends more p pre rest i e q
        ∙ ap (more (found i p)) (walk-laid ps (pre ++ one p) (i + 2 + length p.value) (e ∙ sym (append_assoc pre (one p) rest)) (simp (length-append, q) (omega arith)))
        ∙ hm i p ps

-- a walk over parameters that are laid out finds each of them, and its place, and leaves nothing unread
pub params-walk : (base : ℕ) (ps : List Parameter) → param_items base (params_laid ps) ≡ params_read base (params_laid ps) 0 ps
unfolding params_read
params-walk base ps =
    let s : List ℕ = params_laid ps in
    walk-laid base s (λ n. none) ◌⊕◌ (λ i ps. params_read base s i ps) (λ i. refl) (λ i p ps. refl) ps [] 0 refl refl

pub params-left : (ps : List Parameter) → param_left (params_laid ps) ≡ 0
params-left ps = walk-laid 0 (params_laid ps) (λ n. n) (λ c r. r) (λ i ps. 0) (λ i. refl) (λ i p ps. refl) ps [] 0 refl refl
