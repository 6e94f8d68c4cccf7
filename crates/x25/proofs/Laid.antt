-- Packets that are laid out as X.25 draws them, calls apart, are read as what was laid out.
use Rattle.std.specs.Prelude.{Some, None}
use Prim.Native.Nat.{ℕ, ◌+◌, ◌*◌, ◌/◌, ◌%◌, ◌≤◌, ◌<◌}
use mathlib.Core.Bool.{false}
use mathlib.Core.List.{List, [], ◌∷◌}
use mathlib.Core.Path.{◌≡◌, refl, sym, ap, ◌∙◌}
use native.Mathlib.Nat.{div-div-eq-div-mul, add-mul-mod_self_left, add-mul-div_left, mod-eq_of_lt, div-eq_of_lt, zero-add}
use native.Mathlib.Omega.{arith}
use borrow.Author.Tests.{lt-ltb, le-ltb, ne_eqb}
use lib.Dec.{ltb, eqb}
use lib.ListN.{length, get_or, drop}
use Rattle.octets.specs.Text.{pick}
use Rattle.names.specs.Numbers.{t_data, t_clear_request, t_reset_request, t_restart_request, t_clear_confirmation, t_reset_confirmation, t_restart_confirmation, t_diagnostic, t_rr, t_rnr, t_rej}
use Rattle.codes.specs.Codes.{Row, text_in, clear_causes, reset_causes, restart_causes, diagnostics}
use Rattle.x25.specs.Packet.{plain, unreadable, lcn_of, received, request_of, by_type, packet_of}
use Rattle.x25.specs.Layout.{head, sequence, data_laid, numbered_laid, request_laid, confirmation_laid, diagnostic_laid}
use Rattle.x25.specs.declared.packet.Packet.{Packet}

-- the fields of a sequence part, at any modulus
module _ (m pr more ps : ℕ) (hm : more < 2) (hs : ps < m) where
  half : sequence m pr more ps / 2 ≡ ps + m * (more + 2 * pr)
  half = omega arith

  over : sequence m pr more ps / 2 / m ≡ more + 2 * pr
  over =
      let p : 0 < m = omega arith in
      ap (λ (x : ℕ). x / m) half ∙ add-mul-div_left ps (more + 2 * pr) p ∙ ap (λ (x : ℕ). x + (more + 2 * pr)) (div-eq_of_lt hs) ∙ zero-add (more + 2 * pr)

  pub ps-back : sequence m pr more ps / 2 % m ≡ ps
  ps-back = ap (λ (x : ℕ). x % m) half ∙ add-mul-mod_self_left ps m (more + 2 * pr) ∙ mod-eq_of_lt hs

  pub more-back : sequence m pr more ps / 2 / m % 2 ≡ more
  more-back = omega (arith, over)

  pub pr-back : sequence m pr more ps / 2 / m / 2 ≡ pr
  pr-back = omega (arith, over)

pub sequence_even : (m pr more ps : ℕ) → sequence m pr more ps % 2 ≡ 0
sequence_even m pr more ps = omega arith

-- the head
pub format_back : (qd g n : ℕ) (rest : List ℕ) → g < 16 → get_or (head qd 1 g n rest) 0 0 / 16 % 4 ≡ 1
format_back qd g n rest h = omega arith

pub lcn-back : (qd format g n : ℕ) (rest : List ℕ) → g < 16 → lcn_of (head qd format g n rest) ≡ g * 256 + n
lcn-back qd format g n rest h = omega arith

-- a packet goes by its third octet
pub by-type : (qd g n t : ℕ) (rest : List ℕ) → g < 16 → packet_of (head qd 1 g n (t ∷ rest)) ≡ by_type (head qd 1 g n (t ∷ rest)) t
unfolding packet_of
by-type qd g n t rest h =
    let s : List ℕ = head qd 1 g n (t ∷ rest) in
    simp (le-ltb (length s) 3 (omega arith), format_back qd g n (t ∷ rest) h)

module _ (qd g n : ℕ) (hg : g < 16) where
  -- ---- data
  pub data_read : (pr more ps : ℕ) (user : List ℕ) → more < 2 → ps < 8
      → packet_of (data_laid qd g n pr more ps user) ≡ record {
        kind = t_data;
        lcn = g * 256 + n;
        ps = Some ps;
        pr = Some pr;
        more = more;
        cause = None;
        causetext = 0;
        diagnostic = None;
        diagtext = 0;
        facat = 0;
        faclen = 0;
        sndcf = None;
        version = 0;
        payload = 3;
      }
  unfolding by_type
  data_read pr more ps user hm hs =
      let t : ℕ = sequence 8 pr more ps in
      let e1 : t % 2 ≡ 0 = sequence_even 8 pr more ps in
      let e2 : t / 2 % 8 ≡ ps = ps-back 8 pr more ps hm hs in
      let e3 : t / 16 % 2 ≡ more = ap (λ (x : ℕ). x % 2) (sym (div-div-eq-div-mul t 2 8)) ∙ more-back 8 pr more ps hm hs in
      let e4 : t / 32 ≡ pr = omega (arith, pr-back 8 pr more ps hm hs) in
      by-type qd g n t user hg ∙ simp (e1, e2, e3, e4, lcn-back qd 1 g n (t ∷ user) hg)

  pub data_user : (pr more ps : ℕ) (user : List ℕ) → drop 3 (data_laid qd g n pr more ps user) ≡ user
  data_user pr more ps user = refl

-- ---- RR, RNR and REJ
pub data Numbered : ℕ → ℕ → Type 0 where
  rr : Numbered 1 t_rr
  rnr : Numbered 5 t_rnr
  rej : Numbered 9 t_rej

-- a type octet goes by its five bits, where they are odd and below 10
by_code : (s : List ℕ) (t code : ℕ) → t % 32 ≡ code → code % 2 ≡ 1 → code < 10
    → by_type s t ≡ pick (eqb code 1) (received t_rr s t) (pick (eqb code 5) (received t_rnr s t) (pick (eqb code 9) (received t_rej s t) (unreadable (length s))))
unfolding by_type
by_code s t code e o h =
    let not : (k : ℕ) → 10 ≤ k % 32 → eqb t k ≡ false = λ k l. ne_eqb t k (λ q. omega (arith, ap (λ (x : ℕ). x % 32) q)) in
    simp (
      ne_eqb (t % 2) 0 (λ q. omega arith),
      not 0x0B (omega arith),
      not 0x0F (omega arith),
      not 0x13 (omega arith),
      not 0x1B (omega arith),
      not 0xFB (omega arith),
      not 0x17 (omega arith),
      not 0x1F (omega arith),
      not 0xFF (omega arith),
      not 0xF1 (omega arith),
      e,
    )

numbered-type : {code kind : ℕ} → Numbered code kind → (s : List ℕ) (t : ℕ) → t % 32 ≡ code → by_type s t ≡ received kind s t
numbered-type rr s t e = by_code s t 1 e refl (omega arith)
numbered-type rnr s t e = by_code s t 5 e refl (omega arith)
numbered-type rej s t e = by_code s t 9 e refl (omega arith)

numbered-small : {code kind : ℕ} → Numbered code kind → code < 10
numbered-small rr = omega arith
numbered-small rnr = omega arith
numbered-small rej = omega arith

pub numbered-read : {code kind : ℕ} → Numbered code kind → (qd g n pr : ℕ) → g < 16
    → packet_of (numbered_laid qd g n pr code) ≡ record {
      kind = kind;
      lcn = g * 256 + n;
      ps = None;
      pr = Some pr;
      more = 0;
      cause = None;
      causetext = 0;
      diagnostic = None;
      diagtext = 0;
      facat = 0;
      faclen = 0;
      sndcf = None;
      version = 0;
      payload = 3;
    }
numbered-read {code} {kind} k qd g n pr h =
    let c : code < 10 = numbered-small k in
    let t : ℕ = pr * 32 + code in
    let e : t / 32 ≡ pr = omega arith in
    by-type qd g n t [] h ∙ numbered-type k (head qd 1 g n (t ∷ [])) t (omega arith) ∙ simp (e, lcn-back qd 1 g n (t ∷ []) h)

-- ---- clear, reset and restart requests
pub data Request : ℕ → ℕ → List Row → Type 0 where
  clear : Request 0x13 t_clear_request clear_causes
  reset : Request 0x1B t_reset_request reset_causes
  restart : Request 0xFB t_restart_request restart_causes

request-type : {t kind : ℕ} {rows : List Row} → Request t kind rows → (s : List ℕ) → by_type s t ≡ request_of kind rows s
unfolding by_type
request-type clear s = refl
request-type reset s = refl
request-type restart s = refl

-- what a request says: of n octets, on a channel, a cause and a diagnostic
abbrev pub asked : ℕ → List Row → ℕ → ℕ → ℕ → ℕ → Packet
asked kind rows lcn cause diagnostic n = record {
  kind = kind;
  lcn = lcn;
  ps = None;
  pr = None;
  more = 0;
  cause = Some cause;
  causetext = text_in rows [] cause;
  diagnostic = Some diagnostic;
  diagtext = text_in diagnostics [] diagnostic;
  facat = 0;
  faclen = 0;
  sndcf = None;
  version = 0;
  payload = n;
}

module _ {t kind : ℕ} {rows : List Row} (k : Request t kind rows) (qd g n : ℕ) (hg : g < 16) where
  request-is : (cause diagnostic : ℕ) (more : List ℕ)
      → packet_of (request_laid t qd g n cause diagnostic more) ≡ asked kind rows (g * 256 + n) (pick (ltb cause 128) cause 0) diagnostic (length (request_laid t qd g n cause diagnostic more))
  request-is cause diagnostic more =
      let s : List ℕ = request_laid t qd g n cause diagnostic more in
      by-type qd g n t (cause ∷ diagnostic ∷ more) hg
      ∙ request-type k s
      ∙ simp (lt-ltb 3 (length s) (omega arith), lt-ltb 4 (length s) (omega arith), lcn-back qd 1 g n (t ∷ cause ∷ diagnostic ∷ more) hg)

  pub request-read : (cause diagnostic : ℕ) (more : List ℕ) → cause < 128
      → packet_of (request_laid t qd g n cause diagnostic more) ≡ asked kind rows (g * 256 + n) cause diagnostic (length (request_laid t qd g n cause diagnostic more))
  request-read cause diagnostic more h = request-is cause diagnostic more ∙ simp (lt-ltb cause 128 h)

  -- a cause of the remote side's own is read as 0
  pub request_remote : (cause diagnostic : ℕ) (more : List ℕ) → 128 ≤ cause
      → packet_of (request_laid t qd g n cause diagnostic more) ≡ asked kind rows (g * 256 + n) 0 diagnostic (length (request_laid t qd g n cause diagnostic more))
  request_remote cause diagnostic more h = request-is cause diagnostic more ∙ simp (le-ltb cause 128 h)

-- ---- confirmations, and diagnostics
pub data Confirmation : ℕ → ℕ → Type 0 where
  clear : Confirmation 0x17 t_clear_confirmation
  reset : Confirmation 0x1F t_reset_confirmation
  restart : Confirmation 0xFF t_restart_confirmation

confirmation_type : {t kind : ℕ} → Confirmation t kind → (s : List ℕ) → by_type s t ≡ plain kind (lcn_of s) (length s)
unfolding by_type
confirmation_type clear s = refl
confirmation_type reset s = refl
confirmation_type restart s = refl

pub confirmation_read : {t kind : ℕ} → Confirmation t kind → (qd g n : ℕ) (more : List ℕ) → g < 16
    → packet_of (confirmation_laid t qd g n more) ≡ plain kind (g * 256 + n) (length (confirmation_laid t qd g n more))
confirmation_read {t} k qd g n more h =
    by-type qd g n t more h ∙ confirmation_type k (confirmation_laid t qd g n more) ∙ simp (lcn-back qd 1 g n (t ∷ more) h)

pub diagnostic-read : (qd g n code : ℕ) (explanation : List ℕ) → g < 16
    → packet_of (diagnostic_laid qd g n code explanation) ≡ record {
      kind = t_diagnostic;
      lcn = g * 256 + n;
      ps = None;
      pr = None;
      more = 0;
      cause = None;
      causetext = 0;
      diagnostic = Some code;
      diagtext = text_in diagnostics [] code;
      facat = 0;
      faclen = 0;
      sndcf = None;
      version = 0;
      payload = length (diagnostic_laid qd g n code explanation);
    }
unfolding by_type
diagnostic-read qd g n code explanation h =
    let s : List ℕ = diagnostic_laid qd g n code explanation in
    by-type qd g n 0xF1 (code ∷ explanation) h ∙ simp (lt-ltb 3 (length s) (omega arith), lcn-back qd 1 g n (0xF1 ∷ code ∷ explanation) h)
