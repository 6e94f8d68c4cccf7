-- What a packet's parts make of it: requests by their cause, calls by their field.
use Rattle.std.specs.Prelude.{Option, Some, None}
use Prim.Native.Nat.{ℕ, ◌+◌}
use mathlib.Core.Path.{◌≡◌, sym, ap, ◌∙◌}
use mathlib.Core.List.{List}
use mathlib.Core.Bool.{Bool, true}
use lib.ListN.{length}
use Rattle.octets.specs.Text.{pick}
use Rattle.names.specs.Numbers.{t_call_request, t_call_accepted}
use Rattle.codes.specs.Codes.{Row, diagnostics}
use Rattle.x25.specs.Sndcf.{field_at}
use Rattle.x25.specs.Packet.{octet_at, plain, lcn_of, cause_in, text_of, request_of, fac_end, call_with, has_facilities, with_field, call_request, call_accepted}
use Rattle.x25.specs.declared.sndcf.Field.{Field}
use Rattle.x25.specs.declared.packet.Packet.{Packet}

-- a request with this cause and the number of its text
abbrev pub with_cause : ℕ → List ℕ → Option ℕ → ℕ → Packet
with_cause kind s cause causetext = record {
  kind = kind;
  lcn = lcn_of s;
  ps = None;
  pr = None;
  more = 0;
  cause = cause;
  causetext = causetext;
  diagnostic = octet_at s 4;
  diagtext = text_of diagnostics (octet_at s 4);
  facat = 0;
  faclen = 0;
  sndcf = None;
  version = 0;
  payload = length s;
}

pub is-request : {r : Packet} (kind : ℕ) (rows : List Row) (s : List ℕ) (cause : Option ℕ) (causetext : ℕ) → cause ≡ cause_in (octet_at s 3) → causetext ≡ text_of rows cause → r ≡ with_cause kind s cause causetext → r ≡ request_of kind rows s
is-request kind rows s cause causetext e f h =
    h ∙ ap (with_cause kind s cause) f ∙ ap (λ (o : Option ℕ). with_cause kind s o (text_of rows o)) e

module _ (s : List ℕ) (has : has_facilities s ≡ true) (p : ℕ) (e : p ≡ fac_end s) where
  called : (f : Option Field) → field_at s p ≡ f → call_request s ≡ with_field s f
  called f h =
      ap (λ (b : Bool). pick b (with_field s (field_at s (fac_end s))) (plain t_call_request (lcn_of s) (length s))) has
      ∙ ap (with_field s) (ap (field_at s) (sym e) ∙ h)

  pub is-request-call : {r : Packet} → field_at s p ≡ None → r ≡ call_with t_call_request s None 0 p → r ≡ call_request s
  is-request-call h q = q ∙ ap (call_with t_call_request s None 0) e ∙ sym (called None h)

  pub is_negotiated : {r : Packet} (f : Field) → field_at s p ≡ Some f → r ≡ call_with t_call_request s (Some f.octet) 1 f.end → r ≡ call_request s
  is_negotiated f h q = q ∙ sym (called (Some f) h)

  pub is-accepted : {r : Packet} (o : Option ℕ) → o ≡ octet_at s p → r ≡ call_with t_call_accepted s o 0 (p + 1) → r ≡ call_accepted s
  is-accepted o h q =
      q ∙ ap (λ (z : Option ℕ). call_with t_call_accepted s z 0 (p + 1)) h ∙ ap (λ (z : ℕ). call_with t_call_accepted s (octet_at s z) 0 (z + 1)) e
      ∙ sym (ap (λ (b : Bool). pick b (call_with t_call_accepted s (octet_at s (fac_end s)) 0 (fac_end s + 1)) (plain t_call_accepted (lcn_of s) (length s))) has)
