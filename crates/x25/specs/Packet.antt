-- `parse_x25`: what an X.25 packet's octets say, and its record.
use Rattle.std.specs.Prelude.{ℕ, ◌+◌, ◌/◌, ◌%◌, min, Bool, ◌&&◌, Option, Some, None, Ok, Err, List, [], ltb, leb, eqb, length, get_or, take, drop}
use Rattle.octets.specs.Text.{pick}
use Rattle.octets.specs.Read.{be16}
use Rattle.names.specs.Numbers.{k_lcn, k_kind, k_ps, k_pr, k_more, k_cause, k_cause_text, k_diagnostic, k_diagnostic_text, k_facilities, t_data, t_call_request, t_call_accepted, t_clear_request, t_reset_request, t_restart_request, t_clear_confirmation, t_reset_confirmation, t_restart_confirmation, t_diagnostic, t_rr, t_rnr, t_rej}
use Rattle.codes.specs.Codes.{Row, text_in, clear_causes, reset_causes, restart_causes, diagnostics}
use Rattle.cells.specs.Items.{Items, none, leaf, number, flag, text, record_of, in_list, flat, ◌⊕◌}
use Rattle.cells.specs.Answer.{Answer, answer_to, number_of}
use Rattle.fields.specs.Member.{opt_text}
use Rattle.x25.specs.Facility.{fac_items}
use Rattle.x25.specs.Sndcf.{field_at, sndcf_member}
use Rattle.x25.specs.declared.sndcf.Field.{Field}
use Rattle.x25.specs.declared.packet.Packet.{Packet}

-- `b.get(i)`
abbrev pub octet_at : List ℕ → ℕ → Option ℕ
octet_at s i = pick (ltb i (length s)) (Some (get_or s i 0)) None

-- a packet of a kind on a channel with nothing else, whose payload is the empty part at the end n; kind 0 is the Rust's None
abbrev pub plain : ℕ → ℕ → ℕ → Packet
plain kind lcn n = record {
  kind = kind;
  lcn = lcn;
  ps = None;
  pr = None;
  more = 0;
  cause = None;
  causetext = 0;
  diagnostic = None;
  diagtext = 0;
  facat = 0;
  faclen = 0;
  sndcf = None;
  version = 0;
  payload = n;
}

abbrev pub unreadable : ℕ → Packet
unreadable n = plain 0 0 n

-- the channel: its group and its number
abbrev pub lcn_of : List ℕ → ℕ
lcn_of s = be16 (get_or s 0 0 % 16) (get_or s 1 0)

-- ---- data, and RR, RNR, REJ: the fields of a sequence octet
abbrev pub data_of : List ℕ → ℕ → Packet
data_of s t = record {
  kind = t_data;
  lcn = lcn_of s;
  ps = Some (t / 2 % 8);
  pr = Some (t / 32);
  more = t / 16 % 2;
  cause = None;
  causetext = 0;
  diagnostic = None;
  diagtext = 0;
  facat = 0;
  faclen = 0;
  sndcf = None;
  version = 0;
  payload = 3;
}

abbrev pub received : ℕ → List ℕ → ℕ → Packet
received kind s t = record {
  kind = kind;
  lcn = lcn_of s;
  ps = None;
  pr = Some (t / 32);
  more = 0;
  cause = None;
  causetext = 0;
  diagnostic = None;
  diagtext = 0;
  facat = 0;
  faclen = 0;
  sndcf = None;
  version = 0;
  payload = length s;
}

-- ---- clear, reset and restart requests, and diagnostics
-- a cause with its top bit set is the remote side's own: 0
abbrev pub cause_in : Option ℕ → Option ℕ
cause_in None = None
cause_in (Some raw) = Some (pick (ltb raw 128) raw 0)

abbrev pub text_of : List Row → Option ℕ → ℕ
text_of rows None = 0
text_of rows (Some c) = text_in rows [] c

abbrev pub request_of : ℕ → List Row → List ℕ → Packet
request_of kind rows s =
    let cause = cause_in (octet_at s 3) in
    let diagnostic = octet_at s 4 in
    record {
      kind = kind;
      lcn = lcn_of s;
      ps = None;
      pr = None;
      more = 0;
      cause = cause;
      causetext = text_of rows cause;
      diagnostic = diagnostic;
      diagtext = text_of diagnostics diagnostic;
      facat = 0;
      faclen = 0;
      sndcf = None;
      version = 0;
      payload = length s;
    }

abbrev pub diagnostic_of : List ℕ → Packet
diagnostic_of s = record {
  kind = t_diagnostic;
  lcn = lcn_of s;
  ps = None;
  pr = None;
  more = 0;
  cause = None;
  causetext = 0;
  diagnostic = octet_at s 3;
  diagtext = text_of diagnostics (octet_at s 3);
  facat = 0;
  faclen = 0;
  sndcf = None;
  version = 0;
  payload = length s;
}

-- ---- calls: counts of called and calling digits, two digits in an octet, the facilities' length, the facilities
abbrev pub fac_pos : List ℕ → ℕ
fac_pos s = 4 + (get_or s 3 0 % 16 + get_or s 3 0 / 16 + 1) / 2

abbrev pub fac_len : List ℕ → ℕ
fac_len s = get_or s (fac_pos s) 0

-- the place behind them, which may be past the end
abbrev pub fac_end : List ℕ → ℕ
fac_end s = fac_pos s + 1 + fac_len s

-- facilities that run past the end are none
abbrev pub fac_read : List ℕ → ℕ
fac_read s = pick (leb (fac_end s) (length s)) (fac_len s) 0

abbrev pub call_with : ℕ → List ℕ → Option ℕ → ℕ → ℕ → Packet
call_with kind s sndcf version pos = record {
  kind = kind;
  lcn = lcn_of s;
  ps = None;
  pr = None;
  more = 0;
  cause = None;
  causetext = 0;
  diagnostic = None;
  diagtext = 0;
  facat = fac_pos s + 1;
  faclen = fac_read s;
  sndcf = sndcf;
  version = version;
  payload = min pos (length s);
}

-- the address block and the facilities' length are there
abbrev pub has_facilities : List ℕ → Bool
has_facilities s = ltb 3 (length s) && ltb (fac_pos s) (length s)

abbrev pub with_field : List ℕ → Option Field → Packet
with_field s None = call_with t_call_request s None 0 (fac_end s)
with_field s (Some f) = call_with t_call_request s (Some f.octet) 1 f.end

abbrev pub call_request : List ℕ → Packet
call_request s = pick (has_facilities s) (with_field s (field_at s (fac_end s))) (plain t_call_request (lcn_of s) (length s))

-- a call accept: the octet behind the facilities is the compression octet
abbrev pub call_accepted : List ℕ → Packet
call_accepted s =
    pick (has_facilities s) (call_with t_call_accepted s (octet_at s (fac_end s)) 0 (fac_end s + 1)) (plain t_call_accepted (lcn_of s) (length s))

-- ---- by the third octet
unfoldable pub by_type : List ℕ → ℕ → Packet
by_type s t =
    pick (eqb (t % 2) 0) (data_of s t)
    (pick (eqb t 0x0B) (call_request s)
    (pick (eqb t 0x0F) (call_accepted s)
    (pick (eqb t 0x13) (request_of t_clear_request clear_causes s)
    (pick (eqb t 0x1B) (request_of t_reset_request reset_causes s)
    (pick (eqb t 0xFB) (request_of t_restart_request restart_causes s)
    (pick (eqb t 0x17) (plain t_clear_confirmation (lcn_of s) (length s))
    (pick (eqb t 0x1F) (plain t_reset_confirmation (lcn_of s) (length s))
    (pick (eqb t 0xFF) (plain t_restart_confirmation (lcn_of s) (length s))
    (pick (eqb t 0xF1) (diagnostic_of s)
    (pick (eqb (t % 32) 1) (received t_rr s t)
    (pick (eqb (t % 32) 5) (received t_rnr s t)
    (pick (eqb (t % 32) 9) (received t_rej s t) (unreadable (length s))))))))))))))

-- three octets or more, at modulo 8
unfoldable pub packet_of : List ℕ → Packet
packet_of s =
    pick (ltb (length s) 3) (unreadable (length s))
    (pick (eqb (get_or s 0 0 / 16 % 4) 1) (by_type s (get_or s 2 0)) (unreadable (length s)))

-- nothing where the kind is 0
abbrev pub known : Packet → Option Packet
known x = pick (eqb x.kind 0) None (Some x)

abbrev pub read_of : List ℕ → Option Packet
read_of s = known (packet_of s)

-- ---- the record, its members in the order of the Rust's X25Packet
abbrev pub opt_number : ℕ → Option ℕ → Items
opt_number f None = none
opt_number f (Some v) = leaf f (number v) none

abbrev pub opt_sndcf : Option ℕ → ℕ → Items
opt_sndcf None v = none
opt_sndcf (Some o) v = sndcf_member o v

abbrev pub fac_member : List ℕ → Packet → Items
fac_member s x = in_list k_facilities (fac_items x.facat (take x.faclen (drop x.facat s)))

unfoldable pub members_of : List ℕ → Packet → Items
members_of s x =
    leaf k_lcn (number x.lcn) none ⊕ (leaf k_kind (text x.kind) none ⊕ (opt_number k_ps x.ps ⊕ (opt_number k_pr x.pr
    ⊕ (leaf k_more (flag x.more) none ⊕ (opt_number k_cause x.cause ⊕ (opt_text k_cause_text x.causetext
    ⊕ (opt_number k_diagnostic x.diagnostic ⊕ (opt_text k_diagnostic_text x.diagtext ⊕ (fac_member s x ⊕ opt_sndcf x.sndcf x.version)))))))))

-- no cells where it is unreadable
unfoldable pub x25_cells : List ℕ → List ℕ
x25_cells s = pick (eqb (packet_of s).kind 0) [] (flat 0 (record_of (members_of s (packet_of s))))

-- ---- the entry point
-- where the payload starts: what the packet says on answer 0, and the end of the octets on every refusal
abbrev pub payload_for : List ℕ → Answer → ℕ
payload_for s a = pick (eqb (number_of a) 0) (packet_of s).payload (length s)

abbrev pub payload_by : ℕ → Answer → Option Packet → ℕ
payload_by n (Ok k) (Some x) = x.payload
payload_by n (Ok k) None = n
payload_by n (Err r) o = n

abbrev pub x25_answer : List ℕ → ℕ → Answer
x25_answer s room = answer_to (length s) (x25_cells s) room
