-- The names that the Rust gives to codes, table by table as its text lists them.
use Rattle.std.specs.Prelude.{List, [], ◌∷◌, ℕ, eqb}
use Prim.Native.String.{String}
use Rattle.octets.specs.Text.{pick}
use Rattle.names.specs.Ascii.{octets}
use Rattle.names.specs.Texts.{number_of}

pub record Row : Type 0 where
  pub code : ℕ
  pub name : List ℕ

abbrev pub row : ℕ → String → Row
row c t = record { code = c; name = octets t }

-- the name of the row with this code, or other
unfoldable pub name_in : List Row → List ℕ → ℕ → List ℕ
name_in [] other c = other
name_in (r ∷ rs) other c = let later = name_in rs other c in pick (eqb c r.code) r.name later

-- the number of its text, 0 for none
unfoldable pub text_in : List Row → List ℕ → ℕ → ℕ
text_in rows other c = number_of (name_in rows other c)

unfoldable pub clear_causes : List Row
clear_causes =
    row 0x00 "DTE originated" ∷
    row 0x01 "Number busy" ∷
    row 0x03 "Invalid facility request" ∷
    row 0x05 "Network congestion" ∷
    row 0x09 "Remote procedure error" ∷
    row 0x0D "Not obtainable" ∷
    row 0x13 "Local procedure error" ∷
    row 0x15 "ROA out of order" ∷
    row 0x19 "Reverse charging acceptance not subscribed" ∷
    row 0x21 "Incompatible destination" ∷
    row 0x29 "Fast select acceptance not subscribed" ∷
    row 0x39 "Ship absent" ∷
    []

unfoldable pub reset_causes : List Row
reset_causes =
    row 0x00 "DTE originated" ∷
    row 0x01 "Out of order" ∷
    row 0x03 "Remote procedure error" ∷
    row 0x05 "Local procedure error" ∷
    row 0x07 "Network congestion" ∷
    row 0x09 "Remote DTE operational" ∷
    row 0x0F "Network operational" ∷
    row 0x11 "Incompatible destination" ∷
    row 0x1D "Network out of order" ∷
    []

unfoldable pub restart_causes : List Row
restart_causes =
    row 0x01 "Local procedure error" ∷
    row 0x03 "Network congestion" ∷
    row 0x07 "Network operational" ∷
    []

unfoldable pub diagnostics : List Row
diagnostics =
    row 0x00 "Cleared by system management" ∷
    row 0x01 "Invalid P(S)" ∷
    row 0x02 "Invalid P(R)" ∷
    row 0x10 "Packet type invalid" ∷
    row 0x11 "Packet type invalid for state r1" ∷
    row 0x12 "Packet type invalid for state r2" ∷
    row 0x13 "Packet type invalid for state r3" ∷
    row 0x14 "Packet type invalid for state p1" ∷
    row 0x15 "Packet type invalid for state p2" ∷
    row 0x16 "Packet type invalid for state p3" ∷
    row 0x17 "Packet type invalid for state p4" ∷
    row 0x18 "Packet type invalid for state p5" ∷
    row 0x19 "Packet type invalid for state p6" ∷
    row 0x1A "Packet type invalid for state p7" ∷
    row 0x1B "Packet type invalid for state d1" ∷
    row 0x1C "Packet type invalid for state d2" ∷
    row 0x1D "Packet type invalid for state d3" ∷
    row 0x20 "Packet not allowed" ∷
    row 0x21 "Unidentifiable packet" ∷
    row 0x22 "Call on one-way logical channel" ∷
    row 0x23 "Invalid packet type on a PVC" ∷
    row 0x24 "Packet on unassigned logical channel" ∷
    row 0x25 "Reject not subscribed to" ∷
    row 0x26 "Packet too short" ∷
    row 0x27 "Packet too long" ∷
    row 0x28 "Invalid general format identifier" ∷
    row 0x29 "Restart packet with non-zero reserved bits" ∷
    row 0x2A "Packet type not compatible with facility" ∷
    row 0x2B "Unauthorized interrupt confirmation" ∷
    row 0x2C "Unauthorized interrupt" ∷
    row 0x2D "Unauthorized reject" ∷
    row 0x2E "TOA/NPI address subscription facility not subscribed to" ∷
    row 0x30 "Time expired" ∷
    row 0x31 "Time expired for incoming call" ∷
    row 0x32 "Time expired for clear indication" ∷
    row 0x33 "Time expired for reset indication" ∷
    row 0x34 "Time expired for restart indication" ∷
    row 0x35 "Time expired for call deflection" ∷
    row 0x40 "Call setup or call clearing problem" ∷
    row 0x41 "Facility code not allowed" ∷
    row 0x42 "Facility parameter not allowed" ∷
    row 0x43 "Invalid called DTE address" ∷
    row 0x44 "Invalid calling DTE address" ∷
    row 0x45 "Invalid facility length" ∷
    row 0x46 "Incoming call barred" ∷
    row 0x47 "No logical channel available" ∷
    row 0x48 "Call collision" ∷
    row 0x49 "Duplicate facility requested" ∷
    row 0x4A "Non-zero address length" ∷
    row 0x4B "Non-zero facility length" ∷
    row 0x4C "Facility not provided when expected" ∷
    row 0x4D "Invalid ITU-T specified DTE facility" ∷
    row 0x4E "Max number of call redirections or deflections exceeded" ∷
    row 0x50 "Miscellaneous" ∷
    row 0x51 "Improper cause code from DTE" ∷
    row 0x52 "Not aligned octet" ∷
    row 0x53 "Inconsistent Q-bit setting" ∷
    row 0x54 "NUI problem" ∷
    row 0x55 "ICRD problem" ∷
    row 0x70 "International problem" ∷
    row 0x71 "Remote network problem" ∷
    row 0x72 "International protocol problem" ∷
    row 0x73 "International link out of order" ∷
    row 0x74 "International link busy" ∷
    row 0x75 "Transit network facility problem" ∷
    row 0x76 "Remote network facility problem" ∷
    row 0x77 "International routing problem" ∷
    row 0x78 "Temporary routing problem" ∷
    row 0x79 "Unknown called DNIC" ∷
    row 0x7A "Maintenance action" ∷
    row 0x80 "Version number not supported" ∷
    row 0x81 "Invalid length field" ∷
    row 0x82 "Call collision resolution" ∷
    row 0x83 "Proposed directory size too large" ∷
    row 0x84 "LREF cancellation not supported" ∷
    row 0x85 "Received DTE refused, received NET refused or invalid NET selector" ∷
    row 0x86 "Invalid SNCR field" ∷
    row 0x87 "ACA compression not supported" ∷
    row 0x88 "LREF compression not supported" ∷
    row 0x8F "Deflate compression not supported" ∷
    row 0x90 "Idle timer expired" ∷
    row 0x91 "Need to reuse the circuit" ∷
    row 0x92 "System local error" ∷
    row 0x93 "Invalid SEL field value in received NET" ∷
    row 0xE1 "OSI network disconnect (transient)" ∷
    row 0xE2 "OSI network disconnect (permanent)" ∷
    row 0xE3 "OSI network reject - reason unspecified (transient)" ∷
    row 0xE4 "OSI network reject - reason unspecified (permanent)" ∷
    row 0xE5 "OSI network reject - QoS not available (transient)" ∷
    row 0xE6 "OSI network reject - QoS not available (permanent)" ∷
    row 0xE7 "OSI network reject - NSAP unreachable (transient)" ∷
    row 0xE8 "OSI network reject - NSAP unreachable (permanent)" ∷
    row 0xE9 "OSI network reset - no reason given" ∷
    row 0xEA "OSI network reset - congestion" ∷
    row 0xEB "OSI network reject - NSAP address unknown (permanent)" ∷
    row 0xF0 "System lack of resources" ∷
    row 0xF1 "Higher level initiated disconnect (normal)" ∷
    row 0xF2 "Incompatible information in user data" ∷
    row 0xF3 "Higher level initiated disconnect - incompatible data" ∷
    row 0xF4 "Higher level initiated reject - no reason given (transient)" ∷
    row 0xF5 "Higher level initiated reject - no reason given (permanent)" ∷
    row 0xF6 "Higher level initiated reject - QoS not available (transient)" ∷
    row 0xF7 "Higher level initiated reject - QoS not available (permanent)" ∷
    row 0xF8 "Higher level initiated reject - incompatible data" ∷
    row 0xF9 "Unrecognized protocol ID" ∷
    row 0xFA "Higher level initiated reset - user resync" ∷
    []

unfoldable pub esis_options : List Row
esis_options =
    row 0x81 "mobile-subnetwork-capabilities" ∷
    row 0x88 "atn-data-link-capabilities" ∷
    row 0xCF "priority" ∷
    row 0xC5 "security" ∷
    []

unfoldable pub idrp_attributes : List Row
idrp_attributes =
    row 1 "route" ∷
    row 2 "ext-info" ∷
    row 3 "rd-path" ∷
    row 4 "next-hop" ∷
    row 5 "distribute-list-incl" ∷
    row 6 "distribute-list-excl" ∷
    row 7 "multi-exit-disc" ∷
    row 8 "transit-delay" ∷
    row 9 "residual-error" ∷
    row 10 "expense" ∷
    row 11 "locally-defined-qos" ∷
    row 12 "hierarchical-recording" ∷
    row 13 "rd-hop-count" ∷
    row 14 "security" ∷
    row 15 "capacity" ∷
    row 16 "priority" ∷
    []

unfoldable pub idrp_types : List Row
idrp_types =
    row 1 "OPEN" ∷
    row 2 "UPDATE" ∷
    row 3 "ERROR" ∷
    row 4 "KEEPALIVE" ∷
    row 5 "CEASE" ∷
    row 6 "RIB-REFRESH" ∷
    []

unfoldable pub idrp_errors : List Row
idrp_errors =
    row 1 "Open PDU error" ∷
    row 2 "Update PDU error" ∷
    row 3 "Hold timer expired" ∷
    row 4 "FSM error" ∷
    row 5 "RIB Refresh PDU error" ∷
    []

unfoldable pub open_errors : List Row
open_errors =
    row 1 "Unsupported version number" ∷
    row 2 "Bad max PDU size" ∷
    row 3 "Bad peer RD" ∷
    row 4 "Unsupported auth code" ∷
    row 5 "Auth failure" ∷
    row 6 "Bad RIB-AttsSet" ∷
    row 7 "RDC Mismatch" ∷
    []

unfoldable pub update_errors : List Row
update_errors =
    row 1 "Malformed attribute list" ∷
    row 2 "Unrecognized well-known attribute" ∷
    row 3 "Missing well-known attribute" ∷
    row 4 "Attribute flags error" ∷
    row 5 "Attribute length error" ∷
    row 6 "RD routing loop" ∷
    row 7 "Invalid NEXT_HOP attribute" ∷
    row 8 "Optional attribute error" ∷
    row 9 "Invalid reachability information" ∷
    row 10 "Misconfigured RDCs" ∷
    row 11 "Malformed NLRI" ∷
    row 12 "Duplicated attributes" ∷
    row 13 "Illegal RD path segment" ∷
    []

unfoldable pub refresh_errors : List Row
refresh_errors =
    row 1 "Invalid opcode" ∷
    row 2 "Unsupported RIB-Atts" ∷
    []

-- by the error code, then the subcode
unfoldable pub error_subcodes : ℕ → List Row
error_subcodes code = pick (eqb code 1) open_errors (pick (eqb code 2) update_errors (pick (eqb code 5) refresh_errors []))

unfoldable pub clnp_options : List Row
clnp_options =
    row 0x05 "lref" ∷
    row 0xC1 "discard_reason" ∷
    row 0xC3 "qos_maintenance" ∷
    row 0xC4 "prefix_scope_control" ∷
    row 0xC5 "security" ∷
    row 0xC6 "radius_scope_control" ∷
    row 0xC8 "source_routing" ∷
    row 0xCB "record_route" ∷
    row 0xCC "padding" ∷
    row 0xCD "priority" ∷
    []

unfoldable pub traffic_types : List Row
traffic_types =
    row 1 "ATS" ∷
    row 2 "AOC" ∷
    row 4 "ATN Administrative" ∷
    row 8 "General Comms" ∷
    row 16 "ATN System Mgmt" ∷
    []

unfoldable pub atsc_classes : List Row
atsc_classes =
    row 1 "A" ∷
    row 2 "B" ∷
    row 4 "C" ∷
    row 8 "D" ∷
    row 16 "E" ∷
    row 32 "F" ∷
    row 64 "G" ∷
    row 128 "H" ∷
    []

unfoldable pub subnets : List Row
subnets =
    row 1 "Mode S" ∷
    row 2 "VDL" ∷
    row 3 "AMSS" ∷
    row 4 "Gatelink" ∷
    row 5 "HF" ∷
    []

unfoldable pub security_classes : List Row
security_classes =
    row 1 "unclassified" ∷
    row 2 "restricted" ∷
    row 3 "confidential" ∷
    row 4 "secret" ∷
    row 5 "top secret" ∷
    []

unfoldable pub disconnect_reasons : List Row
disconnect_reasons =
    row 0 "Reason not specified" ∷
    row 1 "TSAP congestion" ∷
    row 2 "Session entity not attached to TSAP" ∷
    row 3 "Unknown address" ∷
    row 128 "Normal disconnect" ∷
    row 129 "Remote transport entity congestion" ∷
    row 130 "Connection negotiation failed" ∷
    row 131 "Duplicate source reference" ∷
    row 132 "Mismatched references" ∷
    row 133 "Protocol error" ∷
    row 135 "Reference overflow" ∷
    row 136 "Connection request refused" ∷
    row 138 "Header or parameter length invalid" ∷
    []

unfoldable pub reject_causes : List Row
reject_causes =
    row 0 "Reason not specified" ∷
    row 1 "Invalid parameter code" ∷
    row 2 "Invalid TPDU type" ∷
    row 3 "Invalid parameter value" ∷
    []

unfoldable pub cotp_params : List Row
cotp_params =
    row 0x08 "atn_checksum" ∷
    row 0x85 "ack_time_ms" ∷
    row 0x86 "residual_error_rate" ∷
    row 0x87 "priority" ∷
    row 0x88 "transit_delay" ∷
    row 0x89 "throughput" ∷
    row 0x8A "subseq_num" ∷
    row 0x8B "reassignment_time_sec" ∷
    row 0x8C "flow_control" ∷
    row 0x8F "sack" ∷
    row 0xC0 "tpdu_size" ∷
    row 0xC1 "calling_transport_selector" ∷
    row 0xC2 "called_responding_transport_selector" ∷
    row 0xC3 "checksum" ∷
    row 0xC4 "version" ∷
    row 0xC5 "protection_params" ∷
    row 0xC6 "additional_options" ∷
    row 0xC7 "additional_proto_classes" ∷
    row 0xE0 "additional_info" ∷
    row 0xF0 "preferred_max_tpdu_size" ∷
    row 0xF2 "inactivity_timer_ms" ∷
    []
