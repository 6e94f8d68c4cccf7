-- The fixed texts of the Rust, each once, in the order in which its text first has them: docs/RECORDS.md.
use Rattle.std.specs.Prelude.{List, [], ◌∷◌, ℕ, get_or}
use Rattle.names.specs.Ascii.{octets}
use Rattle.names.specs.Place.{place_from}

unfoldable pub texts : List (List ℕ)
texts =
    octets "DTE originated" ∷
    octets "Number busy" ∷
    octets "Invalid facility request" ∷
    octets "Network congestion" ∷
    octets "Remote procedure error" ∷
    octets "Not obtainable" ∷
    octets "Local procedure error" ∷
    octets "ROA out of order" ∷
    octets "Reverse charging acceptance not subscribed" ∷
    octets "Incompatible destination" ∷
    octets "Fast select acceptance not subscribed" ∷
    octets "Ship absent" ∷
    octets "Out of order" ∷
    octets "Remote DTE operational" ∷
    octets "Network operational" ∷
    octets "Network out of order" ∷
    octets "Cleared by system management" ∷
    octets "Invalid P(S)" ∷
    octets "Invalid P(R)" ∷
    octets "Packet type invalid" ∷
    octets "Packet type invalid for state r1" ∷
    octets "Packet type invalid for state r2" ∷
    octets "Packet type invalid for state r3" ∷
    octets "Packet type invalid for state p1" ∷
    octets "Packet type invalid for state p2" ∷
    octets "Packet type invalid for state p3" ∷
    octets "Packet type invalid for state p4" ∷
    octets "Packet type invalid for state p5" ∷
    octets "Packet type invalid for state p6" ∷
    octets "Packet type invalid for state p7" ∷
    octets "Packet type invalid for state d1" ∷
    octets "Packet type invalid for state d2" ∷
    octets "Packet type invalid for state d3" ∷
    octets "Packet not allowed" ∷
    octets "Unidentifiable packet" ∷
    octets "Call on one-way logical channel" ∷
    octets "Invalid packet type on a PVC" ∷
    octets "Packet on unassigned logical channel" ∷
    octets "Reject not subscribed to" ∷
    octets "Packet too short" ∷
    octets "Packet too long" ∷
    octets "Invalid general format identifier" ∷
    octets "Restart packet with non-zero reserved bits" ∷
    octets "Packet type not compatible with facility" ∷
    octets "Unauthorized interrupt confirmation" ∷
    octets "Unauthorized interrupt" ∷
    octets "Unauthorized reject" ∷
    octets "TOA/NPI address subscription facility not subscribed to" ∷
    octets "Time expired" ∷
    octets "Time expired for incoming call" ∷
    octets "Time expired for clear indication" ∷
    octets "Time expired for reset indication" ∷
    octets "Time expired for restart indication" ∷
    octets "Time expired for call deflection" ∷
    octets "Call setup or call clearing problem" ∷
    octets "Facility code not allowed" ∷
    octets "Facility parameter not allowed" ∷
    octets "Invalid called DTE address" ∷
    octets "Invalid calling DTE address" ∷
    octets "Invalid facility length" ∷
    octets "Incoming call barred" ∷
    octets "No logical channel available" ∷
    octets "Call collision" ∷
    octets "Duplicate facility requested" ∷
    octets "Non-zero address length" ∷
    octets "Non-zero facility length" ∷
    octets "Facility not provided when expected" ∷
    octets "Invalid ITU-T specified DTE facility" ∷
    octets "Max number of call redirections or deflections exceeded" ∷
    octets "Miscellaneous" ∷
    octets "Improper cause code from DTE" ∷
    octets "Not aligned octet" ∷
    octets "Inconsistent Q-bit setting" ∷
    octets "NUI problem" ∷
    octets "ICRD problem" ∷
    octets "International problem" ∷
    octets "Remote network problem" ∷
    octets "International protocol problem" ∷
    octets "International link out of order" ∷
    octets "International link busy" ∷
    octets "Transit network facility problem" ∷
    octets "Remote network facility problem" ∷
    octets "International routing problem" ∷
    octets "Temporary routing problem" ∷
    octets "Unknown called DNIC" ∷
    octets "Maintenance action" ∷
    octets "Version number not supported" ∷
    octets "Invalid length field" ∷
    octets "Call collision resolution" ∷
    octets "Proposed directory size too large" ∷
    octets "LREF cancellation not supported" ∷
    octets "Received DTE refused, received NET refused or invalid NET selector" ∷
    octets "Invalid SNCR field" ∷
    octets "ACA compression not supported" ∷
    octets "LREF compression not supported" ∷
    octets "Deflate compression not supported" ∷
    octets "Idle timer expired" ∷
    octets "Need to reuse the circuit" ∷
    octets "System local error" ∷
    octets "Invalid SEL field value in received NET" ∷
    octets "OSI network disconnect (transient)" ∷
    octets "OSI network disconnect (permanent)" ∷
    octets "OSI network reject - reason unspecified (transient)" ∷
    octets "OSI network reject - reason unspecified (permanent)" ∷
    octets "OSI network reject - QoS not available (transient)" ∷
    octets "OSI network reject - QoS not available (permanent)" ∷
    octets "OSI network reject - NSAP unreachable (transient)" ∷
    octets "OSI network reject - NSAP unreachable (permanent)" ∷
    octets "OSI network reset - no reason given" ∷
    octets "OSI network reset - congestion" ∷
    octets "OSI network reject - NSAP address unknown (permanent)" ∷
    octets "System lack of resources" ∷
    octets "Higher level initiated disconnect (normal)" ∷
    octets "Incompatible information in user data" ∷
    octets "Higher level initiated disconnect - incompatible data" ∷
    octets "Higher level initiated reject - no reason given (transient)" ∷
    octets "Higher level initiated reject - no reason given (permanent)" ∷
    octets "Higher level initiated reject - QoS not available (transient)" ∷
    octets "Higher level initiated reject - QoS not available (permanent)" ∷
    octets "Higher level initiated reject - incompatible data" ∷
    octets "Unrecognized protocol ID" ∷
    octets "Higher level initiated reset - user resync" ∷
    octets "?" ∷
    octets "data" ∷
    octets "call-request" ∷
    octets "call-accepted" ∷
    octets "clear-request" ∷
    octets "reset-request" ∷
    octets "restart-request" ∷
    octets "clear-confirmation" ∷
    octets "reset-confirmation" ∷
    octets "restart-confirmation" ∷
    octets "diagnostic" ∷
    octets "rr" ∷
    octets "rnr" ∷
    octets "rej" ∷
    octets "clnp-compressed?" ∷
    octets "mobile-subnetwork-capabilities" ∷
    octets "atn-data-link-capabilities" ∷
    octets "priority" ∷
    octets "security" ∷
    octets "unknown" ∷
    octets "ES-IS" ∷
    octets "ESH" ∷
    octets "ISH" ∷
    octets "RD" ∷
    octets "route" ∷
    octets "ext-info" ∷
    octets "rd-path" ∷
    octets "next-hop" ∷
    octets "distribute-list-incl" ∷
    octets "distribute-list-excl" ∷
    octets "multi-exit-disc" ∷
    octets "transit-delay" ∷
    octets "residual-error" ∷
    octets "expense" ∷
    octets "locally-defined-qos" ∷
    octets "hierarchical-recording" ∷
    octets "rd-hop-count" ∷
    octets "capacity" ∷
    octets "OPEN" ∷
    octets "UPDATE" ∷
    octets "ERROR" ∷
    octets "KEEPALIVE" ∷
    octets "CEASE" ∷
    octets "RIB-REFRESH" ∷
    octets "Open PDU error" ∷
    octets "Update PDU error" ∷
    octets "Hold timer expired" ∷
    octets "FSM error" ∷
    octets "RIB Refresh PDU error" ∷
    octets "Unsupported version number" ∷
    octets "Bad max PDU size" ∷
    octets "Bad peer RD" ∷
    octets "Unsupported auth code" ∷
    octets "Auth failure" ∷
    octets "Bad RIB-AttsSet" ∷
    octets "RDC Mismatch" ∷
    octets "Malformed attribute list" ∷
    octets "Unrecognized well-known attribute" ∷
    octets "Missing well-known attribute" ∷
    octets "Attribute flags error" ∷
    octets "Attribute length error" ∷
    octets "RD routing loop" ∷
    octets "Invalid NEXT_HOP attribute" ∷
    octets "Optional attribute error" ∷
    octets "Invalid reachability information" ∷
    octets "Misconfigured RDCs" ∷
    octets "Malformed NLRI" ∷
    octets "Duplicated attributes" ∷
    octets "Illegal RD path segment" ∷
    octets "Invalid opcode" ∷
    octets "Unsupported RIB-Atts" ∷
    octets "IDRP" ∷
    octets "ACA" ∷
    octets "DEFLATE" ∷
    octets "LREF" ∷
    octets "LREF-CAN" ∷
    octets "lref" ∷
    octets "discard_reason" ∷
    octets "qos_maintenance" ∷
    octets "prefix_scope_control" ∷
    octets "radius_scope_control" ∷
    octets "source_routing" ∷
    octets "record_route" ∷
    octets "padding" ∷
    octets "ATS" ∷
    octets "AOC" ∷
    octets "ATN Administrative" ∷
    octets "General Comms" ∷
    octets "ATN System Mgmt" ∷
    octets "A" ∷
    octets "B" ∷
    octets "C" ∷
    octets "D" ∷
    octets "E" ∷
    octets "F" ∷
    octets "G" ∷
    octets "H" ∷
    octets "Mode S" ∷
    octets "VDL" ∷
    octets "AMSS" ∷
    octets "Gatelink" ∷
    octets "HF" ∷
    octets "unclassified" ∷
    octets "restricted" ∷
    octets "confidential" ∷
    octets "secret" ∷
    octets "top secret" ∷
    octets "security_classification" ∷
    octets "subnet_type" ∷
    octets "supported_atsc_classes" ∷
    octets "traffic_type" ∷
    octets "ATN operational" ∷
    octets "ATSC" ∷
    octets "ATN administrative" ∷
    octets "none" ∷
    octets "ATN system management" ∷
    octets "globally-unique" ∷
    octets "DT" ∷
    octets "ERQ" ∷
    octets "ERP" ∷
    octets "ER" ∷
    octets "CLNP" ∷
    octets "Reason not specified" ∷
    octets "TSAP congestion" ∷
    octets "Session entity not attached to TSAP" ∷
    octets "Unknown address" ∷
    octets "Normal disconnect" ∷
    octets "Remote transport entity congestion" ∷
    octets "Connection negotiation failed" ∷
    octets "Duplicate source reference" ∷
    octets "Mismatched references" ∷
    octets "Protocol error" ∷
    octets "Reference overflow" ∷
    octets "Connection request refused" ∷
    octets "Header or parameter length invalid" ∷
    octets "Invalid parameter code" ∷
    octets "Invalid TPDU type" ∷
    octets "Invalid parameter value" ∷
    octets "atn_checksum" ∷
    octets "ack_time_ms" ∷
    octets "residual_error_rate" ∷
    octets "transit_delay" ∷
    octets "throughput" ∷
    octets "subseq_num" ∷
    octets "reassignment_time_sec" ∷
    octets "flow_control" ∷
    octets "sack" ∷
    octets "tpdu_size" ∷
    octets "calling_transport_selector" ∷
    octets "called_responding_transport_selector" ∷
    octets "checksum" ∷
    octets "version" ∷
    octets "protection_params" ∷
    octets "additional_options" ∷
    octets "additional_proto_classes" ∷
    octets "additional_info" ∷
    octets "preferred_max_tpdu_size" ∷
    octets "inactivity_timer_ms" ∷
    octets "CR" ∷
    octets "CC" ∷
    octets "DR" ∷
    octets "DC" ∷
    octets "ED" ∷
    octets "AK" ∷
    octets "EA" ∷
    octets "RJ" ∷
    []

-- with a text for number 0, which no text has
abbrev pub all_texts : List (List ℕ)
all_texts = [] ∷ texts

-- the text of a text number, counted from 1; no octets for any other number
abbrev pub text_of : ℕ → List ℕ
text_of n = get_or all_texts n []

-- the number of a text; 0 for no text, and for one that is none of them
unfoldable pub number_of : List ℕ → ℕ
number_of t = place_from 0 all_texts t
