-- The JSON keys of the Rust, in the order in which its text first has them: docs/RECORDS.md.
use Rattle.std.specs.Prelude.{List, [], ◌∷◌, ℕ, get_or}
use Rattle.names.specs.Ascii.{octets}
use Rattle.names.specs.Place.{place_from}

unfoldable pub keys : List (List ℕ)
keys =
    octets "lcn" ∷
    octets "kind" ∷
    octets "ps" ∷
    octets "pr" ∷
    octets "more" ∷
    octets "cause" ∷
    octets "cause_text" ∷
    octets "diagnostic" ∷
    octets "diagnostic_text" ∷
    octets "facilities" ∷
    octets "sndcf" ∷
    octets "protocol" ∷
    octets "first" ∷
    octets "payload_len" ∷
    octets "type" ∷
    octets "holding_time_s" ∷
    octets "addresses" ∷
    octets "options" ∷
    octets "type_code" ∷
    octets "value_hex" ∷
    octets "bispdu_len" ∷
    octets "sequence" ∷
    octets "ack" ∷
    octets "credit_offered" ∷
    octets "credit_avail" ∷
    octets "open" ∷
    octets "update" ∷
    octets "error_code" ∷
    octets "error" ∷
    octets "error_subcode" ∷
    octets "error_subcode_text" ∷
    octets "version" ∷
    octets "hold_time_s" ∷
    octets "max_pdu_size" ∷
    octets "src_rdi" ∷
    octets "withdrawn_routes" ∷
    octets "value" ∷
    octets "path_attributes" ∷
    octets "proto_type" ∷
    octets "clnp" ∷
    octets "prefixes" ∷
    octets "nlri" ∷
    octets "compression_options" ∷
    octets "compression_algos" ∷
    octets "maintenance" ∷
    octets "code" ∷
    octets "params" ∷
    octets "tag_set" ∷
    octets "class_id" ∷
    octets "class_name" ∷
    octets "subnet_id" ∷
    octets "subnet_name" ∷
    octets "permitted_traffic_types" ∷
    octets "classes" ∷
    octets "traffic_type" ∷
    octets "category" ∷
    octets "route_policy" ∷
    octets "reg_id" ∷
    octets "sec_info" ∷
    octets "name" ∷
    octets "priority" ∷
    octets "reason" ∷
    octets "security_format" ∷
    octets "security_label" ∷
    octets "lifetime_500ms" ∷
    octets "seg_len" ∷
    octets "dst_nsap" ∷
    octets "src_nsap" ∷
    octets "error_report" ∷
    octets "more_segments" ∷
    octets "pdu_id" ∷
    octets "segment_offset" ∷
    octets "total_len" ∷
    octets "segmented" ∷
    octets "cotp" ∷
    octets "tpdu_size" ∷
    octets "tpdu" ∷
    octets "dst_ref" ∷
    octets "src_ref" ∷
    octets "class" ∷
    octets "reason_text" ∷
    octets "reject_cause" ∷
    octets "reject_cause_text" ∷
    octets "roa" ∷
    octets "eot" ∷
    octets "tpdu_seq" ∷
    octets "credit" ∷
    octets "extended" ∷
    octets "user_data_len" ∷
    octets "tsdu_segment" ∷
    []

-- with a text for number 0, which no key has
abbrev pub all_keys : List (List ℕ)
all_keys = [] ∷ keys

-- the key of a field number, counted from 1; no octets for any other number
abbrev pub key_text : ℕ → List ℕ
key_text n = get_or all_keys n []

-- the field number of a key; 0 for one that is none of them
unfoldable pub field_of : List ℕ → ℕ
field_of t = place_from 0 all_keys t
