-- The field numbers and the text numbers that definitions cite, by name.
use Rattle.std.specs.Prelude.{◌≡◌, refl, [], ◌∷◌, map, ℕ, length}
use Rattle.names.specs.Ascii.{octets}
use Rattle.names.specs.Keys.{keys, key_text}
use Rattle.names.specs.Texts.{texts, text_of}

abbrev pub k_lcn : ℕ
k_lcn = 1

abbrev pub k_kind : ℕ
k_kind = 2

abbrev pub k_ps : ℕ
k_ps = 3

abbrev pub k_pr : ℕ
k_pr = 4

abbrev pub k_more : ℕ
k_more = 5

abbrev pub k_cause : ℕ
k_cause = 6

abbrev pub k_cause_text : ℕ
k_cause_text = 7

abbrev pub k_diagnostic : ℕ
k_diagnostic = 8

abbrev pub k_diagnostic_text : ℕ
k_diagnostic_text = 9

abbrev pub k_facilities : ℕ
k_facilities = 10

abbrev pub k_sndcf : ℕ
k_sndcf = 11

abbrev pub k_protocol : ℕ
k_protocol = 12

abbrev pub k_first : ℕ
k_first = 13

abbrev pub k_payload_len : ℕ
k_payload_len = 14

abbrev pub k_type : ℕ
k_type = 15

abbrev pub k_holding_time_s : ℕ
k_holding_time_s = 16

abbrev pub k_addresses : ℕ
k_addresses = 17

abbrev pub k_options : ℕ
k_options = 18

abbrev pub k_type_code : ℕ
k_type_code = 19

abbrev pub k_value_hex : ℕ
k_value_hex = 20

abbrev pub k_bispdu_len : ℕ
k_bispdu_len = 21

abbrev pub k_sequence : ℕ
k_sequence = 22

abbrev pub k_ack : ℕ
k_ack = 23

abbrev pub k_credit_offered : ℕ
k_credit_offered = 24

abbrev pub k_credit_avail : ℕ
k_credit_avail = 25

abbrev pub k_open : ℕ
k_open = 26

abbrev pub k_update : ℕ
k_update = 27

abbrev pub k_error_code : ℕ
k_error_code = 28

abbrev pub k_error : ℕ
k_error = 29

abbrev pub k_error_subcode : ℕ
k_error_subcode = 30

abbrev pub k_error_subcode_text : ℕ
k_error_subcode_text = 31

abbrev pub k_version : ℕ
k_version = 32

abbrev pub k_hold_time_s : ℕ
k_hold_time_s = 33

abbrev pub k_max_pdu_size : ℕ
k_max_pdu_size = 34

abbrev pub k_src_rdi : ℕ
k_src_rdi = 35

abbrev pub k_withdrawn_routes : ℕ
k_withdrawn_routes = 36

abbrev pub k_value : ℕ
k_value = 37

abbrev pub k_path_attributes : ℕ
k_path_attributes = 38

abbrev pub k_proto_type : ℕ
k_proto_type = 39

abbrev pub k_clnp : ℕ
k_clnp = 40

abbrev pub k_prefixes : ℕ
k_prefixes = 41

abbrev pub k_nlri : ℕ
k_nlri = 42

abbrev pub k_compression_options : ℕ
k_compression_options = 43

abbrev pub k_compression_algos : ℕ
k_compression_algos = 44

abbrev pub k_maintenance : ℕ
k_maintenance = 45

abbrev pub k_code : ℕ
k_code = 46

abbrev pub k_params : ℕ
k_params = 47

abbrev pub k_tag_set : ℕ
k_tag_set = 48

abbrev pub k_class_id : ℕ
k_class_id = 49

abbrev pub k_class_name : ℕ
k_class_name = 50

abbrev pub k_subnet_id : ℕ
k_subnet_id = 51

abbrev pub k_subnet_name : ℕ
k_subnet_name = 52

abbrev pub k_permitted_traffic_types : ℕ
k_permitted_traffic_types = 53

abbrev pub k_classes : ℕ
k_classes = 54

abbrev pub k_traffic_type : ℕ
k_traffic_type = 55

abbrev pub k_category : ℕ
k_category = 56

abbrev pub k_route_policy : ℕ
k_route_policy = 57

abbrev pub k_reg_id : ℕ
k_reg_id = 58

abbrev pub k_sec_info : ℕ
k_sec_info = 59

abbrev pub k_name : ℕ
k_name = 60

abbrev pub k_priority : ℕ
k_priority = 61

abbrev pub k_reason : ℕ
k_reason = 62

abbrev pub k_security_format : ℕ
k_security_format = 63

abbrev pub k_security_label : ℕ
k_security_label = 64

abbrev pub k_lifetime500ms : ℕ
k_lifetime500ms = 65

abbrev pub k_seg_len : ℕ
k_seg_len = 66

abbrev pub k_dst_nsap : ℕ
k_dst_nsap = 67

abbrev pub k_src_nsap : ℕ
k_src_nsap = 68

abbrev pub k_error_report : ℕ
k_error_report = 69

abbrev pub k_more_segments : ℕ
k_more_segments = 70

abbrev pub k_pdu_id : ℕ
k_pdu_id = 71

abbrev pub k_segment_offset : ℕ
k_segment_offset = 72

abbrev pub k_total_len : ℕ
k_total_len = 73

abbrev pub k_segmented : ℕ
k_segmented = 74

abbrev pub k_cotp : ℕ
k_cotp = 75

abbrev pub k_tpdu_size : ℕ
k_tpdu_size = 76

abbrev pub k_tpdu : ℕ
k_tpdu = 77

abbrev pub k_dst_ref : ℕ
k_dst_ref = 78

abbrev pub k_src_ref : ℕ
k_src_ref = 79

abbrev pub k_class : ℕ
k_class = 80

abbrev pub k_reason_text : ℕ
k_reason_text = 81

abbrev pub k_reject_cause : ℕ
k_reject_cause = 82

abbrev pub k_reject_cause_text : ℕ
k_reject_cause_text = 83

abbrev pub k_roa : ℕ
k_roa = 84

abbrev pub k_eot : ℕ
k_eot = 85

abbrev pub k_tpdu_seq : ℕ
k_tpdu_seq = 86

abbrev pub k_credit : ℕ
k_credit = 87

abbrev pub k_extended : ℕ
k_extended = 88

abbrev pub k_user_data_len : ℕ
k_user_data_len = 89

abbrev pub k_tsdu_segment : ℕ
k_tsdu_segment = 90

abbrev pub t_question : ℕ
t_question = 123

abbrev pub t_data : ℕ
t_data = 124

abbrev pub t_call_request : ℕ
t_call_request = 125

abbrev pub t_call_accepted : ℕ
t_call_accepted = 126

abbrev pub t_clear_request : ℕ
t_clear_request = 127

abbrev pub t_reset_request : ℕ
t_reset_request = 128

abbrev pub t_restart_request : ℕ
t_restart_request = 129

abbrev pub t_clear_confirmation : ℕ
t_clear_confirmation = 130

abbrev pub t_reset_confirmation : ℕ
t_reset_confirmation = 131

abbrev pub t_restart_confirmation : ℕ
t_restart_confirmation = 132

abbrev pub t_diagnostic : ℕ
t_diagnostic = 133

abbrev pub t_rr : ℕ
t_rr = 134

abbrev pub t_rnr : ℕ
t_rnr = 135

abbrev pub t_rej : ℕ
t_rej = 136

abbrev pub t_clnp_compressed : ℕ
t_clnp_compressed = 137

abbrev pub t_unknown : ℕ
t_unknown = 142

abbrev pub t_es_is : ℕ
t_es_is = 143

abbrev pub t_esh : ℕ
t_esh = 144

abbrev pub t_ish : ℕ
t_ish = 145

abbrev pub t_rd : ℕ
t_rd = 146

abbrev pub t_idrp : ℕ
t_idrp = 194

abbrev pub t_aca : ℕ
t_aca = 195

abbrev pub t_deflate : ℕ
t_deflate = 196

abbrev pub t_lref : ℕ
t_lref = 197

abbrev pub t_lref_can : ℕ
t_lref_can = 198

abbrev pub t_aoc : ℕ
t_aoc = 208

abbrev pub t_security_classification : ℕ
t_security_classification = 230

abbrev pub t_subnet_type : ℕ
t_subnet_type = 231

abbrev pub t_supported_atsc_classes : ℕ
t_supported_atsc_classes = 232

abbrev pub t_traffic_type : ℕ
t_traffic_type = 233

abbrev pub t_atn_operational : ℕ
t_atn_operational = 234

abbrev pub t_atsc : ℕ
t_atsc = 235

abbrev pub t_atn_administrative : ℕ
t_atn_administrative = 236

abbrev pub t_none : ℕ
t_none = 237

abbrev pub t_atn_system_management : ℕ
t_atn_system_management = 238

abbrev pub t_globally_unique : ℕ
t_globally_unique = 239

abbrev pub t_dt : ℕ
t_dt = 240

abbrev pub t_erq : ℕ
t_erq = 241

abbrev pub t_erp : ℕ
t_erp = 242

abbrev pub t_er : ℕ
t_er = 243

abbrev pub t_clnp : ℕ
t_clnp = 244

abbrev pub t_cr : ℕ
t_cr = 281

abbrev pub t_cc : ℕ
t_cc = 282

abbrev pub t_dr : ℕ
t_dr = 283

abbrev pub t_dc : ℕ
t_dc = 284

abbrev pub t_ed : ℕ
t_ed = 285

abbrev pub t_ak : ℕ
t_ak = 286

abbrev pub t_ea : ℕ
t_ea = 287

abbrev pub t_rj : ℕ
t_rj = 288

-- the largest field number and the largest text number
abbrev pub last_field : ℕ
last_field = 90

abbrev pub last_text : ℕ
last_text = 288

pub keys-counted : length keys ≡ last_field
unfolding keys
keys-counted = refl

pub texts-counted : length texts ≡ last_text
unfolding texts
texts-counted = refl

-- each is its own key's or text's number
pub keys-numbered : map key_text (
    k_lcn ∷
    k_kind ∷
    k_ps ∷
    k_pr ∷
    k_more ∷
    k_cause ∷
    k_cause_text ∷
    k_diagnostic ∷
    k_diagnostic_text ∷
    k_facilities ∷
    k_sndcf ∷
    k_protocol ∷
    k_first ∷
    k_payload_len ∷
    k_type ∷
    k_holding_time_s ∷
    k_addresses ∷
    k_options ∷
    k_type_code ∷
    k_value_hex ∷
    k_bispdu_len ∷
    k_sequence ∷
    k_ack ∷
    k_credit_offered ∷
    k_credit_avail ∷
    k_open ∷
    k_update ∷
    k_error_code ∷
    k_error ∷
    k_error_subcode ∷
    k_error_subcode_text ∷
    k_version ∷
    k_hold_time_s ∷
    k_max_pdu_size ∷
    k_src_rdi ∷
    k_withdrawn_routes ∷
    k_value ∷
    k_path_attributes ∷
    k_proto_type ∷
    k_clnp ∷
    k_prefixes ∷
    k_nlri ∷
    k_compression_options ∷
    k_compression_algos ∷
    k_maintenance ∷
    k_code ∷
    k_params ∷
    k_tag_set ∷
    k_class_id ∷
    k_class_name ∷
    k_subnet_id ∷
    k_subnet_name ∷
    k_permitted_traffic_types ∷
    k_classes ∷
    k_traffic_type ∷
    k_category ∷
    k_route_policy ∷
    k_reg_id ∷
    k_sec_info ∷
    k_name ∷
    k_priority ∷
    k_reason ∷
    k_security_format ∷
    k_security_label ∷
    k_lifetime500ms ∷
    k_seg_len ∷
    k_dst_nsap ∷
    k_src_nsap ∷
    k_error_report ∷
    k_more_segments ∷
    k_pdu_id ∷
    k_segment_offset ∷
    k_total_len ∷
    k_segmented ∷
    k_cotp ∷
    k_tpdu_size ∷
    k_tpdu ∷
    k_dst_ref ∷
    k_src_ref ∷
    k_class ∷
    k_reason_text ∷
    k_reject_cause ∷
    k_reject_cause_text ∷
    k_roa ∷
    k_eot ∷
    k_tpdu_seq ∷
    k_credit ∷
    k_extended ∷
    k_user_data_len ∷
    k_tsdu_segment ∷
    []) ≡ keys
unfolding keys
keys-numbered = refl

pub texts-numbered : map text_of (
    t_question ∷
    t_data ∷
    t_call_request ∷
    t_call_accepted ∷
    t_clear_request ∷
    t_reset_request ∷
    t_restart_request ∷
    t_clear_confirmation ∷
    t_reset_confirmation ∷
    t_restart_confirmation ∷
    t_diagnostic ∷
    t_rr ∷
    t_rnr ∷
    t_rej ∷
    t_clnp_compressed ∷
    t_unknown ∷
    t_es_is ∷
    t_esh ∷
    t_ish ∷
    t_rd ∷
    t_idrp ∷
    t_aca ∷
    t_deflate ∷
    t_lref ∷
    t_lref_can ∷
    t_aoc ∷
    t_security_classification ∷
    t_subnet_type ∷
    t_supported_atsc_classes ∷
    t_traffic_type ∷
    t_atn_operational ∷
    t_atsc ∷
    t_atn_administrative ∷
    t_none ∷
    t_atn_system_management ∷
    t_globally_unique ∷
    t_dt ∷
    t_erq ∷
    t_erp ∷
    t_er ∷
    t_clnp ∷
    t_cr ∷
    t_cc ∷
    t_dr ∷
    t_dc ∷
    t_ed ∷
    t_ak ∷
    t_ea ∷
    t_rj ∷
    []) ≡ (
    octets "?" ∷
    octets "data" ∷
    octets "call-request" ∷
    octets "call-accepted" ∷
    octets "clear-request" ∷
    octets "reset-request" ∷
    octets "restart-request" ∷
    octets "clear-confirmation" ∷
    octets "reset-confirmation" ∷
    octets "restart-confirmation" ∷
    octets "diagnostic" ∷
    octets "rr" ∷
    octets "rnr" ∷
    octets "rej" ∷
    octets "clnp-compressed?" ∷
    octets "unknown" ∷
    octets "ES-IS" ∷
    octets "ESH" ∷
    octets "ISH" ∷
    octets "RD" ∷
    octets "IDRP" ∷
    octets "ACA" ∷
    octets "DEFLATE" ∷
    octets "LREF" ∷
    octets "LREF-CAN" ∷
    octets "AOC" ∷
    octets "security_classification" ∷
    octets "subnet_type" ∷
    octets "supported_atsc_classes" ∷
    octets "traffic_type" ∷
    octets "ATN operational" ∷
    octets "ATSC" ∷
    octets "ATN administrative" ∷
    octets "none" ∷
    octets "ATN system management" ∷
    octets "globally-unique" ∷
    octets "DT" ∷
    octets "ERQ" ∷
    octets "ERP" ∷
    octets "ER" ∷
    octets "CLNP" ∷
    octets "CR" ∷
    octets "CC" ∷
    octets "DR" ∷
    octets "DC" ∷
    octets "ED" ∷
    octets "AK" ∷
    octets "EA" ∷
    octets "RJ" ∷
    [])
unfolding texts
texts-numbered = refl
