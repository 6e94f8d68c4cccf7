-- The options of a CLNP header: `parse_clnp_options`.
use Rattle.std.specs.Prelude.{ℕ, ◌+◌, ◌-◌, true, ◌&&◌, List, [], ltb, eqb, length, get_or, take, drop}
use Rattle.octets.specs.Text.{pick}
use Rattle.names.specs.Numbers.{k_code, k_name, k_priority, k_reason, k_security_format, k_security_label, k_value_hex, t_globally_unique}
use Rattle.codes.specs.Codes.{text_in, clnp_options}
use Rattle.cells.specs.Items.{Items, none, leaf, group, number, octet, text, part, ◌⊕◌}
use Rattle.cells.specs.Walk.{Step, step_of, items_from, left_from}
use Rattle.fields.specs.Tlv.{tlv_at}
use Rattle.fields.specs.Member.{opt_text}
use Rattle.clnp.specs.Label.{label_members}

-- a label of the globally unique format, in n octets behind place i
abbrev pub secured : ℕ → List ℕ → ℕ → ℕ → Items
secured base s i n =
    leaf k_security_format (text t_globally_unique) none ⊕ group true k_security_label (label_members (base + i + 1) (take (n - 1) (drop (i + 1) s))) none

-- the value of an option of type t, n octets at place i of s, which stands at place base of the input
unfoldable pub option_value : ℕ → List ℕ → ℕ → ℕ → ℕ → Items
option_value base s t i n =
    let v = get_or s i 0 in
    pick (eqb t 0xCD && eqb n 1) (leaf k_priority (number v) none)
    (pick (eqb t 0xC1 && eqb n 1) (leaf k_reason (number v) none)
    (pick (eqb t 0xC5 && (ltb 0 n && eqb v 0xC0)) (secured base s i n) (leaf k_value_hex (part (base + i) n) none)))

abbrev pub option : ℕ → List ℕ → ℕ → ℕ → ℕ → Items
option base s t i n = group true 0 (leaf k_code (octet t) none ⊕ (opt_text k_name (text_in clnp_options [] t) ⊕ option_value base s t i n)) none

abbrev pub option_step : ℕ → List ℕ → ℕ → Step Items
option_step base s i = step_of (λ start n. option base s (get_or s i 0) start n) (tlv_at s i)

-- the options of a part, and how many of its octets are left unread
abbrev pub option_items : ℕ → List ℕ → Items
option_items base s = items_from (option_step base s) (length s) 0

abbrev pub option_left : List ℕ → ℕ
option_left s = left_from (option_step 0 s) (length s) 0
