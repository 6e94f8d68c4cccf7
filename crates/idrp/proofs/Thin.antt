-- How many cells a BISPDU's record has at most, so that an output with that many is never short.
use Rattle.std.specs.Prelude.{Option, Some, None}
use Prim.Native.Nat.{ℕ, zero, suc, ◌+◌, ◌*◌, ◌-◌, ◌≤◌, ◌<◌}
use mathlib.Core.Path.{◌≡◌, refl, sym, ap, subst, ◌∙◌}
use mathlib.Core.List.{List, [], ◌++◌}
use mathlib.Core.Bool.{true, false, ◌&&◌}
use native.Mathlib.Nat.{min-le_left}
use native.Mathlib.Omega.{arith}
use borrow.Author.Tests.{leb-true}
use lib.Dec.{eqb, leb, ltb}
use lib.ListN.{length, get_or, take, drop, length-append, length-take, length-drop}
use Rattle.octets.specs.Read.{be16, be32}
use Rattle.octets.specs.Text.{pick}
use Rattle.octets.proofs.Tests.{and_left, and_right}
use Rattle.octets.proofs.Picks.{pick_elim}
use Rattle.names.specs.Ascii.{octets}
use Rattle.names.specs.Numbers.{k_protocol, k_payload_len, k_bispdu_len, k_type, k_sequence, k_ack, k_credit_offered, k_credit_avail, k_open, k_update, k_error_code, k_error, k_error_subcode, k_error_subcode_text, k_version, k_hold_time_s, k_max_pdu_size, k_src_rdi, k_withdrawn_routes, k_path_attributes, k_type_code, k_value, k_value_hex, k_nlri, k_proto_type, k_clnp, k_prefixes, t_idrp}
use Rattle.codes.specs.Codes.{text_in, idrp_types, idrp_errors, error_subcodes, idrp_attributes}
use Rattle.cells.specs.Items.{Items, none, leaf, group, number, flag, text, part, prefix, word, record_of, in_list, ◌⊕◌, flat}
use Rattle.cells.specs.Answer.{number_of, answer_to}
use Rattle.cells.specs.Walk.{body, Step, step_of, items_from}
use Rattle.cells.specs.declared.entry.Body.{Body}
use Rattle.cells.proofs.Rows.{group-size, in_list_thin}
use Rattle.cells.proofs.Walks.{Thin, thin-from, fuse, flat_walk}
use Rattle.cells.proofs.Answers.{enough, readable}
use Rattle.fields.specs.Member.{opt_text}
use Rattle.fields.proofs.Sizes.{size, rows, empty, one, text-thin}
use Rattle.idrp.specs.Update.{at16, withdrawn, route_items, attributes_at, attributes_from, attributes_end, shown, attribute_value, attribute, attribute_at, attribute_step, attribute_items, attributes_place, prefix_at, prefix_step, prefix_items, nlri_at, is_clnp, nlri, nlri_step, routes_whole, attributes_whole, update_readable, routes_member, attributes_member, nlri_items, update_members}
use Rattle.idrp.specs.Pdu.{open_members, error_members, body_members, number_members, credit_members, head_members, members_of, idrp_cells}
use Rattle.idrp.proofs.Entries.{Attribute, attribute-whole, Prefix, prefix-whole, Nlri, nlri-whole}

-- no more than m cells for each octet from i on
items-thin : (d m : ℕ) (f : ℕ → Step Items) (n i : ℕ) → ((j : ℕ) → j < n → Thin f (size d) m n j (f j)) → size d (items_from f n i) ≤ m * (n - i)
items-thin d m f n i h =
    let e = ap length (flat_walk d f n i) ∙ fuse f (λ n. []) (λ c r. flat d c ++ r) (λ n. 0) (λ c r. length (flat d c) + r) length (λ n. refl) (λ c r. length-append (flat d c) r) n i in
    subst (λ (k : ℕ). k ≤ m * (n - i)) (sym e) (thin-from f (size d) m n h i)

-- ---- withdrawn routes
routes-thin : (d : ℕ) (s : List ℕ) (n p : ℕ) → size d (route_items s n p) ≡ n
unfolding route_items
routes-thin d s zero p = empty d
routes-thin d s (suc n) p =
    let v = word (be32 (get_or s p 0) (get_or s (p + 1) 0) (get_or s (p + 2) 0) (get_or s (p + 3) 0)) in
    omega (arith, rows d (leaf 0 v none) (route_items s n (p + 4)), one d 0 v, routes-thin d s n (p + 4))

routes_member_lem : (d : ℕ) (s : List ℕ) → size d (routes_member s) ≤ withdrawn s + 2
routes_member_lem d s =
    pick_elim (λ (x : Items). size d x ≤ withdrawn s + 2) (eqb (withdrawn s) 0) (λ h. omega (arith, empty d))
    (λ h. omega (arith, group-size d false k_withdrawn_routes (route_items s (withdrawn s) 2), routes-thin (d + 1) s (withdrawn s) 2))

-- ---- path attributes
value-thin : (d base : ℕ) (s : List ℕ) (t i n : ℕ) → size d (attribute_value base s t i n) ≤ 1
value-thin d base s t i n =
    pick_elim (λ (x : Items). size d x ≤ 1) (shown t && eqb n 1) (λ h. omega (arith, one d k_value (number (get_or s i 0))))
    (λ h. pick_elim (λ (x : Items). size d x ≤ 1) (ltb 0 n) (λ h. omega (arith, one d k_value_hex (part (base + i) n))) (λ h. omega (arith, empty d)))

attribute-thin : (d base : ℕ) (s : List ℕ) (t i n : ℕ) → size d (attribute base s t i n) ≤ 5
attribute-thin d base s t i n =
    let x = text (text_in idrp_attributes (octets "unknown") t) in
    let a : Items = leaf k_type x none in
    let b : Items = leaf k_type_code (number t) none in
    let c : Items = attribute_value base s t i n in
    omega (arith, group-size d true 0 (a ⊕ (b ⊕ c)), rows (d + 1) a (b ⊕ c), rows (d + 1) b c, one (d + 1) k_type x, one (d + 1) k_type_code (number t), value-thin (d + 1) base s t i n)

attribute-step : (d base : ℕ) (s : List ℕ) (i : ℕ) (e : Option Body) → Attribute s i e
    → Thin (attribute_step base s) (size d) 2 (length s) i (step_of (λ start n. attribute base s (get_or s (i + 1) 0) start n) e)
attribute-step d base s i None w = tt
attribute-step d base s i (Some b) w = (omega (arith, w.0), w.2, omega (arith, w.0, attribute-thin d base s (get_or s (i + 1) 0) b.start b.len))

pub attributes-thin : (d base : ℕ) (s : List ℕ) → size d (attribute_items base s) ≤ 2 * (length s - attributes_from s)
attributes-thin d base s =
    items-thin d 2 (attribute_step base s) (length s) (attributes_from s) (λ i h. attribute-step d base s i (attribute_at s (attributes_end s) i) (attribute-whole s (attributes_end s) i))

attributes_member_lem : (d base : ℕ) (s : List ℕ) → size d (attributes_member base s) ≤ 2 * (length s - attributes_from s) + 2
attributes_member_lem d base s =
    pick_elim (λ (x : Items). size d x ≤ 2 * (length s - attributes_from s) + 2) (eqb (at16 s (attributes_at s)) 0) (λ h. omega (arith, empty d))
    (λ h. omega (arith, group-size d false k_path_attributes (attribute_items base s), attributes-thin (d + 1) base s))

-- ---- NLRI
prefix-step : (d base : ℕ) (s : List ℕ) (i : ℕ) (e : Option Body) → Prefix s i e
    → Thin (prefix_step base s) (size d) 1 (length s) i (step_of (λ start n. leaf 0 (prefix (base + start) n (get_or s i 0)) none) e)
prefix-step d base s i None w = tt
prefix-step d base s i (Some b) w = (omega (arith, w.0), w.2, omega (arith, w.0, one d 0 (prefix (base + b.start) b.len (get_or s i 0))))

pub prefixes-thin : (d base : ℕ) (s : List ℕ) → size d (prefix_items base s) ≤ length s
prefixes-thin d base s = omega (arith, items-thin d 1 (prefix_step base s) (length s) 0 (λ i h. prefix-step d base s i (prefix_at s i) (prefix-whole s i)))

nlri-thin : (d base : ℕ) (s : List ℕ) (i start n : ℕ) → size d (nlri base s i start n) ≤ n + 6
nlri-thin d base s i start n =
    let t : List ℕ = take n (drop start s) in
    let v = flag (pick (is_clnp s i) 1 0) in
    let a : Items = leaf k_proto_type (number (get_or s i 0)) none in
    let b : Items = leaf k_clnp v none in
    let p : Items = prefix_items (base + start) t in
    let c : Items = group false k_prefixes p none in
    let l : length t ≤ n = omega (arith, length-take n (drop start s), min-le_left n (length (drop start s))) in
    omega (arith, l, group-size d true 0 (a ⊕ (b ⊕ c)), rows (d + 1) a (b ⊕ c), rows (d + 1) b c, one (d + 1) k_proto_type (number (get_or s i 0)), one (d + 1) k_clnp v, group-size (d + 1) false k_prefixes p, prefixes-thin (d + 1 + 1) (base + start) t)

nlri-step : (d base : ℕ) (s : List ℕ) (i : ℕ) (e : Option Body) → Nlri s i e
    → Thin (nlri_step base s) (size d) 2 (length s) i (step_of (λ start n. nlri base s i start n) e)
nlri-step d base s i None w = tt
nlri-step d base s i (Some b) w = (omega (arith, w.0), w.2, omega (arith, w.0, nlri-thin d base s i b.start b.len))

pub nlris_thin : (d base : ℕ) (s : List ℕ) → size d (nlri_items base s) ≤ 2 * length s
nlris_thin d base s =
    omega (arith, items-thin d 2 (nlri_step base s) (length s) (attributes_place s) (λ i h. nlri-step d base s i (nlri_at s i) (nlri-whole s i)))

-- ---- bodies
update_thin : (d base : ℕ) (s : List ℕ) → update_readable s ≡ true → size d (update_members base s) ≤ 4 * length s + 6
unfolding update_members
update_thin d base s h =
    let w : attributes_from s ≤ length s =
    leb-true (attributes_from s) (length s) (and_right (leb 2 (length s)) (leb (attributes_from s) (length s)) (and_left (routes_whole s) (attributes_whole s) h)) in
    let a : Items = routes_member s in
    let b : Items = attributes_member base s in
    let c : Items = in_list k_nlri (nlri_items base s) in
    omega (arith, w, rows d a (b ⊕ c), rows d b c, routes_member_lem d s, attributes_member_lem d base s, in_list_thin d k_nlri (nlri_items base s), nlris_thin (d + 1) base s)

open_thin : (d base : ℕ) (s : List ℕ) → size d (open_members base s) ≤ 4
open_thin d base s =
    let x = number (get_or s 0 0) in
    let y = number (be16 (get_or s 1 0) (get_or s 2 0)) in
    let z = number (be16 (get_or s 3 0) (get_or s 4 0)) in
    let a : Items = leaf k_version x none in
    let b : Items = leaf k_hold_time_s y none in
    let c : Items = leaf k_max_pdu_size z none in
    let r = part (base + 6) (get_or s 5 0) in
    let e : Items = pick (leb (6 + get_or s 5 0) (length s)) (leaf k_src_rdi r none) none in
    let l : size d e ≤ 1 = pick_elim (λ (x : Items). size d x ≤ 1) (leb (6 + get_or s 5 0) (length s)) (λ h. omega (arith, one d k_src_rdi r)) (λ h. omega (arith, empty d)) in
    omega (arith, l, rows d a (b ⊕ (c ⊕ e)), rows d b (c ⊕ e), rows d c e, one d k_version x, one d k_hold_time_s y, one d k_max_pdu_size z)

error_thin : (d : ℕ) (s : List ℕ) → size d (error_members s) ≤ 4
error_thin d s =
    let x = number (get_or s 0 0) in
    let y = text (text_in idrp_errors (octets "?") (get_or s 0 0)) in
    let z = number (get_or s 1 0) in
    let t = text_in (error_subcodes (get_or s 0 0)) [] (get_or s 1 0) in
    let a : Items = leaf k_error_code x none in
    let b : Items = leaf k_error y none in
    let p : Items = leaf k_error_subcode z none in
    let q : Items = opt_text k_error_subcode_text t in
    let c : Items = pick (ltb (length s) 2) none (p ⊕ q) in
    let l : size d c ≤ 2 = pick_elim (λ (x : Items). size d x ≤ 2) (ltb (length s) 2) (λ h. omega (arith, empty d)) (λ h. omega (arith, rows d p q, one d k_error_subcode z, text-thin d k_error_subcode_text t)) in
    omega (arith, l, rows d a (b ⊕ c), rows d b c, one d k_error_code x, one d k_error y)

body-thin : (d t : ℕ) (s : List ℕ) → size d (body_members t s) ≤ 4 * length s + 8
unfolding body_members
body-thin d t s =
    let Few : Items → Type 0 = λ x. size d x ≤ 4 * length s + 8 in
    let no : Few none = omega (arith, empty d) in
    pick_elim Few (eqb (length s) 0) (λ h. no)
    (λ h. pick_elim Few (eqb t 1)
    (λ h. pick_elim Few (ltb (length s) 6) (λ h. no) (λ h. omega (arith, group-size d true k_open (open_members 30 s), open_thin (d + 1) 30 s)))
    (λ h. pick_elim Few (eqb t 2)
    (λ h. pick_elim Few (update_readable s) (λ h. omega (arith, group-size d true k_update (update_members 30 s), update_thin (d + 1) 30 s h)) (λ h. no))
    (λ h. pick_elim Few (eqb t 3) (λ h. omega (arith, error_thin d s)) (λ h. no))))

-- ---- the record
module _ (d : ℕ) (s : List ℕ) where
  numbers-thin : size d (number_members s) ≤ 2
  numbers-thin =
      let x = number (be32 (get_or s 4 0) (get_or s 5 0) (get_or s 6 0) (get_or s 7 0)) in
      let y = number (be32 (get_or s 8 0) (get_or s 9 0) (get_or s 10 0) (get_or s 11 0)) in
      pick_elim (λ (x : Items). size d x ≤ 2) (ltb (length s) 12) (λ h. omega (arith, empty d))
      (λ h. omega (arith, rows d (leaf k_sequence x none) (leaf k_ack y none), one d k_sequence x, one d k_ack y))

  credit_thin : size d (credit_members s) ≤ 2
  credit_thin =
      let x = number (get_or s 12 0) in
      let y = number (get_or s 13 0) in
      pick_elim (λ (x : Items). size d x ≤ 2) (ltb (length s) 14) (λ h. omega (arith, empty d))
      (λ h. omega (arith, rows d (leaf k_credit_offered x none) (leaf k_credit_avail y none), one d k_credit_offered x, one d k_credit_avail y))

  head-thin : size d (head_members s) ≤ 4 * length s + 14
  head-thin =
      let x = number (be16 (get_or s 1 0) (get_or s 2 0)) in
      let y = text (text_in idrp_types (octets "?") (get_or s 3 0)) in
      let a : Items = leaf k_bispdu_len x none in
      let b : Items = leaf k_type y none in
      let e : Items = body_members (get_or s 3 0) (drop 30 s) in
      let others : size d (number_members s ⊕ (credit_members s ⊕ e)) ≤ 4 * length (drop 30 s) + 12 =
      omega (arith, rows d (number_members s) (credit_members s ⊕ e), rows d (credit_members s) e, numbers-thin, credit_thin, body-thin d (get_or s 3 0) (drop 30 s)) in
      omega (arith, others, rows d a (b ⊕ (number_members s ⊕ (credit_members s ⊕ e))), rows d b (number_members s ⊕ (credit_members s ⊕ e)), one d k_bispdu_len x, one d k_type y, length-drop 30 s)

pub record_thin : (s : List ℕ) → length (flat 0 (record_of (members_of s))) ≤ 4 * length s + 64
unfolding members_of
record_thin s =
    let a : Items = leaf k_protocol (text t_idrp) none in
    let b : Items = leaf k_payload_len (number (length s)) none in
    let c : Items = pick (ltb (length s) 4) none (head_members s) in
    let l : size 1 c ≤ 4 * length s + 14 = pick_elim (λ (x : Items). size 1 x ≤ 4 * length s + 14) (ltb (length s) 4) (λ h. omega (arith, empty 1)) (λ h. head-thin 1 s) in
    omega (arith, l, group-size 0 true 0 (members_of s), rows 1 a (b ⊕ c), rows 1 b c, one 1 k_protocol (text t_idrp), one 1 k_payload_len (number (length s)))

pub idrp_thin : (s : List ℕ) → length (idrp_cells s) ≤ 4 * length s + 64
unfolding idrp_cells
idrp_thin s = record_thin s

-- with four cells for each octet and 64 more the answer is not 10
pub never_short : (s : List ℕ) (room : ℕ) → 4 * length s + 64 ≤ room → number_of (answer_to (length s) (idrp_cells s) room) ≡ 10 → ⊥
never_short s room h e = enough (length s) (idrp_cells s) room (omega (arith, idrp_thin s)) e

-- and no input is unreadable
pub some-cells : (s : List ℕ) → 0 < length (idrp_cells s)
unfolding idrp_cells
some-cells s = omega (arith, group-size 0 true 0 (members_of s))

pub never_unreadable : (s : List ℕ) (room : ℕ) → number_of (answer_to (length s) (idrp_cells s) room) ≡ 15 → ⊥
never_unreadable s room = readable (length s) (idrp_cells s) room (some-cells s)
