-- PDUs that are laid out as ISO 9542 draws them are read as what was laid out.
use Prim.Native.Nat.{ℕ, ◌+◌, ◌≤◌, ◌<◌}
use mathlib.Core.List.{List, [], ◌∷◌, ◌++◌}
use mathlib.Core.Path.{◌≡◌, refl, sym, ap, ap₂, ◌∙◌}
use native.Mathlib.Omega.{arith}
use lib.ListN.{length, get_or, drop, length-append}
use Rattle.octets.specs.Read.{be16}
use Rattle.octets.proofs.Stands.{two_back, next}
use Rattle.names.specs.Numbers.{k_protocol, k_payload_len, k_type, k_holding_time_s, k_addresses, k_options, t_es_is}
use Rattle.cells.specs.Items.{Items, none, leaf, number, text, in_list, ◌⊕◌}
use Rattle.esis.specs.Pdu.{type_code, type_of, address_items, address_end, address_count, addresses_at, option_items, options_at, option_member, members_of}
use Rattle.esis.specs.Layout.{Fields, Right, laid, addresses_laid, addresses_read, AddressesStand, Short, Option, options_laid, options_read, OptionsStand, esh_laid, ish_laid, record_read, esh_read, ish_read}
use Rattle.esis.proofs.Addresses.{items-zero}
use Rattle.esis.proofs.Records.{count_esh, count_ish, count_none, place_esh, place_other, options_from, member_read_esh, member_read_ish, member_none, addresses_of, long_members}
use Rattle.esis.proofs.AddressesLaid.{one_laid, items-all, end-all, items-long, end-long, rest-long, addresses_stand}
use Rattle.esis.proofs.OptionsLaid.{options-walk, options_stand}

-- ---- the fixed part
pub record HeadRead (s : List ℕ) (f : Fields) (rest : List ℕ) : Type 0 where
  pub type : type_code s ≡ f.type
  pub holding : be16 (get_or s 5 0) (get_or s 6 0) ≡ f.holding
  pub behind : drop 9 s ≡ rest
  pub long : length s ≡ 9 + length rest

pub head-back : (f : Fields) (rest : List ℕ) → Right f → HeadRead (laid f rest) f rest
head-back f rest r = record { type = omega (arith, r.type); holding = two_back f.holding [] r.holding; behind = refl; long = omega arith }

-- the record, by its fixed part
told : (s : List ℕ) (f : Fields) (rest : List ℕ) → HeadRead s f rest → members_of s ≡ record_read f (length s) (addresses_of s ⊕ option_member s)
told s f rest h =
    let whole : ℕ → ℕ → Items = λ (t n : ℕ). leaf k_protocol (text t_es_is) none ⊕ (leaf k_payload_len (number (length s)) none ⊕ (leaf k_type (text (type_of t)) none ⊕ (leaf k_holding_time_s (number n) none ⊕ (addresses_of s ⊕ option_member s)))) in
    sym (long_members s (omega (arith, h.long))) ∙ ap₂ whole h.type h.holding

-- ---- an ESH
module _ (f : Fields) (rest : List ℕ) (n : ℕ) (r : Right f) (esh : f.type ≡ 2) where
  abbrev s : List ℕ
  s = laid f (n ∷ rest)

  esh_type : type_code s ≡ 2
  esh_type = (head-back f (n ∷ rest) r).type ∙ esh

  pub esh_count : address_count s ≡ n
  esh_count = sym (count_esh s esh_type)

  pub esh_place : addresses_at s ≡ 10
  esh_place = sym (place_esh s esh_type (omega arith))

  pub esh_items : address_items s (address_count s) (addresses_at s) ≡ address_items s n 10
  esh_items = ap₂ (address_items s) esh_count esh_place

  pub esh_end : options_at s ≡ address_end s n 10
  esh_end = ap₂ (address_end s) esh_count esh_place

module _ (f : Fields) (more : List (List ℕ)) (os : List Option) where
  abbrev esh_rest : List ℕ
  esh_rest = addresses_laid more ++ options_laid os

  pub esh_addresses : AddressesStand (esh_laid f more os) 10 more
  esh_addresses = addresses_stand (esh_laid f more os) more (options_laid os) 10 refl

  esh_behind : drop (10 + length (addresses_laid more)) (esh_laid f more os) ≡ options_laid os
  esh_behind = next (esh_laid f more os) (addresses_laid more) (options_laid os) 10 refl

  pub esh_options : OptionsStand (esh_laid f more os) (10 + length (addresses_laid more)) os
  esh_options = options_stand (esh_laid f more os) os (10 + length (addresses_laid more)) esh_behind

  pub esh_back : Right f → f.type ≡ 2 → Short more → members_of (esh_laid f more os) ≡ esh_read f more os
  esh_back r esh h =
      let s : List ℕ = esh_laid f more os in
      let n : ℕ = length more in
      let p : ℕ = 10 + length (addresses_laid more) in
      let at : options_at s ≡ p = esh_end f esh_rest n r esh ∙ end-all s more (options_laid os) 10 h refl in
      let a : addresses_of s ≡ in_list k_addresses (addresses_read 10 more) = ap (in_list k_addresses) (esh_items f esh_rest n r esh ∙ items-all s more (options_laid os) 10 h refl) in
      let o : option_member s ≡ in_list k_options (options_read p os) =
      member_read_esh s (esh_type f esh_rest n r esh) ∙ ap (options_from s) at ∙ ap (in_list k_options) (ap (option_items p) esh_behind ∙ options-walk p os) in
      told s f (n ∷ esh_rest) (head-back f (n ∷ esh_rest) r) ∙ ap₂ (λ (x y : Items). record_read f (length s) (x ⊕ y)) a o

-- ---- an ISH
module _ (f : Fields) (rest : List ℕ) (r : Right f) (ish : f.type ≡ 4) where
  abbrev t : List ℕ
  t = laid f rest

  ish_type : type_code t ≡ 4
  ish_type = (head-back f rest r).type ∙ ish

  not_esh : type_code t ≡ 2 → ⊥
  not_esh e = omega (arith, e, ish_type)

  pub ish_items : address_items t (address_count t) (addresses_at t) ≡ address_items t 1 9
  ish_items = ap₂ (address_items t) (sym (count_ish t not_esh ish_type)) (sym (place_other t not_esh))

  pub ish_end : options_at t ≡ address_end t 1 9
  ish_end = ap₂ (address_end t) (sym (count_ish t not_esh ish_type)) (sym (place_other t not_esh))

one-short : (a : List ℕ) → length a ≤ 20 → Short (a ∷ [])
unfolding Short
one-short a h = (h, tt)

one-length : (a : List ℕ) → 9 + length (addresses_laid (a ∷ [])) ≡ 10 + length a
unfolding addresses_laid
one-length a = omega (arith, length-append (one_laid a) [])

module _ (f : Fields) (net : List ℕ) (os : List Option) where
  abbrev only : List (List ℕ)
  only = net ∷ []

  abbrev ish_rest : List ℕ
  ish_rest = addresses_laid only ++ options_laid os

  pub ish_addresses : AddressesStand (ish_laid f net os) 9 only
  ish_addresses = addresses_stand (ish_laid f net os) only (options_laid os) 9 refl

  ish_behind : drop (10 + length net) (ish_laid f net os) ≡ options_laid os
  ish_behind = ap (λ (k : ℕ). drop k (ish_laid f net os)) (sym (one-length net)) ∙ next (ish_laid f net os) (addresses_laid only) (options_laid os) 9 refl

  pub ish_options : OptionsStand (ish_laid f net os) (10 + length net) os
  ish_options = options_stand (ish_laid f net os) os (10 + length net) ish_behind

  pub ish_back : Right f → f.type ≡ 4 → length net ≤ 20 → members_of (ish_laid f net os) ≡ ish_read f net os
  ish_back r ish h =
      let s : List ℕ = ish_laid f net os in
      let p : ℕ = 10 + length net in
      let at : options_at s ≡ p = ish_end f ish_rest r ish ∙ end-all s only (options_laid os) 9 (one-short net h) refl ∙ one-length net in
      let a : addresses_of s ≡ in_list k_addresses (addresses_read 9 only) = ap (in_list k_addresses) (ish_items f ish_rest r ish ∙ items-all s only (options_laid os) 9 (one-short net h) refl) in
      let o : option_member s ≡ in_list k_options (options_read p os) =
      member_read_ish s (not_esh f ish_rest r ish) (ish_type f ish_rest r ish) ∙ ap (options_from s) at ∙ ap (in_list k_options) (ap (option_items p) ish_behind ∙ options-walk p os) in
      told s f ish_rest (head-back f ish_rest r) ∙ ap₂ (λ (x y : Items). record_read f (length s) (x ⊕ y)) a o

-- ---- others: no address and no option is read
pub other-back : (f : Fields) (rest : List ℕ) → Right f → (f.type ≡ 2 → ⊥) → (f.type ≡ 4 → ⊥) → members_of (laid f rest) ≡ record_read f (9 + length rest) none
other-back f rest r h k =
    let s : List ℕ = laid f rest in
    let w = head-back f rest r in
    let no-esh : type_code s ≡ 2 → ⊥ = λ e. h (sym w.type ∙ e) in
    let no-ish : type_code s ≡ 4 → ⊥ = λ e. k (sym w.type ∙ e) in
    let a : addresses_of s ≡ none = ap (in_list k_addresses) (ap (λ (n : ℕ). address_items s n (addresses_at s)) (sym (count_none s no-esh no-ish)) ∙ items-zero s (addresses_at s)) in
    told s f rest w ∙ ap₂ (λ (x y : Items). record_read f (length s) (x ⊕ y)) a (sym (member_none s no-esh no-ish)) ∙ ap (λ (n : ℕ). record_read f n none) w.long

-- ---- an address over 20 octets: it and what follows is not read as addresses, and options are read from inside it on
module _ (f : Fields) (count : ℕ) (before : List (List ℕ)) (a rest : List ℕ) (r : Right f) (esh : f.type ≡ 2) (short : Short before) (over : 20 < length a)
    (counted : length before < count) where
  abbrev long_rest : List ℕ
  long_rest = addresses_laid before ++ (one_laid a ++ rest)

  abbrev pub esh_long : List ℕ
  esh_long = laid f (count ∷ long_rest)

  pub esh_long-addresses : address_items esh_long (address_count esh_long) (addresses_at esh_long) ≡ addresses_read 10 before
  esh_long-addresses = esh_items f long_rest count r esh ∙ items-long esh_long before a rest 10 count short over counted refl

  pub esh_long-at : options_at esh_long ≡ 10 + length (addresses_laid before) + 1
  esh_long-at = esh_end f long_rest count r esh ∙ end-long esh_long before a rest 10 count short over counted refl

  pub esh_long-rest : drop (options_at esh_long) esh_long ≡ a ++ rest
  esh_long-rest = ap (λ (k : ℕ). drop k esh_long) esh_long-at ∙ rest-long esh_long before a rest 10 count short over counted refl

none-short : Short []
unfolding Short
none-short = tt

none-laid : addresses_laid [] ≡ []
unfolding addresses_laid
none-laid = refl

none_read : (p : ℕ) → addresses_read p [] ≡ none
unfolding addresses_read
none_read p = refl

module _ (f : Fields) (a rest : List ℕ) (r : Right f) (ish : f.type ≡ 4) (over : 20 < length a) where
  abbrev pub ish_long : List ℕ
  ish_long = laid f (one_laid a ++ rest)

  here : drop 9 ish_long ≡ addresses_laid [] ++ (one_laid a ++ rest)
  here = ap (λ (l : List ℕ). l ++ (one_laid a ++ rest)) (sym none-laid)

  pub ish_long-addresses : address_items ish_long (address_count ish_long) (addresses_at ish_long) ≡ none
  ish_long-addresses = ish_items f (one_laid a ++ rest) r ish ∙ items-long ish_long [] a rest 9 1 none-short over (omega arith) here ∙ none_read 9

  pub ish_long-at : options_at ish_long ≡ 10
  ish_long-at =
      let z : 9 + length (addresses_laid []) + 1 ≡ 10 = omega (arith, ap length none-laid) in
      ish_end f (one_laid a ++ rest) r ish ∙ end-long ish_long [] a rest 9 1 none-short over (omega arith) here ∙ z

  pub ish_long-rest : drop (options_at ish_long) ish_long ≡ a ++ rest
  ish_long-rest = ap (λ (k : ℕ). drop k ish_long) ish_long-at
