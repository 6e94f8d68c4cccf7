-- The members of a PDU's record, and what its octets have of them.
use Prim.Native.Nat.{ℕ, ◌+◌, ◌-◌, ◌%◌, ◌≤◌, ◌<◌}
use mathlib.Core.Path.{◌≡◌, refl, ap, ◌∙◌}
use mathlib.Core.List.{List, []}
use mathlib.Core.Bool.{true, ◌&&◌}
use native.Mathlib.Omega.{arith}
use lib.ListN.{length, get_or, take, drop}
use Rattle.std.specs.Prelude.{Option, Some, None}
use Rattle.octets.specs.Read.{be16}
use Rattle.octets.proofs.Tests.{no_true, and_left, and_right}
use Rattle.octets.proofs.Picks.{pick_elim}
use Rattle.names.specs.Numbers.{k_protocol, k_type, k_version, k_lifetime500ms, k_seg_len, k_options, t_clnp}
use Rattle.cells.specs.Items.{Items, none, leaf, number, text, in_list, ◌⊕◌}
use Rattle.cells.proofs.Walks.{over}
use Rattle.clnp.specs.Segment.{behind, seg_at, address_ok, addresses_of}
use Rattle.clnp.specs.Options.{option_step, option_items}
use Rattle.clnp.specs.Pdu.{type_of, flag_members, options_at, option_part, data_member, address_members, members_of, has_addresses}
use Rattle.clnp.specs.declared.segment.Addresses.{Addresses}
use Rattle.clnp.proofs.Headers.{there}

-- ---- addresses lie within the octets
abbrev pub Inside : List ℕ → Option Addresses → Type 0
Inside s None = Unit
Inside s (Some a) = (a.dst + a.dstlen ≤ length s) × (a.src + a.srclen ≤ length s)

pub inside : (s : List ℕ) → Inside s (addresses_of s)
unfolding addresses_of
inside s =
    pick_elim (Inside s) (address_ok s 9 && address_ok s (behind s 9))
    (λ e. ((there s 9 (and_left (address_ok s 9) (address_ok s (behind s 9)) e)).1, (there s (behind s 9) (and_right (address_ok s 9) (address_ok s (behind s 9)) e)).1)) (λ e. tt)

abbrev Reached : List ℕ → Type 0
Reached s = (9 < length s) × (behind s 9 < length s) × (seg_at s ≤ length s)

pub reached : (s : List ℕ) → has_addresses (addresses_of s) ≡ true → Reached s
unfolding addresses_of
reached s =
    pick_elim (λ (a : Option Addresses). has_addresses a ≡ true → Reached s) (address_ok s 9 && address_ok s (behind s 9))
    (λ e h. let p = there s (behind s 9) (and_right (address_ok s 9) (address_ok s (behind s 9)) e) in ((there s 9 (and_left (address_ok s 9) (address_ok s (behind s 9)) e)).0, p.0, p.1)) (λ e h. no_true h)

module _ (s : List ℕ) where
  -- ---- options
  pub no_options : get_or s 1 0 ≤ options_at s → in_list k_options (option_items (options_at s) (option_part s)) ≡ none
  no_options h =
      let z : get_or s 1 0 - options_at s ≡ 0 = omega (arith, h) in
      ap (λ (k : ℕ). in_list k_options (option_items (options_at s) (take k (drop (options_at s) s)))) z ∙ ap (in_list k_options) (over (option_step (options_at s) []) (λ n. none) ◌⊕◌ 0 0 (omega arith))

  -- ---- all of them
  abbrev pub head_of : Items
  head_of =
      leaf k_protocol (text t_clnp) none ⊕ (leaf k_type (text (type_of (get_or s 4 0 % 32))) none ⊕ (leaf k_version (number (get_or s 2 0)) none
      ⊕ (leaf k_lifetime500ms (number (get_or s 3 0)) none ⊕ leaf k_seg_len (number (be16 (get_or s 5 0) (get_or s 6 0))) none)))

  abbrev pub options_of : Items
  options_of = in_list k_options (option_items (options_at s) (option_part s))

  abbrev pub rest_of : Items
  rest_of = flag_members s ⊕ (options_of ⊕ data_member s)

  pub members_are : head_of ⊕ (address_members (addresses_of s) ⊕ rest_of) ≡ members_of s
  unfolding members_of
  members_are = refl
