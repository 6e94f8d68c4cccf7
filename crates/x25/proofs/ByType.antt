-- Packets by their third octet: the tests apart from each other.
use Prim.Native.Nat.{ℕ, ◌%◌, ◌≤◌, ◌<◌}
use Rattle.std.specs.Prelude.{Option, Some, None}
use mathlib.Core.Path.{◌≡◌, refl, sym, ap, ◌∙◌}
use mathlib.Core.List.{List}
use mathlib.Core.Bool.{true}
use native.Mathlib.Omega.{arith}
use borrow.Author.Tests.{eq-eqb, ne_eqb, ltb-true}
use lib.Dec.{eqb, ltb}
use lib.ListN.{length}
use Rattle.octets.specs.Text.{pick}
use Rattle.octets.proofs.Tests.{and_left, and_right}
use Rattle.octets.proofs.Picks.{pick_elim}
use Rattle.names.specs.Numbers.{t_call_request, t_rr, t_rnr, t_rej}
use Rattle.x25.specs.Sndcf.{field_at}
use Rattle.x25.specs.Packet.{data_of, received, unreadable, fac_pos, fac_end, has_facilities, with_field, call_request, call_accepted, by_type, known}
use Rattle.x25.specs.declared.packet.Packet.{Packet}
use Rattle.x25.specs.declared.sndcf.Field.{Field}

pub has_block : (s : List ℕ) → has_facilities s ≡ true → 3 < length s
has_block s h = ltb-true 3 (length s) (and_left (ltb 3 (length s)) (ltb (fac_pos s) (length s)) h)

pub has-length : (s : List ℕ) → has_facilities s ≡ true → fac_pos s < length s
has-length s h = ltb-true (fac_pos s) (length s) (and_right (ltb 3 (length s)) (ltb (fac_pos s) (length s)) h)

module _ (s : List ℕ) (t : ℕ) where
  pub is_data : t % 2 ≡ 0 → by_type s t ≡ data_of s t
  unfolding by_type
  is_data h = simp (eq-eqb (t % 2) 0 h)

  -- none of the nine kinds with an octet of their own, and no data
  abbrev pub Others : Type 0
  Others = (0 < t % 2) × (t ≡ 0x0B → ⊥) × (t ≡ 0x0F → ⊥) × (t ≡ 0x13 → ⊥) × (t ≡ 0x1B → ⊥) × (t ≡ 0xFB → ⊥) × (t ≡ 0x17 → ⊥) × (t ≡ 0x1F → ⊥) × (t ≡ 0xFF → ⊥) × (t ≡ 0xF1 → ⊥)

  pub others : Others → by_type s t ≡ pick (eqb (t % 32) 1) (received t_rr s t) (pick (eqb (t % 32) 5) (received t_rnr s t) (pick (eqb (t % 32) 9) (received t_rej s t) (unreadable (length s))))
  unfolding by_type
  others h =
      let odd : t % 2 ≡ 0 → ⊥ = λ z. omega (arith, h.0, z) in
      simp (ne_eqb (t % 2) 0 odd, ne_eqb t 0x0B h.1, ne_eqb t 0x0F h.2, ne_eqb t 0x13 h.3, ne_eqb t 0x1B h.4, ne_eqb t 0xFB h.5, ne_eqb t 0x17 h.6, ne_eqb t 0x1F h.7, ne_eqb t 0xFF h.8, ne_eqb t 0xF1 h.9)

  apart : (k : ℕ) → t % 32 ≡ k → k ≤ 9 → 0 < k % 2 → Others
  apart k e l h =
      (omega arith, λ z. omega (arith, z, e), λ z. omega (arith, z, e), λ z. omega (arith, z, e), λ z. omega (arith, z, e), λ z. omega (arith, z, e), λ z. omega (arith, z, e), λ z. omega (arith, z, e), λ z. omega (arith, z, e), λ z. omega (arith, z, e))

  pub is-rr : t % 32 ≡ 1 → by_type s t ≡ received t_rr s t
  is-rr e = others (apart 1 e (omega arith) (omega arith)) ∙ simp (eq-eqb (t % 32) 1 e)

  pub is-rnr : t % 32 ≡ 5 → by_type s t ≡ received t_rnr s t
  is-rnr e = let n : t % 32 ≡ 1 → ⊥ = λ z. omega (arith, z, e) in others (apart 5 e (omega arith) (omega arith)) ∙ simp (ne_eqb (t % 32) 1 n, eq-eqb (t % 32) 5 e)

  pub is-rej : t % 32 ≡ 9 → by_type s t ≡ received t_rej s t
  is-rej e =
      let n : t % 32 ≡ 1 → ⊥ = λ z. omega (arith, z, e) in
      let m : t % 32 ≡ 5 → ⊥ = λ z. omega (arith, z, e) in
      others (apart 9 e (omega arith) (omega arith)) ∙ simp (ne_eqb (t % 32) 1 n, ne_eqb (t % 32) 5 m, eq-eqb (t % 32) 9 e)

  pub is_none : Others → (t % 32 ≡ 1 → ⊥) → (t % 32 ≡ 5 → ⊥) → (t % 32 ≡ 9 → ⊥) → by_type s t ≡ unreadable (length s)
  is_none h a b c = others h ∙ simp (ne_eqb (t % 32) 1 a, ne_eqb (t % 32) 5 b, ne_eqb (t % 32) 9 c)

-- a packet whose kind is not 0 is known
pub known-is : {r x : Packet} → r ≡ x → (x.kind ≡ 0 → ⊥) → Some r ≡ known x
known-is {r} {x} e h = ap Some e ∙ sym (simp (ne_eqb x.kind 0 h))

called-kind : (s : List ℕ) (f : Option Field) → (with_field s f).kind ≡ t_call_request
called-kind s None = refl
called-kind s (Some f) = refl

pub request-known : (s : List ℕ) → (call_request s).kind ≡ 0 → ⊥
request-known s =
    pick_elim (λ (x : Packet). x.kind ≡ 0 → ⊥) (has_facilities s) (λ h z. omega (arith, z, called-kind s (field_at s (fac_end s)))) (λ h z. omega (arith, z))

pub accepted-known : (s : List ℕ) → (call_accepted s).kind ≡ 0 → ⊥
accepted-known s = pick_elim (λ (x : Packet). x.kind ≡ 0 → ⊥) (has_facilities s) (λ h z. omega (arith, z)) (λ h z. omega (arith, z))
