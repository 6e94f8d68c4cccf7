-- What holds of every kind of packet holds of the packet that is read.
use Rattle.std.specs.Prelude.{Option, Some, None}
use Prim.Native.Nat.{ℕ, ◌+◌, ◌/◌, ◌%◌, ◌≤◌, ◌<◌}
use mathlib.Core.Path.{◌≡◌, refl}
use mathlib.Core.List.{List}
use mathlib.Core.Bool.{true, not}
use native.Mathlib.Nat.{min-le_right}
use native.Mathlib.Omega.{arith}
use borrow.Author.Tests.{leb-true, ltb-false}
use lib.Dec.{ltb, leb, eqb}
use lib.ListN.{length, get_or}
use Rattle.octets.proofs.Picks.{pick_elim}
use Rattle.names.specs.Numbers.{last_text, t_call_request, t_call_accepted, t_clear_request, t_reset_request, t_restart_request, t_clear_confirmation, t_reset_confirmation, t_restart_confirmation, t_rr, t_rnr, t_rej}
use Rattle.codes.specs.Codes.{Row, clear_causes, reset_causes, restart_causes}
use Rattle.x25.specs.Sndcf.{field_at}
use Rattle.x25.specs.Packet.{octet_at, plain, unreadable, lcn_of, data_of, received, request_of, diagnostic_of, fac_pos, fac_end, fac_read, call_with, has_facilities, with_field, call_request, call_accepted, by_type, packet_of}
use Rattle.x25.specs.declared.sndcf.Field.{Field}
use Rattle.x25.specs.declared.packet.Packet.{Packet}
use Rattle.x25.proofs.ByType.{has-length}

-- the number of a text
abbrev pub Named : ℕ → Type 0
Named k = (0 < k) × (k ≤ last_text)

-- an octet of s
pub record Held (s : List ℕ) (v : ℕ) : Type 0 where
  pub place : ℕ
  pub is : v ≡ get_or s place 0

abbrev pub From : List ℕ → Option ℕ → Type 0
From s None = Unit
From s (Some v) = Held s v

pub octet-from : (s : List ℕ) (i : ℕ) → From s (octet_at s i)
octet-from s i = pick_elim (From s) (ltb i (length s)) (λ h. record { place = i; is = refl }) (λ h. tt)

abbrev FieldFrom : List ℕ → Option Field → Type 0
FieldFrom s None = Unit
FieldFrom s (Some f) = Held s f.octet

field-from : (s : List ℕ) (p : ℕ) → FieldFrom s (field_at s p)
unfolding field_at
field-from s p =
    pick_elim (FieldFrom s) (ltb (length s) (p + 2)) (λ h. tt)
    (λ h. pick_elim (FieldFrom s) (not (eqb (get_or s p 0) 0xC1)) (λ h. tt)
    (λ h. pick_elim (FieldFrom s) (ltb (get_or s (p + 1) 0) 4) (λ h. tt)
    (λ h. pick_elim (FieldFrom s) (ltb (length s) (p + 2 + get_or s (p + 1) 0)) (λ h. tt)
    (λ h. pick_elim (FieldFrom s) (not (eqb (get_or s (p + 2) 0) 1)) (λ h. tt) (λ h. record { place = p + 5; is = refl })))))

module _ (P : Packet → Type 0) (s : List ℕ) (nothing : P (unreadable (length s))) (data-packet : 2 < length s → P (data_of s (get_or s 2 0)))
    (bare : (k : ℕ) → Named k → P (plain k (lcn_of s) (length s))) (counted : (k : ℕ) → Named k → P (received k s (get_or s 2 0)))
    (request : (k : ℕ) (rows : List Row) → Named k → P (request_of k rows s)) (told : P (diagnostic_of s))
    (call : (k : ℕ) → Named k → has_facilities s ≡ true → (o : Option ℕ) → From s o → (v pos : ℕ) → v ≤ 1 → P (call_with k s o v pos)) where
  with-field : (f : Option Field) → FieldFrom s f → has_facilities s ≡ true → P (with_field s f)
  with-field None g h = call t_call_request (omega arith, omega arith) h None tt 0 (fac_end s) (omega arith)
  with-field (Some f) g h = call t_call_request (omega arith, omega arith) h (Some f.octet) g 1 f.end (omega arith)

  requested : P (call_request s)
  requested = pick_elim P (has_facilities s) (with-field (field_at s (fac_end s)) (field-from s (fac_end s))) (λ h. bare t_call_request (omega arith, omega arith))

  accepted : P (call_accepted s)
  accepted =
      pick_elim P (has_facilities s) (λ h. call t_call_accepted (omega arith, omega arith) h (octet_at s (fac_end s)) (octet-from s (fac_end s)) 0 (fac_end s + 1) (omega arith))
      (λ h. bare t_call_accepted (omega arith, omega arith))

  by-type : 2 < length s → P (by_type s (get_or s 2 0))
  unfolding by_type
  by-type l =
      let t = get_or s 2 0 in
      pick_elim P (eqb (t % 2) 0) (λ h. data-packet l)
      (λ h. pick_elim P (eqb t 0x0B) (λ h. requested)
      (λ h. pick_elim P (eqb t 0x0F) (λ h. accepted)
      (λ h. pick_elim P (eqb t 0x13) (λ h. request t_clear_request clear_causes (omega arith, omega arith))
      (λ h. pick_elim P (eqb t 0x1B) (λ h. request t_reset_request reset_causes (omega arith, omega arith))
      (λ h. pick_elim P (eqb t 0xFB) (λ h. request t_restart_request restart_causes (omega arith, omega arith))
      (λ h. pick_elim P (eqb t 0x17) (λ h. bare t_clear_confirmation (omega arith, omega arith))
      (λ h. pick_elim P (eqb t 0x1F) (λ h. bare t_reset_confirmation (omega arith, omega arith))
      (λ h. pick_elim P (eqb t 0xFF) (λ h. bare t_restart_confirmation (omega arith, omega arith))
      (λ h. pick_elim P (eqb t 0xF1) (λ h. told)
      (λ h. pick_elim P (eqb (t % 32) 1) (λ h. counted t_rr (omega arith, omega arith))
      (λ h. pick_elim P (eqb (t % 32) 5) (λ h. counted t_rnr (omega arith, omega arith))
      (λ h. pick_elim P (eqb (t % 32) 9) (λ h. counted t_rej (omega arith, omega arith)) (λ h. nothing)))))))))))))

  pub every : P (packet_of s)
  unfolding packet_of
  every =
      pick_elim P (ltb (length s) 3) (λ h. nothing)
      (λ h. let l : 3 ≤ length s = ltb-false (length s) 3 h in pick_elim P (eqb (get_or s 0 0 / 16 % 4) 1) (λ h. by-type (omega arith)) (λ h. nothing))

-- the facilities and the payload lie within the octets
abbrev pub Fits : List ℕ → Packet → Type 0
Fits s x = (x.facat + x.faclen ≤ length s) × (x.payload ≤ length s)

pub part-within : (s : List ℕ) → has_facilities s ≡ true → fac_pos s + 1 + fac_read s ≤ length s
part-within s h =
    pick_elim (λ (n : ℕ). fac_pos s + 1 + n ≤ length s) (leb (fac_end s) (length s)) (λ t. leb-true (fac_end s) (length s) t) (λ t. omega (arith, has-length s h))

pub fits : (s : List ℕ) → Fits s (packet_of s)
fits s =
    every (Fits s) s (omega arith, omega arith) (λ l. (omega arith, omega arith)) (λ k n. (omega arith, omega arith)) (λ k n. (omega arith, omega arith))
    (λ k rows n. (omega arith, omega arith)) (omega arith, omega arith) (λ k n h o g v pos u. (part-within s h, min-le_right pos (length s)))
