-- What a packet that was read holds, and where its payload starts.
use Prim.Native.Nat.{ℕ, ◌≤◌}
use Rattle.std.specs.Prelude.{Option, Some, None, Ok, Err}
use mathlib.Core.Path.{◌≡◌, refl, sym, ap, subst}
use mathlib.Core.Bool.{Bool, true, false}
use mathlib.Core.List.{List}
use native.Mathlib.Omega.{arith}
use lib.Dec.{eqb, ltb}
use lib.ListN.{length}
use Rattle.octets.specs.Text.{pick}
use Rattle.octets.proofs.Picks.{pick_elim}
use Rattle.cells.specs.Answer.{Answer, number_of, answer_to}
use Rattle.cells.specs.declared.answer.Refusal.TheVariants.{TooLong, Unreadable, Short}
use Rattle.x25.specs.Packet.{packet_of, read_of, payload_by, payload_for, x25_answer}
use Rattle.x25.proofs.Cells.{unread, was-read}
use Rattle.x25.specs.declared.packet.Packet.{Packet}
use Rattle.x25.proofs.Cases.{Fits, fits}

module _ (s : List ℕ) (x : Packet) (e : x ≡ packet_of s) where
  pub fits_read : Fits s x
  fits_read = subst (Fits s) (sym e) (fits s)

-- nothing that was read is no answer 0
no_answer : (n room : ℕ) (b : Bool) → number_of (pick b (Err TooLong) (Err Unreadable)) ≡ 0 → ⊥
no_answer n room true h = omega (arith, h)
no_answer n room false h = omega (arith, h)

unread_answer : (s : List ℕ) (room : ℕ) → read_of s ≡ None → number_of (x25_answer s room) ≡ 0 → ⊥
unfolding answer_to
unread_answer s room h e = no_answer (length s) room (ltb 65535 (length s)) (simp (unread s h) at e)

-- where the payload starts, by what was read
module _ (s : List ℕ) (room : ℕ) where
  pub payload-is : (a : Answer) (x : Option Packet) → x ≡ read_of s → a ≡ x25_answer s room → payload_by (length s) a x ≡ payload_for s a
  payload-is (Ok n) (Some x) e q = ap (λ (p : Packet). p.payload) (was-read s x (sym e)).0
  payload-is (Ok n) None e q = absurd (unread_answer s room (sym e) (ap number_of (sym q)))
  payload-is (Err TooLong) x e q = refl
  payload-is (Err Unreadable) x e q = refl
  payload-is (Err Short) x e q = refl

  pub payload-within : (a : Answer) → payload_for s a ≤ length s
  payload-within a = pick_elim (λ (n : ℕ). n ≤ length s) (eqb (number_of a) 0) (λ h. (fits s).1) (λ h. omega arith)
