-- What is said beside an answer.
use Prim.Native.Nat.{ℕ, ◌-◌, ◌≤◌}
use mathlib.Core.Path.{◌≡◌, refl, sym, ap, ap₂, ◌∙◌}
use mathlib.Core.Bool.{Bool, true, false}
use mathlib.Core.List.{List, [], ◌∷◌}
use native.Mathlib.Omega.{arith}
use lib.Dec.{eqb}
use lib.ListN.{length, set, drop, length-drop}
use Rattle.octets.specs.Emit.{put}
use Rattle.octets.specs.Text.{pick}
use Rattle.cells.specs.Answer.{Answer, answer_to, number_of, count_of, output_of, Parsed}
use Rattle.x25.specs.Packet.{packet_of, payload_for}
use Rattle.x25.proofs.Cases.{fits}
use Rattle.octets.proofs.Put.{put_nil}
use Rattle.exports.specs.Told.{Told}

-- the payload begins within the octets, at what they are longer than it
pub payload-within : (s : List ℕ) (a : Answer) → payload_for s a ≤ length s
payload-within s a = go (eqb (number_of a) 0)
  where
    go : (b : Bool) → pick b (packet_of s).payload (length s) ≤ length s
    go true = (fits s).1
    go false = omega arith

pub part_shorter : (s part : List ℕ) (p : ℕ) → part ≡ drop p s → length part ≤ length s
part_shorter s part p e = rw e (omega (arith, length-drop p s))

pub part-place : (s part : List ℕ) (p : ℕ) → p ≤ length s → part ≡ drop p s → length s - length part ≡ p
part-place s part p h e = rw e (omega (arith, length-drop p s))

-- what the printer answers, as numbers
pub numbered : {n : ℕ} {xs old new : List ℕ} {r : Answer} → Parsed n xs old r new → number_of r ≡ number_of (answer_to n xs (length old))
numbered p = ap number_of p.answer

pub counted : {n : ℕ} {xs old new : List ℕ} {r : Answer} → Parsed n xs old r new → count_of r ≡ count_of (answer_to n xs (length old))
counted p = ap count_of p.answer

pub left : {n : ℕ} {xs old new : List ℕ} {r : Answer} → Parsed n xs old r new → new ≡ output_of (answer_to n xs (length old)) xs old
left {n} {xs} {old} {new} {r} p = p.output ∙ ap (λ (a : Answer). output_of a xs old) p.answer

-- an answer told in numbers
pub told : {n number : ℕ} {xs old new said said' : List ℕ} {r : Answer} → Parsed n xs old r new → number ≡ number_of r → said' ≡ put said 0 (count_of r ∷ []) → Told n xs old new number said said'
told {said = said} p a c = record { answered = a ∙ numbered p; output = left p; counted = c ∙ ap (λ (k : ℕ). put said 0 (k ∷ [])) (counted p) }
