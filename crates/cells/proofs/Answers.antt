-- The four answers, each with what it leaves, and that no other result is possible.
use Prim.Native.Nat.{ℕ, ◌+◌, ◌-◌, ◌≤◌, ◌<◌}
use borrow.Author.Tests.{le-ltb, lt-ltb, le-leb, lt-leb, ne_eqb}
use mathlib.Core.List.{List, [], ◌∷◌, ◌++◌}
use mathlib.Core.Bool.{Bool, true, false}
use mathlib.Core.Path.{◌≡◌, refl, ◌∙◌, sym, ap, subst}
use native.Mathlib.Nat.{zero-add}
use native.Mathlib.Omega.{arith}
use lib.ListN.{length, take, drop, length-drop}
use lib.Seq.{take_all}
use lib.Dec.{ltb, leb, eqb}
use Rattle.octets.specs.Text.{pick}
use Rattle.octets.specs.Emit.{top, on_from, Emits}
use Rattle.octets.proofs.Put.{put-fits}
use Rattle.cells.specs.Answer.{Answer, number_of, answer_to, output_of, Parsed}
use Rattle.std.specs.Prelude.{Ok, Err}
use Rattle.cells.specs.declared.answer.Refusal.TheVariants.{TooLong, Unreadable, Short}

-- any two results are equal
pub determined : {size : ℕ} {xs old new new' : List ℕ} {r r' : Answer} → Parsed size xs old r new → Parsed size xs old r' new' → (r ≡ r') × (new ≡ new')
determined {size} {xs} {old} p q =
    let e = p.answer ∙ sym q.answer in
    (e, p.output ∙ ap (λ (a : Answer). output_of a xs old) e ∙ sym q.output)

-- the place behind what was put at the start is its length, where that is no more than the output's
placed : {old new xs : List ℕ} {n : ℕ} → Emits old 0 xs new n → n ≤ length old → length old < top → n ≡ length xs
unfolding on_from
placed e h l = omega (arith, e.place)

-- what was put at the start of an output that has room for it
from_start : {old new xs : List ℕ} {n : ℕ} → Emits old 0 xs new n → n ≡ length xs → n ≤ length old → new ≡ xs ++ drop n old
from_start {old} {new} {xs} {n} e k h =
    let h₂ : 0 + length xs ≤ length old = omega (arith, k) in
    e.held ∙ put-fits old 0 xs h₂ ∙ rw (zero-add, ← k)

module _ {size : ℕ} {xs old : List ℕ} where
  pub too_long : 65535 < size → Parsed size xs old (Err TooLong) old
  unfolding answer_to
  too_long h = record { answer = simp (lt-ltb _ _ h); output = refl }

  pub unreadable : size ≤ 65535 → xs ≡ [] → Parsed size xs old (Err Unreadable) old
  unfolding answer_to
  unreadable h e = record { answer = simp (le-ltb _ _ h, e); output = refl }

  -- ys, which are xs, were put into o, which is old
  pub whole : {new o ys : List ℕ} {k : ℕ} → size ≤ 65535 → o ≡ old → ys ≡ xs → 0 < k → k ≤ length old → length old < top → Emits o 0 ys new k → Parsed size xs old (Ok k) new
  unfolding answer_to
  whole {new} {o} {ys} {k} h eo ey p l b e =
      let e' = subst (λ (z : List ℕ). Emits old 0 z new k) ey (subst (λ (z : List ℕ). Emits z 0 ys new k) eo e) in
      let w = placed e' l b in
      let n : length xs ≡ 0 → ⊥ = λ z. omega (arith, w, z) in
      let f : length xs ≤ length old = omega (arith, w) in
      record { answer = simp (le-ltb _ _ h, ne_eqb _ _ n, le-leb _ _ f, w); output = from_start e' w l }

  -- ys, which are xs, were counted, and are too many
  pub short : {new p o ys : List ℕ} {k : ℕ} → size ≤ 65535 → new ≡ old → ys ≡ xs → length old < k → Emits o 0 ys p k → Parsed size xs old (Err Short) new
  unfolding answer_to on_from
  short {new} {p} {o} {ys} {k} h eo ey l e =
      let m : length ys ≡ length xs = ap length ey in
      let f : length old < length xs = omega (arith, m, e.place) in
      let n : length xs ≡ 0 → ⊥ = λ z. omega (arith, f, z) in
      record { answer = simp (le-ltb _ _ h, ne_eqb _ _ n, lt-leb _ _ f); output = eo }

-- a part to the end, as the borrow checker gives it
pub rest : (k : ℕ) (l : List ℕ) → take (length l - k) (drop k l) ≡ drop k l
rest k l = take_all (length l - k) (drop k l) (omega (arith, length-drop k l))

-- an empty part in front, which came back from a loan
pub no_front : (l o : List ℕ) → length l ≡ 0 → l ++ drop 0 o ≡ o
no_front [] o h = refl
no_front (x ∷ l) o h = absurd (omega (arith, h))

-- an output with room for the result is not short
not_ten : (a b : Bool) (k : ℕ) → number_of (pick a (Err TooLong) (pick b (Err Unreadable) (Ok k))) ≡ 10 → ⊥
not_ten true b k h = omega (arith, h)
not_ten false true k h = omega (arith, h)
not_ten false false k h = omega (arith, h)

pub enough : (n : ℕ) (xs : List ℕ) (room : ℕ) → length xs ≤ room → number_of (answer_to n xs room) ≡ 10 → ⊥
unfolding answer_to
enough n xs room h e = not_ten (ltb 65535 n) (eqb (length xs) 0) (length xs) (simp (le-leb (length xs) room h) at e)

-- an input with a result is not unreadable
not_fifteen : (a b : Bool) (k : ℕ) → number_of (pick a (Err TooLong) (pick b (Ok k) (Err Short))) ≡ 15 → ⊥
not_fifteen true b k h = omega (arith, h)
not_fifteen false true k h = omega (arith, h)
not_fifteen false false k h = omega (arith, h)

pub readable : (n : ℕ) (xs : List ℕ) (room : ℕ) → 0 < length xs → number_of (answer_to n xs room) ≡ 15 → ⊥
unfolding answer_to
readable n xs room h e =
    let f : length xs ≡ 0 → ⊥ = λ z. omega (arith, z) in
    not_fifteen (ltb 65535 n) (leb (length xs) room) (length xs) (simp (ne_eqb (length xs) 0 f) at e)
