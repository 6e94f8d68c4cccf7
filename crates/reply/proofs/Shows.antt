-- What is parsed and then printed.
use Prim.Native.Nat.{ℕ, ◌≤◌}
use mathlib.Core.Path.{◌≡◌, refl, sym, ap, subst, ◌∙◌}
use mathlib.Core.Bool.{Bool, true, false}
use mathlib.Core.List.{List, []}
use native.Mathlib.Omega.{arith}
use lib.Dec.{ltb, leb, eqb}
use lib.ListN.{length, take, drop, length-append}
use lib.Seq.{take_at, length-take-le}
use Rattle.octets.specs.Text.{pick}
use Rattle.cells.specs.Answer.{Answer, Parsed, answer_to, count_of, number_of}
use Rattle.std.specs.Prelude.{Ok, Err}
use Rattle.cells.specs.declared.answer.Refusal.TheVariants.{TooLong, Unreadable, Short}
use Rattle.print.specs.Print.{printed, Prints}
use Rattle.replay_line.specs.Said.{text_said}
use Rattle.reply.specs.Shown.{shown_by, shown, text_with, Shows}
use Rattle.reply.specs.Reply.{said_of}

-- a whole result fills as many places as it is long
counted : (n : ℕ) (xs : List ℕ) (room : ℕ) {k : ℕ} → Ok k ≡ answer_to n xs room → k ≡ length xs
unfolding answer_to
counted n xs room {k} e = by (ltb 65535 n) (eqb (length xs) 0) (leb (length xs) room) e
  where
    by : (p q r : Bool) → Ok k ≡ pick p (Err TooLong) (pick q (Err Unreadable) (pick r (Ok (length xs)) (Err Short))) → k ≡ length xs
    by true q r e = absurd (omega (arith, ap number_of e))
    by false true r e = absurd (omega (arith, ap number_of e))
    by false false true e = ap count_of e
    by false false false e = absurd (omega (arith, ap number_of e))

module _ {size : ℕ} {xs old new : List ℕ} where
  -- what is counted is there
  pub fits : (a : Answer) → Parsed size xs old a new → count_of a ≤ length new
  fits (Ok n) p = omega (arith, counted size xs (length old) p.answer, ap length p.output, length-append xs (drop n old))
  fits (Err r) p = omega arith

  pub front : (a : Answer) → Parsed size xs old a new → take (count_of a) new ≡ text_with a xs
  front (Ok n) p = ap (take n) p.output ∙ take_at xs (drop n old) n (sym (counted size xs (length old) p.answer))
  front (Err r) p = refl

-- what a whole answer counts has room
pub room_for : {a : Answer} {n k : ℕ} → a ≡ Ok n → count_of a ≤ k → n ≤ k
room_for {a} {n} {k} e h = subst (λ (q : Answer). count_of q ≤ k) e h

pub shows_whole : (cells s old : List ℕ) {new : List ℕ} {a r : Answer} {n : ℕ} → a ≡ Ok n → Prints (take n cells) s old r new → Shows a (take (count_of a) cells) s old r new
shows_whole cells s old {new} {a} {r} e p =
    subst (λ (q : Answer). Shows q (take (count_of q) cells) s old r new) (sym e) (record { answer = p.answer; output = p.output })

-- the part of a text that an answer counts
pub counted-part : (t : List ℕ) {k m : ℕ} → k ≡ m → m ≤ length t → k ≡ length (take k t)
counted-part t {k} e h = sym (length-take-le k t (omega (arith, e, h)))

pub said_as : (n : ℕ) (t : List ℕ) {number k m size : ℕ} → number ≡ m → k ≡ size → text_said n number (take k t) ≡ text_said n m (take size t)
said_as n t e f = rw (e, f)

-- octets s with the cells xs, room for so many cells, a text t where there was t₀: the answer r and what it counts
abbrev pub Told : List ℕ → List ℕ → ℕ → List ℕ → List ℕ → Answer → Type 0
Told xs s cells t₀ t r = (r ≡ shown xs s cells (length t₀)) × (count_of r ≤ length t) × (take (count_of r) t ≡ text_with r (printed xs s))

module _ (xs s t₀ t : List ℕ) (cells : ℕ) {r : Answer} where
  refused : (a : Answer) → r ≡ a → count_of a ≡ 0 → text_with a (printed xs s) ≡ [] → r ≡ shown xs s cells (length t₀) → Told xs s cells t₀ t r
  refused a e z n k =
      let m : count_of r ≡ 0 = ap count_of e ∙ z in
      (k, omega (arith, m), ap (λ (i : ℕ). take i t) m ∙ sym (ap (λ (q : Answer). text_with q (printed xs s)) e ∙ n))

-- behind a parser's answer a, with cells c where there were c₀
module _ {xs s c₀ c t₀ t : List ℕ} {r : Answer} where
  pub told : (a : Answer) → Parsed (length s) xs c₀ a c → Shows a (take (count_of a) c) s t₀ r t → Told xs s (length c₀) t₀ t r
  unfolding shown
  told (Ok n) p q =
      let q' = subst (λ (ys : List ℕ). Shows (Ok n) ys s t₀ r t) (front (Ok n) p) q in
      let w : Parsed (length s) (printed xs s) t₀ r t = record { answer = q'.answer; output = q'.output } in
      (q'.answer ∙ ap (λ (a : Answer). shown_by a xs s (length t₀)) p.answer, fits r w, front r w)
  told (Err e) p q = refused xs s t₀ t (length c₀) (Err e) q.answer refl refl (q.answer ∙ ap (λ (a : Answer). shown_by a xs s (length t₀)) p.answer)

-- the line that is said of it
pub said : (n : ℕ) (xs s t₀ t : List ℕ) (cells : ℕ) (r : Answer) → Told xs s cells t₀ t r → text_said n (number_of r) (take (count_of r) t) ≡ said_of cells (length t₀) n xs s
said n xs s t₀ t cells r k =
    ap (text_said n (number_of r)) k.2 ∙ ap (λ (a : Answer). text_said n (number_of a) (text_with a (printed xs s))) k.0
