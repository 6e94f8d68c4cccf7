-- The answers of `print`, and that no other result is possible.
use Rattle.std.specs.Prelude.{Option, Some, None, Ok, Err}
use mathlib.Core.Path.{◌≡◌, refl, sym, ap, ◌∙◌}
use mathlib.Core.List.{List}
use mathlib.Core.Option.{none}
use Prim.Native.Nat.{ℕ, ◌≤◌, ◌<◌}
use native.Mathlib.Omega.{arith}
use lib.ListN.{length}
use Rattle.octets.specs.Emit.{on_from, top}
use Rattle.cells.specs.Read.{items_of}
use Rattle.cells.specs.Answer.{Answer}
use Rattle.cells.specs.declared.answer.Refusal.TheVariants.{Unreadable, Short}
use Rattle.cells.proofs.Answers as answers
use Rattle.print.specs.Json.{json_of}
use Rattle.print.specs.Print.{printed, Prints}
use Rattle.print.specs.Outcome.{Written, WholeOutcome}

-- any two results are equal
pub determined : (cells inp : List ℕ) {old new new' : List ℕ} {r r' : Answer} → Prints cells inp old r new → Prints cells inp old r' new' → (r ≡ r') × (new ≡ new')
determined cells inp p q = answers.determined p q

-- a record's text has at least its two brackets
brackets : {cells inp o o' : List ℕ} {r : ℕ} → Written cells inp o o' r → 0 < r
unfolding on_from json_of
brackets w = omega (arith, w.text.place)

text-is : {cells inp o o' : List ℕ} {r : ℕ} (w : Written cells inp o o' r) → json_of inp w.kids ≡ printed cells inp
unfolding printed
text-is w = rw w.reads

module _ (cells inp old : List ℕ) (low : length inp ≤ 65535) where
  pub says_bad : items_of (length inp) cells ≡ none → Prints cells inp old (Err Unreadable) old
  unfolding printed
  says_bad e = answers.unreadable low (rw e)

  module _ {o o' : List ℕ} {r : ℕ} (w : Written cells inp o o' r) where
    pub says-short : length old < r → Prints cells inp old (Err Short) old
    says-short h = answers.short low refl (text-is w) h w.text

    -- the text was counted, and then written
    pub says-whole : length old < top → r ≤ length old → (s : Option ℕ) {new : List ℕ} → WholeOutcome cells inp old new s → Prints cells inp old (Ok r) new
    says-whole b h None v = let z : ◌≡◌ {A = ℕ} 0 1 = cc (v, w.reads) in absurd (omega arith)
    says-whole b h (Some p) {new} v =
        let q : v.kids ≡ w.kids = cc (v.reads, w.reads) in
        let same : p ≡ r = v.text.place ∙ rw q (sym w.text.place) in
        answers.whole low refl (ap (json_of inp) q ∙ text-is w) (brackets w) h b (rw same at v.text)
