-- Options that are laid out as ISO 9542 draws them are read as what was laid out.
use Prim.Native.Nat.{ℕ, ◌+◌}
use mathlib.Core.List.{List, [], ◌∷◌, ◌++◌, append_assoc}
use mathlib.Core.Path.{◌≡◌, refl, sym, ap, ◌∙◌}
use native.Mathlib.Nat.{add-zero}
use native.Mathlib.Omega.{arith}
use borrow.Author.Tests.{le-leb}
use lib.ListN.{length, get_or, take, drop, length-append}
use lib.Seq.{get_or_at, get_or-append-add, take_at}
use Rattle.octets.proofs.Stands.{next}
use Rattle.cells.specs.Items.{Items, none, ◌⊕◌}
use Rattle.cells.specs.Walk.{body, walk_from}
use Rattle.cells.proofs.Walks.{turn, over}
use Rattle.fields.specs.Tlv.{tlv_at}
use Rattle.esis.specs.Pdu.{option, option_step, option_items, option_left}
use Rattle.esis.specs.Layout.{Option, options_laid, options_read, OptionsStand}

abbrev one : Option → List ℕ
one o = o.code ∷ length o.value ∷ o.value

-- an option is found where it is laid out
option-at : (o : Option) (pre rest : List ℕ) (i : ℕ) → length pre ≡ i → tlv_at (pre ++ (one o ++ rest)) i ≡ body (i + 2) (length o.value)
unfolding tlv_at
option-at o pre rest i q =
    let s : List ℕ = pre ++ (one o ++ rest) in
    let d : get_or s (i + 1) 0 ≡ length o.value = rw (← q) (get_or-append-add pre (one o ++ rest) 1 0) in
    let n : length s ≡ i + 2 + (length o.value + length rest) = simp (length-append, q) (omega arith) in
    simp (d, le-leb (i + 2) (length s) (omega arith), le-leb (i + 2 + length o.value) (length s) (omega arith))

module _ (base : ℕ) (s : List ℕ) where
  abbrev found : ℕ → Option → Items
  found i o = option o.code (base + (i + 2)) (length o.value)

  -- a walk goes over it
  option-turn : {R : Type 0} (ends : ℕ → R) (more : Items → R → R) (o : Option) (pre rest : List ℕ) (i : ℕ) → s ≡ pre ++ (one o ++ rest) → length pre ≡ i
      → walk_from (option_step base s) ends more (length s) i ≡ more (found i o) (walk_from (option_step base s) ends more (length s) (i + 2 + length o.value))
  option-turn ends more o pre rest i e q =
      let n : length s ≡ i + 2 + (length o.value + length rest) = ap length e ∙ simp (length-append, q) (omega arith) in
      let c : tlv_at s i ≡ body (i + 2) (length o.value) = rw e (option-at o pre rest i q) in
      let d : get_or s i 0 ≡ o.code = rw e (get_or_at pre o.code (length o.value ∷ (o.value ++ rest)) 0 i q) in
      turn (option_step base s) ends more (length s) i (i + 2 + length o.value) (found i o) (omega arith) (omega arith) (simp (c, d))

  -- a walk from where options are laid out on to the end of the part, by what it makes of them
  module _ {R : Type 0} (ends : ℕ → R) (more : Items → R → R) (P : ℕ → List Option → R) (he : (i : ℕ) → ends 0 ≡ P i [])
      (hm : (i : ℕ) (o : Option) (os : List Option) → more (found i o) (P (i + 2 + length o.value) os) ≡ P i (o ∷ os)) where
    pub walk-laid : (os : List Option) (pre : List ℕ) (i : ℕ) → s ≡ pre ++ options_laid os → length pre ≡ i → walk_from (option_step base s) ends more (length s) i ≡ P i os
    unfolding options_laid
    walk-laid [] pre i e q = over (option_step base s) ends more (length s) i (omega (arith, simp length-append at (ap length e))) ∙ he i
    walk-laid (o ∷ os) pre i e q =
        let rest = options_laid os in
        option-turn ends more o pre rest i e q
        ∙ ap (more (found i o)) (walk-laid os (pre ++ one o) (i + 2 + length o.value) (e ∙ sym (append_assoc pre (one o) rest)) (simp (length-append, q) (omega arith)))
        ∙ hm i o os

read_more : (base i : ℕ) (o : Option) (os : List Option) → option o.code (base + (i + 2)) (length o.value) ⊕ options_read (base + (i + 2 + length o.value)) os ≡ options_read (base + i) (o ∷ os)
unfolding options_read
read_more base i o os =
    let n = length o.value in
    let a : base + (i + 2) ≡ base + i + 2 = omega arith in
    let b : base + (i + 2 + n) ≡ base + i + 2 + n = omega arith in
    ap (λ (k : ℕ). option o.code k n ⊕ options_read (base + (i + 2 + n)) os) a ∙ ap (λ (k : ℕ). option o.code (base + i + 2) n ⊕ options_read k os) b

read_none : (at : ℕ) → none ≡ options_read at []
unfolding options_read
read_none at = refl

-- a walk over options that are laid out finds each of them, and its place, and leaves nothing unread
pub options-walk : (base : ℕ) (os : List Option) → option_items base (options_laid os) ≡ options_read base os
options-walk base os =
    let s : List ℕ = options_laid os in
    walk-laid base s (λ n. none) ◌⊕◌ (λ i os. options_read (base + i) os) (λ i. read_none (base + i)) (λ i o os. read_more base i o os) os [] 0 refl refl
    ∙ ap (λ (k : ℕ). options_read k os) (add-zero base)

pub options-left : (os : List Option) → option_left (options_laid os) ≡ 0
options-left os = walk-laid 0 (options_laid os) (λ n. n) (λ c r. r) (λ i os. 0) (λ i. refl) (λ i o os. refl) os [] 0 refl refl

-- ---- the octets at those places
pub options_stand : (s : List ℕ) (os : List Option) (p : ℕ) → drop p s ≡ options_laid os → OptionsStand s p os
unfolding options_laid OptionsStand
options_stand s [] p e = tt
options_stand s (o ∷ os) p e =
    let v : List ℕ = o.value in
    let rest : List ℕ = options_laid os in
    let w : drop (p + 2) s ≡ v ++ rest = next s (o.code ∷ length v ∷ []) (v ++ rest) p e in
    (ap (take (length v)) w ∙ take_at v rest (length v) refl, options_stand s os (p + 2 + length v) (next s v rest (p + 2) w))
