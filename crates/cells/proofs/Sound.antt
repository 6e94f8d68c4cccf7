-- Cells that are read as a tree are the cells of that tree, and it is a good one.
use Rattle.std.specs.Prelude.{Option, Some, None}
use mathlib.Core.Path.{◌≡◌, refl, sym, ap, ◌∙◌, subst}
use mathlib.Core.List.{List, [], ◌∷◌, ◌++◌, append_assoc}
use mathlib.Core.Bool.{Bool, true, false}
use mathlib.Core.Option.{none, some}
use Prim.Native.Nat.{ℕ, suc, ◌+◌, ◌*◌, ◌/◌, ◌%◌, ◌<◌}
use native.Mathlib.Decide.{ℕ_discrete}
use native.Mathlib.Omega.{arith}
use borrow.Author.Tests.{ne_eqb, eq-eqb}
use Rattle.cells.specs.Cell.{cell_of, field_of, form_of, depth_of, len_of, value_of, f_number, f_flag, f_part, f_text, f_prefix, f_octet, f_word}
use Rattle.cells.specs.Items as items
use Rattle.cells.specs.Items.{Items, leaf, group, ◌⊕◌, record_of, leaf_cell, open_form, open_cell, close_cell, flat}
use Rattle.cells.specs.Read.{leaf_ok, leaf_of, leaf_in, bare, class_of, Stack, root, push, height, going, done, closed, turn, step, and_then, read, items_of}
use Rattle.cells.specs.Good.{Key, GoodLeaf, GoodRow, Good}
use Rattle.cells.specs.declared.class.Class.{Class}
use Rattle.cells.specs.declared.class.Class.TheVariants.{Leafy, Object, Entries, Close}
use Rattle.cells.proofs.Packs.{whole, value_low, depth_low}
use Rattle.cells.proofs.Rows.{flat-⊕, good-⊕}
use Rattle.cells.proofs.Leaves.{number_is, flag_is, part-is, text-is, prefix-is, octet-is, word-is}
use Rattle.cells.proofs.Classes.{opening, ok-key, bare-is, class-leaf, class_open, class-close, open_low}

-- a leaf that was read packs to what it was read from, and is good
record Back (n d f form len v : ℕ) : Type 0 where
  cell : leaf_cell d f (leaf_of form len v) ≡ cell_of f form d len v
  good : GoodLeaf n (leaf_of form len v)

module _ (n d f len v : ℕ) (hv : v < 4294967296) where
  at-number : leaf_ok n f_number len v ≡ true → Back n d f f_number len v
  unfolding leaf_cell leaf_of
  at-number t = record { cell = rw (number_is n len v t); good = hv }

  at_flag : leaf_ok n f_flag len v ≡ true → Back n d f f_flag len v
  unfolding leaf_cell leaf_of
  at_flag t = let w = flag_is n len v t in record { cell = rw w.0; good = w.1 }

  at_part : leaf_ok n f_part len v ≡ true → Back n d f f_part len v
  unfolding leaf_cell leaf_of
  at_part t = record { cell = refl; good = part-is n len v t }

  at-text : leaf_ok n f_text len v ≡ true → Back n d f f_text len v
  unfolding leaf_cell leaf_of
  at-text t = let w = text-is n len v t in record { cell = rw w.0; good = (w.1, w.2) }

  at-prefix : leaf_ok n f_prefix len v ≡ true → Back n d f f_prefix len v
  unfolding leaf_cell leaf_of
  at-prefix t =
      let z : v / 256 * 256 + v % 256 ≡ v = omega arith in
      let w = prefix-is n len v t in
      record { cell = rw z; good = (omega arith, w.0, w.1) }

  at-octet : leaf_ok n f_octet len v ≡ true → Back n d f f_octet len v
  unfolding leaf_cell leaf_of
  at-octet t = let w = octet-is n len v t in record { cell = rw w.0; good = w.1 }

  at-word : leaf_ok n f_word len v ≡ true → Back n d f f_word len v
  unfolding leaf_cell leaf_of
  at-word t = record { cell = rw (word-is n len v t); good = hv }

  module _ (form : ℕ) (t : leaf_ok n form len v ≡ true) where
    with_form : (m : ℕ) → form ≡ m → (leaf_ok n m len v ≡ true → Back n d f m len v) → Back n d f form len v
    with_form m e h = subst (λ (x : ℕ). Back n d f x len v) (sym e) (h (subst (λ (x : ℕ). leaf_ok n x len v ≡ true) e t))

    no_form : (form ≡ f_number → ⊥) → (form ≡ f_flag → ⊥) → (form ≡ f_part → ⊥) → (form ≡ f_text → ⊥) → (form ≡ f_prefix → ⊥) → (form ≡ f_octet → ⊥) → (form ≡ f_word → ⊥) → ⊥
    unfolding leaf_ok
    no_form n₀ n₁ n₂ n₃ n₇ n₈ n₉ =
        let z : false ≡ true = simp (ne_eqb form f_number n₀, ne_eqb form f_flag n₁, ne_eqb form f_part n₂, ne_eqb form f_text n₃, ne_eqb form f_prefix n₇, ne_eqb form f_octet n₈, ne_eqb form f_word n₉) at t in
        let y : ◌≡◌ {A = ℕ} 0 1 = cc in
        omega arith

    back : Back n d f form len v
    back = elim (ℕ_discrete form f_number) [
      | yes e ↦ with_form f_number e at-number
      | no n₀ ↦ elim (ℕ_discrete form f_flag) [
        | yes e ↦ with_form f_flag e at_flag
        | no n₁ ↦ elim (ℕ_discrete form f_part) [
          | yes e ↦ with_form f_part e at_part
          | no n₂ ↦ elim (ℕ_discrete form f_text) [
            | yes e ↦ with_form f_text e at-text
            | no n₃ ↦ elim (ℕ_discrete form f_prefix) [
              | yes e ↦ with_form f_prefix e at-prefix
              | no n₇ ↦ elim (ℕ_discrete form f_octet) [
                | yes e ↦ with_form f_octet e at-octet
                | no n₈ ↦ elim (ℕ_discrete form f_word) [
                  | yes e ↦ with_form f_word e at-word
                  | no n₉ ↦ absurd (no_form n₀ n₁ n₂ n₃ n₇ n₈ n₉)
                ]
              ]
            ]
          ]
        ]
      ]
    ]

-- ---- one cell: it is the cell of what it was read as

leaf-back : (n : ℕ) (k : Bool) (d c : ℕ) → class_of n k d c ≡ (Some Leafy) → (leaf_cell d (field_of c) (leaf_in c) ≡ c) × GoodLeaf n (leaf_in c)
leaf-back n k d c e =
    let w = class-leaf n k d c e in
    let b = back n d (field_of c) (len_of c) (value_of c) (value_low c) (form_of c) w.2 in
    (b.cell ∙ ap (λ (x : ℕ). cell_of (field_of c) (form_of c) x (len_of c) (value_of c)) (sym w.0) ∙ whole c, b.good)

bare-back : (c form d : ℕ) → form_of c ≡ form → depth_of c ≡ d → bare c ≡ true → c ≡ cell_of (field_of c) form d 0 0
bare-back c form d p q b =
    let w = bare-is c b in
    sym (whole c) ∙ rw (p, q, w.0, w.1)

open_back : (n : ℕ) (k : Bool) (d c : ℕ) (g : Bool) → class_of n k d c ≡ opening g → c ≡ open_cell d g (field_of c)
open_back n k d c g e =
    let w = class_open n k d c g e in
    bare-back c (open_form g) d w.2 w.0 w.3

close-back : (n : ℕ) (k : Bool) (d c : ℕ) → class_of n k (d + 1) c ≡ (Some Close) → c ≡ close_cell d
close-back n k d c e =
    let w = class-close n k (d + 1) c e in
    bare-back c 6 d w.2 (omega (arith, w.0)) w.3 ∙ ap (λ (x : ℕ). cell_of x 6 d 0 0) w.1

-- ---- all cells

-- the cells that were read on the way to a state
before : Bool → Items → Stack → List ℕ
before k acc root = open_cell 0 true 0 ∷ flat 1 acc
before k acc (push k' f acc' st) = before k' acc' st ++ (open_cell (height st + 1) k f ∷ flat (height st + 2) acc)

before-⊕ : (k : Bool) (acc ys : Items) (st : Stack) → before k (acc ⊕ ys) st ≡ before k acc st ++ flat (height st + 1) ys
unfolding before
before-⊕ k acc ys root = rw flat-⊕
before-⊕ k acc ys (push k' f acc' st) =
    let e : suc (height st) + 1 ≡ height st + 2 = omega arith in
    rw (flat-⊕, e) (simp append_assoc)

-- what was read on the way is good
GoodStack : ℕ → Bool → Stack → Type 0
GoodStack n k root = k ≡ true
GoodStack n k (push k' f acc st) = (height st + 1 < 16) × Key k' f × GoodRow n k' (height st + 1) acc × GoodStack n k' st

record Said (n : ℕ) (k : Bool) (acc : Items) (st : Stack) (cs : List ℕ) (t : Items) : Type 0 where
  cells : before k acc st ++ cs ≡ flat 0 (record_of t)
  good : GoodRow n k (height st + 1) acc → GoodStack n k st → Good n t

ended : (n : ℕ) (cs : List ℕ) (is t : Items) → read n cs (done is) ≡ some t → (cs ≡ []) × (is ≡ t)
unfolding read step
ended n [] is t e = (refl, cc)
ended n (c ∷ cs) is t e = let z : ◌≡◌ {A = ℕ} 0 1 = cc in absurd (omega arith)

-- one more cell was read
on : (a b cs w : List ℕ) (c : ℕ) → b ≡ a ++ (c ∷ []) → b ++ cs ≡ w → a ++ (c ∷ cs) ≡ w
on a b cs w c e h = sym (append_assoc a (c ∷ []) cs) ∙ rw (← e) h

module _ (n : ℕ) (k : Bool) (acc : Items) (st : Stack) (c : ℕ) where
  grow-leaf : class_of n k (height st + 1) c ≡ (Some Leafy) → before k (acc ⊕ leaf (field_of c) (leaf_in c) items.none) st ≡ before k acc st ++ (c ∷ [])
  unfolding flat
  grow-leaf q = before-⊕ k acc _ st ∙ rw (leaf-back n k (height st + 1) c q).0

  good-leaf : class_of n k (height st + 1) c ≡ (Some Leafy) → GoodRow n k (height st + 1) acc → GoodRow n k (height st + 1) (acc ⊕ leaf (field_of c) (leaf_in c) items.none)
  good-leaf q g =
      let w = class-leaf n k (height st + 1) c q in
      let low : height st + 1 < 16 = omega (arith, w.0, depth_low c) in
      good-⊕ n k (height st + 1) acc _ g (low, ok-key k (field_of c) w.1, (leaf-back n k (height st + 1) c q).1, tt)

  grow_open : (g : Bool) → class_of n k (height st + 1) c ≡ opening g → before g items.none (push k (field_of c) acc st) ≡ before k acc st ++ (c ∷ [])
  unfolding flat before
  grow_open g q = rw (← (open_back n k (height st + 1) c g q))

  good_open : (g : Bool) → class_of n k (height st + 1) c ≡ opening g → GoodRow n k (height st + 1) acc → GoodStack n k st → GoodStack n g (push k (field_of c) acc st)
  unfolding GoodStack
  good_open g q r s = (open_low n k (height st + 1) c g q, ok-key k (field_of c) (class_open n k (height st + 1) c g q).1, r, s)

grow-close : (n : ℕ) (k k' : Bool) (acc acc' : Items) (f : ℕ) (st : Stack) (c : ℕ) → class_of n k (suc (height st) + 1) c ≡ (Some Close)
    → before k' (acc' ⊕ group k f acc items.none) st ≡ before k acc (push k' f acc' st) ++ (c ∷ [])
unfolding flat before
grow-close n k k' acc acc' f st c q =
    let e : suc (height st) + 1 ≡ height st + 1 + 1 = omega arith in
    let e₂ : height st + 1 + 1 ≡ height st + 2 = omega arith in
    before-⊕ k' acc' _ st ∙ rw (e₂, ← (close-back n k (height st + 1) c (rw e at q))) (simp append_assoc)

good-close : (n : ℕ) (k k' : Bool) (acc acc' : Items) (f : ℕ) (st : Stack) → GoodRow n k (suc (height st) + 1) acc → GoodStack n k (push k' f acc' st)
    → GoodRow n k' (height st + 1) (acc' ⊕ group k f acc items.none) × GoodStack n k' st
unfolding GoodStack
good-close n k k' acc acc' f st r s =
    let e : suc (height st) + 1 ≡ height st + 1 + 1 = omega arith in
    let r' : GoodRow n k (height st + 1 + 1) acc = subst (λ (d : ℕ). GoodRow n k d acc) e r in
    (good-⊕ n k' (height st + 1) acc' _ s.2 (s.0, s.1, r', tt), s.3)

module _ (n : ℕ) (c : ℕ) (cs : List ℕ) (t : Items) (ih : (k : Bool) (acc : Items) (st : Stack) → read n cs (going k acc st) ≡ some t → Said n k acc st cs t) where
  shut : (k : Bool) (acc : Items) (st : Stack) → class_of n k (height st + 1) c ≡ (Some Close) → read n cs (closed k acc st) ≡ some t → Said n k acc st (c ∷ cs) t
  unfolding before GoodStack flat
  shut k acc root q h =
      let w = ended n cs acc t h in
      record {
        cells = rw (w.0, w.1, close-back n k 0 c q);
        good = λ r s. subst (λ (x : Items). Good n x) w.1 (subst (λ (b : Bool). GoodRow n b 1 acc) s r);
      }
  shut k acc (push k' f acc' st) q h =
      let w = ih k' (acc' ⊕ group k f acc items.none) st h in
      record {
        cells = on (before k acc (push k' f acc' st)) _ cs _ c (grow-close n k k' acc acc' f st c q) w.cells;
        good = λ r s. let g = good-close n k k' acc acc' f st r s in w.good g.0 g.1;
      }

  by_open : (k : Bool) (acc : Items) (st : Stack) (g : Bool) → class_of n k (height st + 1) c ≡ opening g → read n cs (going g items.none (push k (field_of c) acc st)) ≡ some t
      → Said n k acc st (c ∷ cs) t
  by_open k acc st g q h =
      let w = ih g items.none (push k (field_of c) acc st) h in
      record {
        cells = on (before k acc st) _ cs _ c (grow_open n k acc st c g q) w.cells;
        good = λ r s. w.good tt (good_open n k acc st c g q r s);
      }

  by : (k : Bool) (acc : Items) (st : Stack) (q : Option Class) → class_of n k (height st + 1) c ≡ q → and_then (turn q c k acc st) (read n cs) ≡ some t → Said n k acc st (c ∷ cs) t
  by k acc st (Some Leafy) q h =
      let w = ih k (acc ⊕ leaf (field_of c) (leaf_in c) items.none) st h in
      record {
        cells = on (before k acc st) _ cs _ c (grow-leaf n k acc st c q) w.cells;
        good = λ r s. w.good (good-leaf n k acc st c q r) s;
      }
  by k acc st (Some Object) q h = by_open k acc st true q h
  by k acc st (Some Entries) q h = by_open k acc st false q h
  by k acc st (Some Close) q h = shut k acc st q h
  by k acc st None q h = let z : ◌≡◌ {A = ℕ} 0 1 = cc in absurd (omega arith)

sound : (n : ℕ) (cs : List ℕ) (t : Items) (k : Bool) (acc : Items) (st : Stack) → read n cs (going k acc st) ≡ some t → Said n k acc st cs t
unfolding read step
sound n [] t k acc st e = let z : ◌≡◌ {A = ℕ} 0 1 = cc in absurd (omega arith)
sound n (c ∷ cs) t k acc st e = by n c cs t (sound n cs t) k acc st (class_of n k (height st + 1) c) refl e

pub sound_record : (n : ℕ) (cs : List ℕ) (t : Items) → items_of n cs ≡ some t → (cs ≡ flat 0 (record_of t)) × Good n t
unfolding items_of read step before GoodStack flat
sound_record n [] t e = let z : ◌≡◌ {A = ℕ} 0 1 = cc in absurd (omega arith)
sound_record n (c ∷ cs) t e = elim (ℕ_discrete c (open_cell 0 true 0)) [
  | yes q ↦ let w = sound n cs t true items.none root (rw (eq-eqb c (open_cell 0 true 0) q) at e) in (rw q w.cells, w.good tt refl)
  | no m ↦ let z : none ≡ some t = rw (ne_eqb c (open_cell 0 true 0) m) at e in let y : ◌≡◌ {A = ℕ} 0 1 = cc in absurd (omega arith)
]
