-- What a turn of a group's printer does to the reading and to the text.
use Rattle.std.specs.Prelude.{Option, Some, None}
use mathlib.Core.Path.{◌≡◌, refl, ◌∙◌}
use mathlib.Core.List.{List, [], ◌∷◌, ◌++◌, append_assoc, append-nil}
use mathlib.Core.Bool.{Bool, true, false, ◌&&◌}
use Prim.Native.Nat.{ℕ, suc, ◌+◌, ◌≤◌, ◌<◌}
use native.Mathlib.Numerals.{add-one}
use native.Mathlib.Omega.{arith}
use lib.ListN.{length, drop, get_or, drop_of_length-le}
use lib.Seq.{drop-cons}
use Rattle.octets.specs.Emit.{Emits, top}
use Rattle.octets.proofs.Emits.{nothing, then}
use Rattle.cells.specs.Cell.{field_of}
use Rattle.cells.specs.Items as tree
use Rattle.cells.specs.Items.{Items, leaf, group, ◌⊕◌}
use Rattle.cells.specs.Read.{leaf_in, class_of, Stack, push, height, going, turn, step, and_then, read}
use Rattle.cells.specs.declared.class.Class.{Class}
use Rattle.cells.specs.declared.class.Class.TheVariants.{Leafy, Object, Entries, Close}
use Rattle.cells.proofs.Classes.{opening}
use Rattle.print.specs.Json.{lead, leaf_text, row_text, opens, closes}
use Rattle.print.specs.Outcome.{Shown, Broken}

abbrev is_none : Items → Bool
is_none tree.none = true
is_none (leaf f v xs) = false
is_none (group g f is xs) = false

-- the text of two rows, one after the other
row-append : (inp : List ℕ) (k b : Bool) (xs ys : Items) → row_text inp k b (xs ⊕ ys) ≡ row_text inp k b xs ++ row_text inp k (b && is_none xs) ys
unfolding row_text
row-append inp true true tree.none ys = refl
row-append inp true false tree.none ys = refl
row-append inp false true tree.none ys = refl
row-append inp false false tree.none ys = refl
row-append inp k true (leaf f v xs) ys = rw (row-append inp k false xs ys) (simp append_assoc)
row-append inp k false (leaf f v xs) ys = rw (row-append inp k false xs ys) (simp append_assoc)
row-append inp k true (group g f is xs) ys = rw (row-append inp k false xs ys) (simp append_assoc)
row-append inp k false (group g f is xs) ys = rw (row-append inp k false xs ys) (simp append_assoc)

some-leaf : (xs : Items) (f : ℕ) (v : tree.Leaf) (ys : Items) → false ≡ is_none (xs ⊕ leaf f v ys)
some-leaf tree.none f v ys = refl
some-leaf (leaf f' v' xs) f v ys = refl
some-leaf (group g f' is xs) f v ys = refl

some-group : (xs : Items) (g : Bool) (f : ℕ) (is ys : Items) → false ≡ is_none (xs ⊕ group g f is ys)
some-group tree.none g f is ys = refl
some-group (leaf f' v' xs) g f is ys = refl
some-group (group g' f' is' xs) g f is ys = refl

one-leaf : (inp : List ℕ) (k b : Bool) (f : ℕ) (v : tree.Leaf) → row_text inp k b (leaf f v tree.none) ≡ lead k b f ++ leaf_text inp v
unfolding row_text
one-leaf inp k b f v = simp append-nil

one-group : (inp : List ℕ) (k b g : Bool) (f : ℕ) (is : Items) → row_text inp k b (group g f is tree.none) ≡ (lead k b f ++ (opens g ∷ [])) ++ (row_text inp g true is ++ (closes g ∷ []))
unfolding row_text
one-group inp k b g f is = simp (append_assoc, append-nil)

-- one cell is read
read_one : (cells : List ℕ) (n : ℕ) (k : Bool) (d i : ℕ) → i < length cells → (q : Option Class) → class_of n k d (get_or cells i 0) ≡ q → (acc : Items) (st : Stack) → height st + 1 ≡ d
    → read n (drop i cells) (going k acc st) ≡ and_then (turn q (get_or cells i 0) k acc st) (read n (drop (i + 1) cells))
unfolding read step
read_one cells n k d i h q e acc st hs = rw (drop-cons cells i 0 h, add-one i, hs, e)

read_open : (cells : List ℕ) (n : ℕ) (k : Bool) (d i : ℕ) → i < length cells → (g : Bool) → class_of n k d (get_or cells i 0) ≡ opening g → (acc : Items) (st : Stack) → height st + 1 ≡ d
    → read n (drop i cells) (going k acc st) ≡ read n (drop (i + 1) cells) (going g tree.none (push k (field_of (get_or cells i 0)) acc st))
read_open cells n k d i h true q acc st e = read_one cells n k d i h (Some Object) q acc st e
read_open cells n k d i h false q acc st e = read_one cells n k d i h (Some Entries) q acc st e

deeper : (n d : ℕ) → n + 1 ≡ d → suc n + 1 ≡ d + 1
deeper n d e = omega arith

-- the rows read and written so far: the invariant of a group's loop
pub record Row (cells inp : List ℕ) (k : Bool) (from d : ℕ) (o : List ℕ) (at : ℕ) (o' : List ℕ) (i next : ℕ) (first : Bool) : Type 0 where
  pub items : Items
  pub begun : first ≡ is_none items
  pub reads : (st : Stack) → height st + 1 ≡ d → read (length inp) (drop from cells) (going k tree.none st) ≡ read (length inp) (drop i cells) (going k items st)
  pub text : Emits o at (row_text inp k true items) o' next

pub row-start : (cells inp : List ℕ) (k : Bool) (from d : ℕ) (o : List ℕ) (at : ℕ) → length o ≤ top → at ≤ top → Row cells inp k from d o at o from at true
unfolding row_text
row-start cells inp k from d o at l h = record { items = tree.none; begun = refl; reads = λ st e. refl; text = nothing o at l h }

module _ {cells inp : List ℕ} {k : Bool} {from d : ℕ} {o : List ℕ} {at : ℕ} {o' : List ℕ} {i next : ℕ} {first : Bool} (row : Row cells inp k from d o at o' i next first) where
  -- no cell is left
  pub row-end : length cells ≤ i → Broken cells inp k from d
  unfolding read
  row-end h st e = row.reads st e ∙ rw (drop_of_length-le cells h)

  -- the cell is refused
  pub row_bad : i < length cells → class_of (length inp) k d (get_or cells i 0) ≡ None → Broken cells inp k from d
  row_bad h q st e = row.reads st e ∙ read_one cells (length inp) k d i h None q row.items st e

  -- the group ends
  pub row-close : {o'' : List ℕ} {r : ℕ} → from ≤ i → i < length cells → class_of (length inp) k d (get_or cells i 0) ≡ (Some Close) → Emits o' next (closes k ∷ []) o'' r → Shown cells inp k from d o at o'' (i + 1) r
  row-close g h q w = record {
    items = row.items;
    after = omega arith;
    within = omega arith;
    reads = λ st e. row.reads st e ∙ read_one cells (length inp) k d i h (Some Close) q row.items st e;
    text = then row.text w;
  }

  -- a leaf
  pub row-leaf : {o'' : List ℕ} {r : ℕ} → i < length cells → class_of (length inp) k d (get_or cells i 0) ≡ (Some Leafy) → Emits o' next (lead k first (field_of (get_or cells i 0)) ++ leaf_text inp (leaf_in (get_or cells i 0))) o'' r
      → Row cells inp k from d o at o'' (i + 1) r false
  row-leaf {o''} {r} h q w =
      let f : ℕ = field_of (get_or cells i 0) in
      let v : tree.Leaf = leaf_in (get_or cells i 0) in
      record {
        items = row.items ⊕ leaf f v tree.none;
        begun = some-leaf row.items f v tree.none;
        reads = λ st e. row.reads st e ∙ read_one cells (length inp) k d i h (Some Leafy) q row.items st e;
        text = rw (row-append inp k true row.items (leaf f v tree.none), ← row.begun, one-leaf inp k first f v) (then row.text w);
      }

  -- a group
  pub row-group : (g : Bool) {o₁ o₂ : List ℕ} {p j r : ℕ} → i < length cells → class_of (length inp) k d (get_or cells i 0) ≡ opening g → Emits o' next (lead k first (field_of (get_or cells i 0)) ++ (opens g ∷ [])) o₁ p → Shown cells inp g (i + 1) (d + 1) o₁ p o₂ j r
      → Row cells inp k from d o at o₂ j r false
  row-group g {o₁} {o₂} {p} {j} {r} h q w s =
      let f : ℕ = field_of (get_or cells i 0) in
      record {
        items = row.items ⊕ group g f s.items tree.none;
        begun = some-group row.items g f s.items tree.none;
        reads = λ st e. row.reads st e ∙ read_open cells (length inp) k d i h g q row.items st e ∙ s.reads (push k f row.items st) (deeper (height st) d e);
        text = rw (row-append inp k true row.items (group g f s.items tree.none), ← row.begun, one-group inp k first g f s.items, ← append_assoc)
            (then (then row.text w) s.text);
      }

  -- a group that is refused
  pub row_broken : (g : Bool) → i < length cells → class_of (length inp) k d (get_or cells i 0) ≡ opening g → Broken cells inp g (i + 1) (d + 1) → Broken cells inp k from d
  row_broken g h q b st e =
      row.reads st e ∙ read_open cells (length inp) k d i h g q row.items st e ∙ b (push k (field_of (get_or cells i 0)) row.items st) (deeper (height st) d e)
