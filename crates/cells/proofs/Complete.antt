-- The cells of a good tree are read back as that tree.
use Rattle.std.specs.Prelude.{Option, Some, None}
use mathlib.Core.Path.{◌≡◌, refl, ◌∙◌}
use mathlib.Core.List.{List, [], ◌∷◌, ◌++◌, append_assoc}
use mathlib.Core.Bool.{Bool, true, false}
use mathlib.Core.Option.{some}
use Prim.Native.Nat.{ℕ, suc, ◌+◌, ◌*◌, ◌/◌, ◌%◌, ◌<◌}
use native.Mathlib.Omega.{arith}
use borrow.Author.Tests.{lt-ltb, le-leb, eq-eqb}
use lib.Dec.{eqb}
use Rattle.names.specs.Numbers.{last_text}
use Rattle.cells.specs.Cell.{cell_of, field_of, f_number, f_flag, f_part, f_text, f_object, f_list, f_close, f_prefix, f_octet, f_word}
use Rattle.cells.specs.Items as items
use Rattle.cells.specs.Items.{Leaf, number, flag, part, text, prefix, octet, word, Items, leaf, group, ◌⊕◌, record_of, leaf_cell, open_cell, close_cell, flat}
use Rattle.cells.specs.Read.{field_ok, below, text_ok, prefix_ok, leaf_ok, leaf_of, leaf_in, bare, closes, placed, item_class, class_of, Stack, root, push, height, going, turn, step, and_then, read, items_of}
use Rattle.cells.specs.Good.{GoodLeaf, GoodRow, Good}
use Rattle.cells.specs.declared.class.Class.{Class}
use Rattle.cells.specs.declared.class.Class.TheVariants.{Leafy, Object, Entries, Close}
use Rattle.cells.proofs.Packs.{field_back, form_back, depth_back, len-back, value-back}
use Rattle.cells.proofs.Rows.{⊕-none, ⊕-assoc}
use Rattle.cells.proofs.Classes.{opening, key-ok}

-- what a leaf's cell is read as
record Fine (n : ℕ) (k : Bool) (d f : ℕ) (v : Leaf) (c : ℕ) : Type 0 where
  class : class_of n k d c ≡ (Some Leafy)
  field : field_of c ≡ f
  value : leaf_in c ≡ v

module _ (n : ℕ) (k : Bool) (d f : ℕ) (hd : d < 16) (hf : field_ok k f ≡ true) where
  -- a leaf of this form, length and value
  packed : (form len v : ℕ) → form < 16 → len < 65536 → v < 4294967296 → eqb form f_object ≡ false → eqb form f_list ≡ false → eqb form f_close ≡ false
      → leaf_ok n form len v ≡ true → Fine n k d f (leaf_of form len v) (cell_of f form d len v)
  unfolding class_of placed item_class
  packed form len v hm hl hv n₄ n₅ n₆ ok =
      let b₀ = field_back f form d len v hm hd hl hv in
      let b₁ = form_back f form d len v hm hd hl hv in
      let b₂ = depth_back f form d len v hm hd hl hv in
      let b₃ = len-back f form d len v hm hd hl hv in
      let b₄ = value-back f form d len v hm hd hl hv in
      record {
        class = simp (b₀, b₁, b₂, b₃, b₄, n₄, n₅, n₆, hf, ok, eq-eqb d d refl);
        field = b₀;
        value = rw (b₁, b₃, b₄);
      }

  fine : n < 65536 → (v : Leaf) → GoodLeaf n v → Fine n k d f v (leaf_cell d f v)
  unfolding leaf_cell leaf_ok below text_ok prefix_ok leaf_of
  fine small (number v) g = packed f_number 0 v (omega arith) (omega arith) g refl refl refl refl
  fine small (flag v) g =
      packed f_flag 0 v (omega arith) (omega arith) (omega arith) refl refl refl (lt-ltb v 2 g)
  fine small (part at len) g =
      packed f_part len at (omega arith) (omega arith) (omega arith) refl refl refl
      (le-leb (at + len) n g)
  fine small (text v) g =
      packed f_text 0 v (omega arith) (omega arith) (omega (arith, g.1)) refl refl refl
      (simp (lt-ltb 0 v g.0, le-leb v last_text g.1))
  fine small (prefix at len bits) g =
      let p : (at * 256 + bits) % 256 ≡ bits = omega (arith, g.0) in
      let q : (at * 256 + bits) / 256 ≡ at = omega (arith, g.0) in
      rw (p, q)
      at (packed f_prefix len (at * 256 + bits) (omega arith) (omega (arith, g.2)) (omega (arith, g.0, g.2))
      refl refl refl
      (simp (p, q, eq-eqb len ((bits + 7) / 8) g.1, le-leb (at + len) n g.2)))
  fine small (octet v) g =
      packed f_octet 0 v (omega arith) (omega arith) (omega arith) refl refl refl (lt-ltb v 256 g)
  fine small (word v) g = packed f_word 0 v (omega arith) (omega arith) g refl refl refl refl

  class-opens : (g : Bool) → (class_of n k d (open_cell d g f) ≡ opening g) × (field_of (open_cell d g f) ≡ f)
  unfolding class_of placed item_class bare
  class-opens true =
      let b₀ = field_back f f_object d 0 0 (omega arith) hd (omega arith) (omega arith) in
      let b₁ = form_back f f_object d 0 0 (omega arith) hd (omega arith) (omega arith) in
      let b₂ = depth_back f f_object d 0 0 (omega arith) hd (omega arith) (omega arith) in
      let b₃ = len-back f f_object d 0 0 (omega arith) hd (omega arith) (omega arith) in
      let b₄ = value-back f f_object d 0 0 (omega arith) hd (omega arith) (omega arith) in
      (simp (b₀, b₁, b₂, b₃, b₄, hf, eq-eqb d d refl), b₀)
  class-opens false =
      let b₀ = field_back f f_list d 0 0 (omega arith) hd (omega arith) (omega arith) in
      let b₁ = form_back f f_list d 0 0 (omega arith) hd (omega arith) (omega arith) in
      let b₂ = depth_back f f_list d 0 0 (omega arith) hd (omega arith) (omega arith) in
      let b₃ = len-back f f_list d 0 0 (omega arith) hd (omega arith) (omega arith) in
      let b₄ = value-back f f_list d 0 0 (omega arith) hd (omega arith) (omega arith) in
      (simp (b₀, b₁, b₂, b₃, b₄, hf, eq-eqb d d refl), b₀)

class-closes : (n : ℕ) (k : Bool) (d : ℕ) → d < 16 → class_of n k (d + 1) (close_cell d) ≡ (Some Close)
unfolding class_of closes bare
class-closes n k d hd =
    simp (
      field_back 0 f_close d 0 0 (omega arith) hd (omega arith) (omega arith),
      form_back 0 f_close d 0 0 (omega arith) hd (omega arith) (omega arith),
      depth_back 0 f_close d 0 0 (omega arith) hd (omega arith) (omega arith),
      len-back 0 f_close d 0 0 (omega arith) hd (omega arith) (omega arith),
      value-back 0 f_close d 0 0 (omega arith) hd (omega arith) (omega arith),
      eq-eqb (d + 1) (d + 1) refl,
    )

-- one cell is read
next : (n : ℕ) (k : Bool) (d c : ℕ) (q : Option Class) (acc : Items) (st : Stack) (cs : List ℕ) → height st + 1 ≡ d → class_of n k d c ≡ q
    → read n (c ∷ cs) (going k acc st) ≡ and_then (turn q c k acc st) (read n cs)
unfolding read step
next n k d c q acc st cs e h = rw (e, h)

opened : (n : ℕ) (k : Bool) (d f : ℕ) (g : Bool) (acc : Items) (st : Stack) (cs : List ℕ) → height st + 1 ≡ d → d < 16 → field_ok k f ≡ true
    → read n (open_cell d g f ∷ cs) (going k acc st) ≡ read n cs (going g items.none (push k f acc st))
opened n k d f true acc st cs e hd hf =
    let w = class-opens n k d f hd hf true in
    next n k d (open_cell d true f) (Some Object) acc st cs e w.0 ∙ rw w.1
opened n k d f false acc st cs e hd hf =
    let w = class-opens n k d f hd hf false in
    next n k d (open_cell d false f) (Some Entries) acc st cs e w.0 ∙ rw w.1

complete : (n : ℕ) (is : Items) (k : Bool) (d : ℕ) (acc : Items) (st : Stack) (rest : List ℕ) → n < 65536 → height st + 1 ≡ d → GoodRow n k d is
    → read n (flat d is ++ rest) (going k acc st) ≡ read n rest (going k (acc ⊕ is) st)
unfolding flat
complete n items.none k d acc st rest small e h = rw ⊕-none
complete n (leaf f v xs) k d acc st rest small e h =
    let w = fine n k d f h.0 (key-ok k f h.1) small v h.2 in
    next n k d (leaf_cell d f v) (Some Leafy) acc st (flat d xs ++ rest) e w.class
    ∙ rw (w.field, w.value) (complete n xs k d (acc ⊕ leaf f v items.none) st rest small e h.3 ∙ rw ⊕-assoc)
complete n (group g f is xs) k d acc st rest small e h =
    let up : suc (height st) + 1 ≡ d + 1 = omega arith in
    opened n k d f g acc st ((flat (d + 1) is ++ (close_cell d ∷ flat d xs)) ++ rest) e h.0 (key-ok k f h.1)
    ∙ rw (append_assoc (flat (d + 1) is) (close_cell d ∷ flat d xs) rest)
    (complete n is g (d + 1) items.none (push k f acc st) (close_cell d ∷ (flat d xs ++ rest)) small up h.2
    ∙ next n g (d + 1) (close_cell d) (Some Close) is (push k f acc st) (flat d xs ++ rest) up (class-closes n g d h.0)
    ∙ complete n xs k d (acc ⊕ group g f is items.none) st rest small e h.3 ∙ rw ⊕-assoc)

pub complete_record : (n : ℕ) (is : Items) → n < 65536 → Good n is → items_of n (flat 0 (record_of is)) ≡ some is
unfolding items_of read step flat
complete_record n is small h =
    rw (eq-eqb (open_cell 0 true 0) (open_cell 0 true 0) refl)
    (complete n is true 1 items.none root (close_cell 0 ∷ []) small refl h ∙ next n true 1 (close_cell 0) (Some Close) is root [] refl (class-closes n true 0 (omega arith)))
