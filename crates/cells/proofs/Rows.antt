-- Rows of items and their cells.
use mathlib.Core.Path.{◌≡◌, refl, sym, ap}
use mathlib.Core.List.{List, [], ◌∷◌, ◌++◌, append_assoc}
use mathlib.Core.Bool.{Bool, false}
use Prim.Native.Nat.{ℕ, ◌+◌, ◌≤◌, ◌<◌}
use native.Mathlib.Omega.{arith}
use lib.ListN.{length, length-append}
use Rattle.octets.specs.Emit.{Emits}
use Rattle.octets.proofs.Emits.{then, emits_as}
use Rattle.cells.specs.Items.{Items, none, leaf, group, ◌⊕◌, in_list, open_cell, close_cell, flat}
use Rattle.cells.specs.Good.{Key, GoodRow}

pub ⊕-none : (xs : Items) → xs ⊕ none ≡ xs
⊕-none none = refl
⊕-none (leaf f v xs) = ap (leaf f v) (⊕-none xs)
⊕-none (group g f is xs) = ap (group g f is) (⊕-none xs)

pub ⊕-assoc : (xs ys zs : Items) → (xs ⊕ ys) ⊕ zs ≡ xs ⊕ (ys ⊕ zs)
⊕-assoc none ys zs = refl
⊕-assoc (leaf f v xs) ys zs = ap (leaf f v) (⊕-assoc xs ys zs)
⊕-assoc (group g f is xs) ys zs = ap (group g f is) (⊕-assoc xs ys zs)

pub flat-none : (d : ℕ) → flat d none ≡ []
unfolding flat
flat-none d = refl

-- the cells of two rows, one after the other
pub flat-⊕ : (d : ℕ) (xs ys : Items) → flat d (xs ⊕ ys) ≡ flat d xs ++ flat d ys
unfolding flat
flat-⊕ d none ys = refl
flat-⊕ d (leaf f v xs) ys = rw (flat-⊕ d xs ys)
flat-⊕ d (group g f is xs) ys = rw (flat-⊕ d xs ys) (simp append_assoc)

pub flat-group : (d : ℕ) (g : Bool) (f : ℕ) (is : Items) → flat d (group g f is none) ≡ (open_cell d g f ∷ []) ++ (flat (d + 1) is ++ (close_cell d ∷ []))
unfolding flat
flat-group d g f is = refl

-- rows that are put one after the other, and a group around a row
pub then_row : {o p q : List ℕ} {at b c : ℕ} (d : ℕ) (xs ys : Items) → Emits o at (flat d xs) p b → Emits p b (flat d ys) q c → Emits o at (flat d (xs ⊕ ys)) q c
then_row d xs ys e f = emits_as (sym (flat-⊕ d xs ys)) (then e f)

pub around : {o p q s : List ℕ} {at b c e : ℕ} (d : ℕ) (g : Bool) (f : ℕ) (is : Items)
    → Emits o at (open_cell d g f ∷ []) p b → Emits p b (flat (d + 1) is) q c → Emits q c (close_cell d ∷ []) s e → Emits o at (flat d (group g f is none)) s e
around d g f is x y z = emits_as (sym (flat-group d g f is)) (then x (then y z))

-- what is put, as a row that is equal
pub row_as : {o p : List ℕ} {at n : ℕ} (d : ℕ) {xs ys : Items} → xs ≡ ys → Emits o at (flat d xs) p n → Emits o at (flat d ys) p n
row_as d e f = emits_as (ap (flat d) e) f

-- two good rows are a good row
pub good-⊕ : (n : ℕ) (k : Bool) (d : ℕ) (xs ys : Items) → GoodRow n k d xs → GoodRow n k d ys → GoodRow n k d (xs ⊕ ys)
good-⊕ n k d none ys g h = h
good-⊕ n k d (leaf f v xs) ys g h = (g.0, g.1, g.2, good-⊕ n k d xs ys g.3 h)
good-⊕ n k d (group o f is xs) ys g h = (g.0, g.1, g.2, good-⊕ n k d xs ys g.3 h)

-- a list under a key is good where its entries are, and has at most two cells more than they have
pub good_in_list : (n : ℕ) (k : Bool) (d f : ℕ) (xs : Items) → d < 16 → Key k f → GoodRow n false (d + 1) xs → GoodRow n k d (in_list f xs)
good_in_list n k d f none h q g = tt
good_in_list n k d f (leaf e v xs) h q g = (h, q, g, tt)
good_in_list n k d f (group o e is xs) h q g = (h, q, g, tt)

pub group-size : (d : ℕ) (g : Bool) (f : ℕ) (is : Items) → length (flat d (group g f is none)) ≡ length (flat (d + 1) is) + 2
group-size d g f is = rw (flat-group d g f is, length-append, length-append) (omega arith)

pub in_list_thin : (d f : ℕ) (xs : Items) → length (flat d (in_list f xs)) ≤ length (flat (d + 1) xs) + 2
in_list_thin d f none = rw (flat-none d, flat-none (d + 1)) (omega arith)
in_list_thin d f (leaf e v xs) =
    let w : length (flat d (in_list f (leaf e v xs))) ≡ length (flat (d + 1) (leaf e v xs)) + 2 = group-size d false f (leaf e v xs) in
    omega (arith, w)
in_list_thin d f (group o e is xs) =
    let w : length (flat d (in_list f (group o e is xs))) ≡ length (flat (d + 1) (group o e is xs)) + 2 = group-size d false f (group o e is xs) in
    omega (arith, w)
