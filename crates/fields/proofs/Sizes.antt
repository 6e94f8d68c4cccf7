-- How many cells rows of members have, at any depth.
use Prim.Native.Nat.{ℕ, ◌+◌, ◌≤◌}
use mathlib.Core.Path.{◌≡◌, refl, ap, ◌∙◌}
use mathlib.Core.Bool.{Bool, true, false}
use native.Mathlib.Nat.{min-le_right}
use native.Mathlib.Omega.{arith}
use mathlib.Core.List.{List}
use lib.Dec.{eqb}
use lib.ListN.{length, take, drop, length-append, length-take, length-drop}
use Rattle.octets.proofs.Picks.{pick_elim}
use Rattle.cells.specs.Items.{Leaf, Items, none, leaf, flag, text, ◌⊕◌, flat}
use Rattle.cells.proofs.Rows.{flat-none, flat-⊕}
use Rattle.fields.specs.Member.{opt_text, opt_yes}

abbrev pub size : ℕ → Items → ℕ
size d xs = length (flat d xs)

pub rows : (d : ℕ) (xs ys : Items) → size d (xs ⊕ ys) ≡ size d xs + size d ys
rows d xs ys = ap length (flat-⊕ d xs ys) ∙ length-append (flat d xs) (flat d ys)

pub empty : (d : ℕ) → size d none ≡ 0
empty d = ap length (flat-none d)

pub one : (d f : ℕ) (v : Leaf) → size d (leaf f v none) ≡ 1
unfolding flat
one d f v = refl

pub text-thin : (d f t : ℕ) → size d (opt_text f t) ≤ 1
text-thin d f t = pick_elim (λ (x : Items). size d x ≤ 1) (eqb t 0) (λ h. omega (arith, empty d)) (λ h. omega (arith, one d f (text t)))

pub yes_thin : (d f : ℕ) (b : Bool) → size d (opt_yes f b) ≤ 1
yes_thin d f true = omega (arith, one d f (flag 1))
yes_thin d f false = omega (arith, empty d)

-- a part of octets is no longer than they are
pub part-thin : (n k : ℕ) (s : List ℕ) → length (take n (drop k s)) ≤ length s
part-thin n k s = omega (arith, length-take n (drop k s), length-drop k s, min-le_right n (length (drop k s)))
