-- Members that may be left out are good rows, and the octets of a part are octets.
use Prim.Native.Nat.{ℕ, zero, suc, ◌≤◌, ◌<◌}
use mathlib.Core.Path.{◌≡◌}
use mathlib.Core.List.{List, [], ◌∷◌}
use mathlib.Core.Bool.{Bool, true, false}
use native.Mathlib.Omega.{arith}
use borrow.Author.Tests.{eqb-false}
use lib.Dec.{eqb}
use lib.ListN.{get_or, take, drop}
use Rattle.octets.proofs.Picks.{pick_elim}
use Rattle.names.specs.Numbers.{last_text}
use Rattle.cells.specs.Good.{Key, GoodRow}
use Rattle.fields.specs.Member.{opt_text, opt_yes}

pub text-good : (n d f t : ℕ) → d < 16 → Key true f → t ≤ last_text → GoodRow n true d (opt_text f t)
text-good n d f t l k h =
    pick_elim (GoodRow n true d) (eqb t 0) (λ e. tt)
    (λ e. let z : t ≡ 0 → ⊥ = eqb-false t 0 e in let p : 0 < t = omega (arith, z) in (l, k, (p, h), tt))

pub yes_good : (n d f : ℕ) (b : Bool) → d < 16 → Key true f → GoodRow n true d (opt_yes f b)
yes_good n d f true l k = (l, k, omega arith, tt)
yes_good n d f false l k = tt

abbrev pub Octets : List ℕ → Type 0
Octets s = (i : ℕ) → get_or s i 0 < 256

pub take-small : (n : ℕ) (l : List ℕ) → Octets l → Octets (take n l)
take-small zero l h i = omega arith
take-small (suc n) [] h i = h i
take-small (suc n) (x ∷ l) h zero = h zero
take-small (suc n) (x ∷ l) h (suc i) = take-small n l (λ j. h (suc j)) i

pub drop-small : (n : ℕ) (l : List ℕ) → Octets l → Octets (drop n l)
drop-small zero l h i = h i
drop-small (suc n) [] h i = h i
drop-small (suc n) (x ∷ l) h i = drop-small n l (λ j. h (suc j)) i
