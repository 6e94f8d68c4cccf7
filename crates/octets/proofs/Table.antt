-- A table that holds a function's values, one after the other: a table of literals is one where antt computes the values to them.
use mathlib.Core.Path.{◌≡◌, ◌∙◌, ap, sym}
use mathlib.Core.List.{List, [], ◌∷◌}
use Prim.Native.Nat.{ℕ, zero, suc, ◌+◌, ◌<◌}
use native.Mathlib.Nat.{add-zero, zero-add, add-suc, suc-add, le_of_suc-le-suc, not-suc-le-zero}
use lib.ListN.{get_or}

abbrev pub values : (ℕ → ℕ) → ℕ → ℕ → List ℕ
values f i zero = []
values f i (suc n) = f i ∷ values f (suc i) n

from : (f : ℕ → ℕ) (n i k : ℕ) → k < n → get_or (values f i n) k 0 ≡ f (i + k)
from f zero i k h = absurd (not-suc-le-zero h)
from f (suc n) i zero h = ap f (sym (add-zero i))
from f (suc n) i (suc k) h = from f n (suc i) k (le_of_suc-le-suc h) ∙ ap f (suc-add i k ∙ sym (add-suc i k))

pub at : (f : ℕ → ℕ) (n k : ℕ) → k < n → get_or (values f 0 n) k 0 ≡ f k
at f n k h = from f n 0 k h ∙ ap f (zero-add k)
