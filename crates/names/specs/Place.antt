-- Texts by their place in a list.
use Rattle.std.specs.Prelude.{List, [], ◌∷◌, Bool, true, false, ◌&&◌, ℕ, suc, eqb}
use Rattle.octets.specs.Text.{pick}

-- two texts are the same, octet by octet
unfoldable pub same : List ℕ → List ℕ → Bool
same [] [] = true
same [] (y ∷ ys) = false
same (x ∷ xs) [] = false
same (x ∷ xs) (y ∷ ys) = let rest = same xs ys in eqb x y && rest

-- the place of a text in a list whose first place is k; 0 where it is none of them
unfoldable pub place_from : ℕ → List (List ℕ) → List ℕ → ℕ
place_from k [] t = 0
place_from k (x ∷ xs) t = let later = place_from (suc k) xs t in pick (same x t) k later
