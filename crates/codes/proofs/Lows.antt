-- The text number that a table gives is 0 or listed.
use Prim.Native.Nat.{ℕ, suc, ◌+◌, ◌≤◌}
use mathlib.Core.List.{List, [], ◌∷◌}
use native.Mathlib.Omega.{arith}
use lib.ListN.{length}
use Rattle.octets.proofs.Picks.{pick_elim}
use Rattle.names.specs.Place.{same, place_from}
use Rattle.names.specs.Texts.{all_texts, number_of}
use Rattle.names.specs.Numbers.{last_text, texts-counted}
use Rattle.codes.specs.Codes.{Row, name_in, text_in}

place-low : (n k : ℕ) (xs : List (List ℕ)) (t : List ℕ) → k + length xs ≤ n + 1 → place_from k xs t ≤ n
unfolding place_from
place-low n k [] t h = omega arith
place-low n k (x ∷ xs) t h = pick_elim (λ (p : ℕ). p ≤ n) (same x t) (λ e. omega arith) (λ e. place-low n (suc k) xs t (omega arith))

pub text-low : (rows : List Row) (other : List ℕ) (c : ℕ) → text_in rows other c ≤ last_text
unfolding text_in number_of
text-low rows other c = place-low last_text 0 all_texts (name_in rows other c) (omega (arith, texts-counted))
