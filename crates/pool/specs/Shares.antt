-- The share rules, on the pending units.
use Rattle.std.specs.Prelude.{ℕ, ◌+◌, ◌*◌, ◌-◌, ◌≤◌, ◌<◌, ◌≡◌, cond, List, [], ◌∷◌, ltb, length, get_or, set}
use Rattle.model.specs.Cost.{blocks, unit_cost}
use Rattle.pool.specs.View.{Unit, blank}

-- the blocks of a unit, of a link's units, and what all links use above the reserve
abbrev pub cost_of : Unit → ℕ
cost_of u = unit_cost (blocks (length u.body)) (blocks (length u.top))

unfoldable pub in_use : List Unit → ℕ
in_use [] = 0
in_use (u ∷ us) = cost_of u + in_use us

unfoldable pub excesses : ℕ → List (List Unit) → ℕ
excesses r [] = 0
excesses r (us ∷ st) = (in_use us - r) + excesses r st

pub record Fine (c : ℕ) (us : List Unit) : Type 0 where
  pub few : length us ≤ 8
  pub capped : in_use us ≤ c
  pub apart : (i j : ℕ) → i < j → j < length us → (get_or us i blank).key ≡ (get_or us j blank).key → ⊥

-- n links, b blocks, reserve r, cap c
pub record Shared (n b r c : ℕ) (st : List (List Unit)) : Type 0 where
  pub many : length st ≡ n
  pub each : (l : ℕ) → l < n → Fine c (get_or st l [])
  pub common : excesses r st ≤ b - n * r

-- room for the units us of link l in the place of those it has: 2, or the refusal
unfoldable pub room_for : ℕ → ℕ → ℕ → ℕ → List (List Unit) → ℕ → List Unit → ℕ
room_for n b r c st l us =
    cond (ltb 8 (length us)) 11 (cond (ltb c (in_use us)) 12 (cond (ltb (b - n * r) (excesses r (set st l us))) 13 2))
