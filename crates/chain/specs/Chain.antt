-- A list of block numbers, and the octets that it spells.
use Rattle.std.specs.Prelude.{ℕ, ◌+◌, ◌*◌, ◌-◌, ◌≤◌, min, ◌≡◌, Bool, true, not, ◌&&◌, List, [], ◌∷◌, ◌++◌, ltb, eqb, length, get_or, take, drop}
use Rattle.octets.specs.Emit.{put}
use Rattle.octets.specs.Tests.{all}

-- x stands nowhere in the list
unfoldable pub fresh : ℕ → List ℕ → Bool
fresh x [] = true
fresh x (y ∷ ys) = not (eqb x y) && fresh x ys

-- every entry is below b, and none stands twice
unfoldable pub chain_ok : ℕ → List ℕ → Bool
chain_ok b [] = true
chain_ok b (x ∷ xs) = ltb x b && (fresh x xs && chain_ok b xs)

-- the runs from p to q and from q to e have changed places
abbrev pub swapped : List ℕ → ℕ → ℕ → ℕ → List ℕ
swapped l p q e = take p l ++ (take (e - q) (drop q l) ++ (take (q - p) (drop p l) ++ drop e l))

-- the 64 octets of a block
abbrev pub block : List ℕ → ℕ → List ℕ
block bs x = take 64 (drop (64 * x) bs)

-- the octets of a list of blocks, in its order
unfoldable pub flat : List ℕ → List ℕ → List ℕ
flat bs [] = []
flat bs (x ∷ xs) = block bs x ++ flat bs xs

-- the entry at i is a block below b, and its home is i
abbrev pub home_at : List ℕ → List ℕ → ℕ → ℕ → Bool
home_at home list b i = ltb (get_or list i 0) b && eqb (get_or home (get_or list i 0) 0) i

-- the first n entries are blocks below b, each at its home, so that none stands twice
abbrev pub homed : List ℕ → List ℕ → ℕ → ℕ → Bool
homed home list b n = all (home_at home list b) n

-- x is one of the first n entries, by its home
abbrev pub in_use_at : List ℕ → List ℕ → ℕ → ℕ → Bool
in_use_at home list n x = ltb (get_or home x 0) n && eqb (get_or list (get_or home x 0) 0) x

-- the m octets from place v on of those that the list spells are the octets of its blocks from index at on: to read, and to
-- write over
pub record Stretch (b : ℕ) (l : List ℕ) (v at m : ℕ) : Type 0 where
  pub inside : at + m ≤ 64 * b
  pub reads : (bs : List ℕ) → 64 * b ≤ length bs → take m (drop v (flat bs l)) ≡ take m (drop at bs)
  pub writes : (bs s : List ℕ) → 64 * b ≤ length bs → length s ≡ m → flat (put bs at s) l ≡ put (flat bs l) v s

-- the k entries from entry a on have become n: the first of them stay, and the others behind them too
pub record Resized (list list' : List ℕ) (m a k n : ℕ) : Type 0 where
  pub new : List ℕ
  pub long : length new ≡ n - k
  pub entries : take (m + n - k) list' ≡ take (a + min k n) list ++ (new ++ take (m - (a + k)) (drop (a + k) list))

-- f' is f with the k blocks from block a on made n, and src written from their octet d on: what stands before and behind is
-- as it was
pub record Spliced (f f' : List ℕ) (a k n d : ℕ) (src : List ℕ) : Type 0 where
  pub size : length f' + 64 * k ≡ length f + 64 * n
  pub front : (i : ℕ) → i ≤ 64 * a + d → take i f' ≡ take i f
  pub own : take (d + length src) (drop (64 * a) f') ≡ take d (drop (64 * a) f) ++ src
  pub behind : (o : ℕ) → 64 * (a + k) ≤ o → drop (o + 64 * n - 64 * k) f' ≡ drop o f
