-- A walk over octets by entries: what stands at each entry, up to the first that cannot be given.
use Rattle.std.specs.Prelude.{List, [], ◌++◌, ℕ, zero, suc, ◌+◌, ◌-◌, Option, Some, None}
use Rattle.cells.specs.Items.{Items, none, ◌⊕◌, flat}
use Rattle.cells.specs.declared.entry.Body.{Body}

-- what stands at a position: an entry that ends where the next one begins, with what it gives, or a stop
pub data Step (E : Type 0) : Type 0 where
  stop : Step E
  entry : ℕ → E → Step E

module _ {E R : Type 0} (f : ℕ → Step E) (ends : ℕ → R) (more : E → R → R) where
  abbrev pub on_step : Step E → ℕ → ℕ → (ℕ → R) → R
  on_step stop i n k = ends n
  on_step (entry e c) i n k = more c (k (e - suc i))

  -- from position i on, with n octets left, of which the first k belong to the entry before; `ends` is given the octets unread
  unfoldable pub walk_by : ℕ → ℕ → ℕ → R
  walk_by i zero k = ends 0
  walk_by i (suc n) (suc k) = walk_by (suc i) n k
  walk_by i (suc n) zero = on_step (f i) i (suc n) (λ d. walk_by (suc i) n d)

  -- over a part of size octets, from its position i on
  unfoldable pub walk_from : ℕ → ℕ → R
  walk_from size i = walk_by i (size - i) 0

-- how many octets a walk leaves unread
abbrev pub left_from : {E : Type 0} → (ℕ → Step E) → ℕ → ℕ → ℕ
left_from f = walk_from f (λ n. n) (λ c r. r)

-- the items of a walk; the same as cells
abbrev pub items_from : (ℕ → Step Items) → ℕ → ℕ → Items
items_from f = walk_from f (λ n. none) ◌⊕◌

abbrev pub cells_from : ℕ → (ℕ → Step Items) → ℕ → ℕ → List ℕ
cells_from d f = walk_from f (λ n. []) (λ c r. flat d c ++ r)

-- what a position of a part holds, by its octets: a body and where it starts, after which the next entry begins, or nothing whole
abbrev pub step_of : {E : Type 0} → (ℕ → ℕ → E) → Option Body → Step E
step_of give None = stop
step_of give (Some b) = entry (b.start + b.len) (give b.start b.len)

-- a body of len octets from start on
abbrev pub body : ℕ → ℕ → Option Body
body start len = Some (record { start = start; len = len })
