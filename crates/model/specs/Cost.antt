-- What a part of a unit costs: document 01, 'Shares'.
use Rattle.std.specs.Prelude.{ℕ, ◌+◌, ◌/◌}

-- the blocks that d octets fill, 64 in each
abbrev pub blocks : ℕ → ℕ
blocks d = (d + 63) / 64

-- what a unit costs: its body's blocks and its top's
abbrev pub unit_cost : ℕ → ℕ → ℕ
unit_cost body top = body + top
