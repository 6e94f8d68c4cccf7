-- A test at every number below a bound, as an early-exit loop makes it.
use Rattle.std.specs.Prelude.{Bool, true, ◌&&◌, ℕ, zero, suc}

unfoldable pub all : (ℕ → Bool) → ℕ → Bool
all p zero = true
all p (suc n) = all p n && p n
