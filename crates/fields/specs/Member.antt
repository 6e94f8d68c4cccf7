-- Members that may be left out.
use Rattle.std.specs.Prelude.{ℕ, Bool, eqb}
use Rattle.octets.specs.Text.{pick}
use Rattle.cells.specs.Items.{Items, none, leaf, flag, text}

-- a text by its number, where there is one
abbrev pub opt_text : ℕ → ℕ → Items
opt_text f t = pick (eqb t 0) none (leaf f (text t) none)

-- a yes that is left out for a no
abbrev pub opt_yes : ℕ → Bool → Items
opt_yes f b = pick b (leaf f (flag 1) none) none
