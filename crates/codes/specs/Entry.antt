-- An entry of a table of small numbers: 0 stands for other, and any other for that many on from base.
use Rattle.std.specs.Prelude.{ℕ, ◌+◌, eqb}
use Rattle.octets.specs.Text.{pick}

abbrev pub lift : ℕ → ℕ → ℕ → ℕ
lift other base t = pick (eqb t 0) other (base + t)
