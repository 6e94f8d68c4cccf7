use mathlib.Core.Path.{◌≡◌}
use mathlib.Core.Bool.{true}
use Rattle.octets.specs.Tests.{all}
use Rattle.tables.specs.Tables.{key_new}
use Rattle.tables.proofs.keys_ok.Given as goal

abbrev pub invariant-loop-i : goal.invariant-loop-i
invariant-loop-i l = all (key_new l.words l.p) l.i ≡ true
