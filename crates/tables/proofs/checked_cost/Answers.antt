use Prim.Native.Nat.{◌+◌}
use mathlib.Core.Path.{◌≡◌, sym, ◌∙◌}
use mathlib.Core.Bool.{false}
use native.Mathlib.Omega.{arith}
use Rattle.octets.proofs.Tests.{all-fails}
use Rattle.tables.specs.Tables.{place_ok, places_ok}
use Rattle.tables.proofs.checked_cost.Goals as goal

pub returns-then-not-place_ok : goal.returns-then-not-place_ok
returns-then-not-place_ok c =
    let a = c.args in
    let w = a.words.now in
    let f : places_ok w a.p a.u ≡ false = all-fails (λ j. place_ok w (a.p + j)) c.loop-j.j a.u (omega arith) (sym c.place_ok.ensures ∙ c.if-not-place_ok.true) in
    rw f
