use mathlib.Core.Path.{sym, ◌∙◌}
use native.Mathlib.Omega.{arith}
use Rattle.tables.specs.Tables.{key_new}
use Rattle.octets.proofs.Tests.{all_none, all_more, all-fails, all-at, all_of}
use Rattle.tables.proofs.keys_ok.Goals as goal

pub loop-i-init : goal.loop-i-init
loop-i-init c = let f = key_new c.args.words.now c.args.p in all_more f 0 (all_none f) (all_none _)

pub returns-then-not-key_new : goal.returns-then-not-key_new
returns-then-not-key_new c =
    let a = c.args in
    sym (all-fails (key_new a.words.now a.p) c.loop-i.i a.u (omega arith) (sym c.key_new.ensures ∙ c.if-not-key_new.true))

pub returns : goal.returns
returns c =
    let a = c.args in
    let f = key_new a.words.now a.p in
    sym (all_of f a.u (λ k h. all-at f k c.loop-i.i c.loop-i.invariant (omega arith)))
