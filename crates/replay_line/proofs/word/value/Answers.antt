use Rattle.std.proofs.Common.{◌≤◌, ◌<◌, length, get_or, arith}
use native.Mathlib.Numerals.{add-one}
use native.Mathlib.Nat.{pow-suc}
use Rattle.octets.proofs.Tests.{all-at}
use Rattle.replay_line.specs.Word.{is_digit}
use Rattle.replay_line.proofs.Words.{digit_low, value_on}
use mathlib.Core.Path.{◌∙◌}
use Rattle.replay_line.proofs.word.value.Goals as goal

pub overflow_sub-v : goal.overflow_sub-v
overflow_sub-v c =
    let w = c.args.w.now in
    let i = c.loop-x.x-index in
    omega (arith, digit_low (get_or w i 0) (all-at (λ i. is_digit (get_or w i 0)) i (length w) c.requires.w_value (omega arith)))

pub loop-x-preserved : goal.loop-x-preserved
loop-x-preserved c =
    let w = c.args.w.now in
    let i = c.loop-x.x-index in
    let h : i < length w = omega arith in
    let d : (48 ≤ get_or w i 0) × (get_or w i 0 ≤ 57) = digit_low (get_or w i 0) (all-at (λ i. is_digit (get_or w i 0)) i (length w) c.requires.w_value h) in
    (rw (add-one, pow-suc) (omega arith), value_on w i c.loop-x.v h ∙ c.loop-x.invariant.1)
