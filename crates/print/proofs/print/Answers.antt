use Rattle.cells.proofs.Answers.{too_long, no_front}
use Rattle.print.proofs.Says.{says_bad, says-short, says-whole}
use borrow.Author.Rules.{rules}
use Rattle.print.proofs.print.Goals as goal

pub returns-then-input-gt65535 : goal.returns-then-input-gt65535
returns-then-input-gt65535 c = too_long c.if-input-gt65535.true

pub returns-then-out-size : goal.returns-then-out-size
returns-then-out-size c =
    let a = c.args in
    let z = no_front c.print_whole.new.out a.out.now c.print_whole.auto.out in
    rw z (says-short a.cells.now a.input.now a.out.now c.if-input-gt65535.false (rw c.in-Some.is at c.print_whole.ensures) (rw z at c.if-out-size.true))

pub returns : goal.returns
returns c =
    let a = c.args in
    let z = no_front c.print_whole.new.out a.out.now c.print_whole.auto.out in
    says-whole a.cells.now a.input.now a.out.now c.if-input-gt65535.false (rw c.in-Some.is at c.print_whole.ensures) (search rules) (rw z at c.if-out-size.false) c.print_whole-2.result (rw z at c.print_whole-2.ensures)

pub returns-in_default : goal.returns-in_default
returns-in_default c =
    let a = c.args in
    let z = no_front c.print_whole.new.out a.out.now c.print_whole.auto.out in
    rw z (says_bad a.cells.now a.input.now a.out.now c.if-input-gt65535.false (rw c.in_default.is at c.print_whole.ensures))
