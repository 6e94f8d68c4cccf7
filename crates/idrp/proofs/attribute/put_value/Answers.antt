use borrow.Author.Rules.{rules}
use mathlib.Core.Path.{◌∙◌, sym}
use native.Mathlib.Omega.{arith}
use Rattle.octets.proofs.Emits.{nothing}
use Rattle.cells.proofs.Rows.{flat-none, row_as}
use Rattle.idrp.proofs.Attributes.{number-one, is_number, is-octets, no_value}
use Rattle.idrp.proofs.attribute.put_value.Goals as goal

pub returns-then-numbered : goal.returns-then-numbered
returns-then-numbered c =
    let a = c.args in
    row_as 4 (is_number a.body.base a.body.octets.now a.t a.b.start a.b.len (sym c.numbered.ensures ∙ c.if-numbered.true)) c.put_number.ensures

pub returns-then-b-gt0 : goal.returns-then-b-gt0
returns-then-b-gt0 c =
    let a = c.args in
    row_as 4 (is-octets a.body.base a.body.octets.now a.t a.b.start a.b.len (sym c.numbered.ensures ∙ c.if-numbered.false) c.if-b-gt0.true) c.put_hex_part.ensures

pub returns-else-b-gt0 : goal.returns-else-b-gt0
returns-else-b-gt0 c =
    let a = c.args in
    row_as 4 (no_value a.body.base a.body.octets.now a.t a.b.start a.b.len (sym c.numbered.ensures ∙ c.if-numbered.false) c.if-b-gt0.false) (rw flat-none (nothing _ _ (search rules) (search rules)))
