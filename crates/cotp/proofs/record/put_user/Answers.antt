use borrow.Author.Rules.{rules}
use Prim.Native.Nat.{◌+◌, ◌-◌}
use mathlib.Core.Path.{sym, ◌∙◌}
use lib.ListN.{length}
use Rattle.names.specs.Numbers.{k_user_data_len, k_tsdu_segment}
use Rattle.octets.proofs.Emits.{nothing}
use Rattle.cells.specs.Items.{Items, none, leaf, number}
use Rattle.cells.proofs.Rows.{then_row, flat-none}
use Rattle.fields.specs.Member.{opt_yes}
use Rattle.cotp.specs.Tpdu.{partial}
use Rattle.cotp.proofs.record.put_user.Goals as goal

pub returns-then-not-has_user : goal.returns-then-not-has_user
returns-then-not-has_user c = rw (sym c.has_user.ensures ∙ c.if-not-has_user.true, flat-none) (nothing _ _ (search rules) (search rules))

pub returns : goal.returns
returns c =
    let a = c.args in
    let t = a.t in
    let count : Items = leaf k_user_data_len (number (length t.part.octets.now - (t.head.li + 1))) none in
    rw (sym c.has_user.ensures ∙ c.if-not-has_user.false)
    (then_row a.depth count (opt_yes k_tsdu_segment (partial t.part.octets.now t.head)) c.put_number-told.ensures (rw c.partial.ensures at c.put_yes_if.ensures))
