use borrow.Author.Rules.{rules}
use mathlib.Core.Path.{sym, ◌∙◌}
use mathlib.Core.Bool.{true}
use Rattle.names.specs.Numbers.{k_cotp}
use Rattle.octets.proofs.Emits.{nothing}
use Rattle.cells.proofs.Rows.{around, flat-none}
use Rattle.cotp.specs.Tpdu.{members_of}
use Rattle.clnp.proofs.record.put_tpdu.Goals as goal

pub returns-in_default : goal.returns-in_default
returns-in_default c = rw (sym c.read.ensures ∙ c.in_default.is, flat-none) (nothing _ _ (search rules) (search rules))

pub returns : goal.returns
returns c =
    let t = c.args.t in
    rw (sym c.read.ensures ∙ c.in-Some.is)
    (around 1 true k_cotp (members_of t.base t.octets.now c.in-Some.h) c.open_object-opened.ensures c.put_members-shown.ensures c.close_group.ensures)
