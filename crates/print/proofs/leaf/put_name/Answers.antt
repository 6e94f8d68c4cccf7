use mathlib.Core.List.{append_assoc}
use Rattle.octets.proofs.Emits.{nothing, then, emits_as}
use Rattle.print.specs.Json.{name}
use borrow.Author.Rules.{rules}
use Rattle.print.proofs.leaf.put_name.Goals as goal

pub returns-then-keyed : goal.returns-then-keyed
unfolding name
returns-then-keyed c =
    rw c.if-keyed.true (emits_as (simp append_assoc) (then c.put_octet-quoted.ensures (then c.put_key-named.ensures c.put_octets.ensures)))

pub returns : goal.returns
unfolding name
returns c = rw c.if-keyed.false (nothing _ _ (search rules) (search rules))
