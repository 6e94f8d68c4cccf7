use borrow.Author.Rules.{rules}
use mathlib.Core.List.{[]}
use mathlib.Core.Path.{sym}
use lib.ListN.{get_or-eq_default}
use Rattle.names.specs.Keys.{keys, all_keys}
use Rattle.names.proofs.key.key.Goals as goal

pub returns-in-91-to-255 : goal.returns-in-91-to-255
unfolding keys
returns-in-91-to-255 c = sym (get_or-eq_default all_keys [] {n = c.args.number} (search rules))
