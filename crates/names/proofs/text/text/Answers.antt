use borrow.Author.Rules.{rules}
use mathlib.Core.List.{[]}
use mathlib.Core.Path.{sym}
use lib.ListN.{get_or-eq_default}
use Rattle.names.specs.Texts.{texts, all_texts}
use Rattle.names.proofs.text.text.Goals as goal

pub returns-in-289-to-4294967295 : goal.returns-in-289-to-4294967295
unfolding texts
returns-in-289-to-4294967295 c = sym (get_or-eq_default all_texts [] {n = c.args.number} (search rules))
