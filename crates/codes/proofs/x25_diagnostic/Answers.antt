use mathlib.Core.Path.{◌≡◌, refl, ◌∙◌}
use mathlib.Core.Bool.{true}
use mathlib.Core.List.{[]}
use Rattle.octets.specs.Tests.{all}
use Rattle.names.specs.Texts.{texts, number_of}
use Rattle.names.specs.Place.{place_from, same}
use Rattle.codes.specs.Codes.{name_in, text_in, diagnostics}
use Rattle.codes.proofs.Small.{right, within, beyond}
use borrow.Author.Rules.{rules}
use Rattle.codes.proofs.x25_diagnostic.Goals as goal

test : all (right diagnostics [] 0 0 251) 251 ≡ true
unfolding diagnostics texts number_of place_from same name_in text_in all
test = refl

pub returns-then-c-lt251 : goal.returns-then-c-lt251
unfolding diagnostics texts number_of place_from same name_in
returns-then-c-lt251 c = c.lifted.ensures ∙ within diagnostics [] 0 0 251 c.args.c test (search rules)

pub returns : goal.returns
unfolding diagnostics texts number_of place_from same
returns c = beyond diagnostics [] 0 0 251 c.args.c refl (search rules) refl
