use mathlib.Core.Path.{◌≡◌, refl, ◌∙◌}
use mathlib.Core.Bool.{true}
use mathlib.Core.List.{[]}
use Rattle.octets.specs.Tests.{all}
use Rattle.names.specs.Texts.{texts, number_of}
use Rattle.names.specs.Place.{place_from, same}
use Rattle.codes.specs.Codes.{name_in, text_in, reset_causes}
use Rattle.codes.proofs.Small.{right, within, beyond}
use borrow.Author.Rules.{rules}
use Rattle.codes.proofs.x25_reset_cause.Goals as goal

test : all (right reset_causes [] 0 0 30) 30 ≡ true
unfolding reset_causes texts number_of place_from same name_in text_in all
test = refl

pub returns-then-c-lt30 : goal.returns-then-c-lt30
unfolding reset_causes texts number_of place_from same name_in
returns-then-c-lt30 c = c.lifted.ensures ∙ within reset_causes [] 0 0 30 c.args.c test (search rules)

pub returns : goal.returns
unfolding reset_causes texts number_of place_from same
returns c = beyond reset_causes [] 0 0 30 c.args.c refl (search rules) refl
