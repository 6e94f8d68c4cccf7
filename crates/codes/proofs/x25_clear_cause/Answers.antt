use mathlib.Core.Path.{◌≡◌, refl, ◌∙◌}
use mathlib.Core.Bool.{true}
use mathlib.Core.List.{[]}
use Rattle.octets.specs.Tests.{all}
use Rattle.names.specs.Texts.{texts, number_of}
use Rattle.names.specs.Place.{place_from, same}
use Rattle.codes.specs.Codes.{name_in, text_in, clear_causes}
use Rattle.codes.proofs.Small.{right, within, beyond}
use borrow.Author.Rules.{rules}
use Rattle.codes.proofs.x25_clear_cause.Goals as goal

test : all (right clear_causes [] 0 0 58) 58 ≡ true
unfolding clear_causes texts number_of place_from same name_in text_in all
test = refl

pub returns-then-c-lt58 : goal.returns-then-c-lt58
unfolding clear_causes texts number_of place_from same name_in
returns-then-c-lt58 c = c.lifted.ensures ∙ within clear_causes [] 0 0 58 c.args.c test (search rules)

pub returns : goal.returns
unfolding clear_causes texts number_of place_from same
returns c = beyond clear_causes [] 0 0 58 c.args.c refl (search rules) refl
