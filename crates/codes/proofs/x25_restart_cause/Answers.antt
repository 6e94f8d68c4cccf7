use mathlib.Core.Path.{◌≡◌, refl, ◌∙◌}
use mathlib.Core.Bool.{true}
use mathlib.Core.List.{[]}
use Rattle.octets.specs.Tests.{all}
use Rattle.names.specs.Texts.{texts, number_of}
use Rattle.names.specs.Place.{place_from, same}
use Rattle.codes.specs.Codes.{name_in, text_in, restart_causes}
use Rattle.codes.proofs.Small.{right, within, beyond}
use borrow.Author.Rules.{rules}
use Rattle.codes.proofs.x25_restart_cause.Goals as goal

test : all (right restart_causes [] 0 0 8) 8 ≡ true
unfolding restart_causes texts number_of place_from same name_in text_in all
test = refl

pub returns-then-c-lt8 : goal.returns-then-c-lt8
unfolding restart_causes texts number_of place_from same name_in
returns-then-c-lt8 c = c.lifted.ensures ∙ within restart_causes [] 0 0 8 c.args.c test (search rules)

pub returns : goal.returns
unfolding restart_causes texts number_of place_from same
returns c = beyond restart_causes [] 0 0 8 c.args.c refl (search rules) refl
