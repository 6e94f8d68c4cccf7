use native.Mathlib.Omega.{arith}
use Rattle.names.specs.Texts.{number_of}
use Rattle.names.specs.Place.{place_from, same}
use Rattle.codes.specs.Codes.{error_subcodes, text_in, name_in}
use Rattle.codes.proofs.idrp_error_subcode_name.Goals as goal

pub returns-in_default : goal.returns-in_default
unfolding error_subcodes text_in name_in number_of place_from same
returns-in_default c = grind arith
