use mathlib.Core.Path.{refl, ◌∙◌}
use native.Mathlib.Omega.{arith}
use Rattle.pool.proofs.Places.{key_words}
use Rattle.pool.proofs.place.place_at.Goals as goal

pub returns : goal.returns
returns c =
    record {
      key_read = c.six.ensures ∙ key_words c.args.words.now c.args.p (omega (arith, c.requires));
      note_read = refl;
      body_read = refl;
      top_read = refl;
      bodyblocks_read = refl;
      topblocks_read = refl;
      time_read = refl;
    }
