-- The 60-second rule on f64 times.
use Rattle.std.specs.Prelude.{Bool, false, pos, Float}
use Rattle.std.specs.Float.{fin, binary64}
use Rattle.std.specs.Float.Ieee.{sub, lt}

-- 60.0 = 15 * 2 ^ 2
abbrev pub sixty : Float
sixty = fin false 15 (pos 2)

unfoldable pub fresh_t : Float → Float → Bool
fresh_t now then = lt (sub binary64 now then) sixty
