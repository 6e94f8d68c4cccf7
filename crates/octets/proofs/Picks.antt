-- What holds of both picks holds of the pick.
use mathlib.Core.Path.{◌≡◌, refl}
use mathlib.Core.Bool.{Bool, true, false}
use Rattle.octets.specs.Text.{pick}

pub pick_elim : {A : Type 0} (P : A → Type 0) (b : Bool) {x y : A} → (b ≡ true → P x) → (b ≡ false → P y) → P (pick b x y)
pick_elim P true f g = f refl
pick_elim P false f g = g refl

-- a pick whose test is known
pub pick_yes : {A : Type 0} (x y : A) {b : Bool} → b ≡ true → pick b x y ≡ x
pick_yes x y e = rw e

pub pick_no : {A : Type 0} (x y : A) {b : Bool} → b ≡ false → pick b x y ≡ y
pick_no x y e = rw e
