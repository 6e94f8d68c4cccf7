-- What it says of a leaf's length and value that they are well formed.
use mathlib.Core.Path.{◌≡◌}
use mathlib.Core.Bool.{true, ◌&&◌}
use Prim.Native.Nat.{ℕ, ◌+◌, ◌/◌, ◌%◌, ◌≤◌, ◌<◌}
use borrow.Author.Tests.{eqb-true, ltb-true, leb-true}
use lib.Dec.{eqb, ltb, leb}
use Rattle.octets.proofs.Tests.{and_left, and_right}
use Rattle.names.specs.Numbers.{last_text}
use Rattle.cells.specs.Cell.{f_number, f_flag, f_part, f_text, f_prefix, f_octet, f_word}
use Rattle.cells.specs.Read.{below, text_ok, prefix_ok, leaf_ok}

below-is : (bound len v : ℕ) → below bound len v ≡ true → (len ≡ 0) × (v < bound)
unfolding below
below-is bound len v t = (eqb-true len 0 (and_left (eqb len 0) (ltb v bound) t), ltb-true v bound (and_right (eqb len 0) (ltb v bound) t))

module _ (n len v : ℕ) where
  pub number_is : leaf_ok n f_number len v ≡ true → len ≡ 0
  unfolding leaf_ok
  number_is t = eqb-true len 0 t

  pub flag_is : leaf_ok n f_flag len v ≡ true → (len ≡ 0) × (v < 2)
  unfolding leaf_ok
  flag_is t = below-is 2 len v t

  pub part-is : leaf_ok n f_part len v ≡ true → v + len ≤ n
  unfolding leaf_ok
  part-is t = leb-true (v + len) n t

  pub text-is : leaf_ok n f_text len v ≡ true → (len ≡ 0) × (0 < v) × (v ≤ last_text)
  unfolding leaf_ok text_ok
  text-is t =
      let w = and_right (eqb len 0) (ltb 0 v && leb v last_text) t in (
        eqb-true len 0 (and_left (eqb len 0) (ltb 0 v && leb v last_text) t),
        ltb-true 0 v (and_left (ltb 0 v) (leb v last_text) w),
        leb-true v last_text (and_right (ltb 0 v) (leb v last_text) w),
      )

  pub prefix-is : leaf_ok n f_prefix len v ≡ true → (len ≡ (v % 256 + 7) / 8) × (v / 256 + len ≤ n)
  unfolding leaf_ok prefix_ok
  prefix-is t = (
    eqb-true len ((v % 256 + 7) / 8) (and_left (eqb len ((v % 256 + 7) / 8)) (leb (v / 256 + len) n) t),
    leb-true (v / 256 + len) n (and_right (eqb len ((v % 256 + 7) / 8)) (leb (v / 256 + len) n) t),
  )

  pub octet-is : leaf_ok n f_octet len v ≡ true → (len ≡ 0) × (v < 256)
  unfolding leaf_ok
  octet-is t = below-is 256 len v t

  pub word-is : leaf_ok n f_word len v ≡ true → len ≡ 0
  unfolding leaf_ok
  word-is t = eqb-true len 0 t
