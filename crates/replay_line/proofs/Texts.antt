-- The output lines, put together.
use Prim.Native.Nat.{ℕ}
use mathlib.Core.Path.{◌≡◌, refl}
use mathlib.Core.List.{List, [], ◌∷◌, ◌++◌}
use native.Mathlib.Omega.{arith}
use borrow.Author.Tests.{eq-eqb, ne_eqb}
use lib.ListN.{length}
use lib.Seq.{append_snoc}
use Rattle.octets.specs.Emit.{Emits}
use Rattle.octets.proofs.Emits.{then, emits_as}
use Rattle.octets.specs.Text.{digits, decimal, hex, hex_octet, each}
use Rattle.replay_line.specs.Said.{or_dash, said_with}

-- line number, answer and length, each with a space behind it
abbrev pub numbers : ℕ → ℕ → ℕ → List ℕ
numbers number answer len = digits 20 number ++ (32 ∷ decimal answer) ++ (32 ∷ decimal len) ++ (32 ∷ [])

pub said_as : (number answer len : ℕ) (t u : List ℕ) → u ≡ or_dash t → numbers number answer len ++ u ++ (10 ∷ []) ≡ said_with number answer len t
unfolding said_with
said_as number answer len t u e =
    rw (append_snoc (digits 20 number ++ (32 ∷ decimal answer) ++ (32 ∷ decimal len)) 32 u, e)

pub dashed : (t : List ℕ) → length t ≡ 0 → 45 ∷ [] ≡ or_dash t
dashed t e = rw (eq-eqb (length t) 0 e)

pub told : (t : List ℕ) → (length t ≡ 0 → ⊥) → t ≡ or_dash t
told t e = rw (ne_eqb (length t) 0 e)

-- numbers, what is told, and a line feed
pub line_told : (number answer len : ℕ) (t u : List ℕ) {o p q r z : List ℕ} {at a b c n : ℕ} → u ≡ or_dash t → Emits o at (numbers number answer len) p a → Emits p a u q b
    → r ≡ q → c ≡ b → Emits r c (10 ∷ []) z n → Emits o at (said_with number answer len t) z n
line_told number answer len t u e head body f g end = emits_as (said_as number answer len t u e) (then (then head body) (rw (f, g) at end))

-- no octets, no hex
pub hex-none : (s : List ℕ) → length s ≡ 0 → length (hex s) ≡ 0
unfolding each
hex-none [] e = refl
hex-none (x ∷ s) e = absurd (omega (arith, e))

pub hex_some : (s : List ℕ) → length (hex s) ≡ 0 → length s ≡ 0
unfolding each hex_octet
hex_some [] e = refl
hex_some (x ∷ s) e = absurd (omega (arith, e))
