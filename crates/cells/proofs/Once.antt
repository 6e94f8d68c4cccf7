-- The answers on a record that is put in one pass where there is room for every record, and else counted first.
use Prim.Native.Nat.{ℕ, ◌+◌, ◌*◌, ◌≤◌, ◌<◌}
use mathlib.Core.Path.{◌≡◌, refl, sym, ap, subst, ◌∙◌}
use mathlib.Core.List.{List}
use mathlib.Core.Bool.{true}
use native.Mathlib.Omega.{arith}
use lib.ListN.{length}
use Rattle.octets.specs.Emit.{top, on_from, Emits}
use Rattle.cells.specs.Items.{Items, record_of, flat}
use Rattle.cells.specs.Answer.{Parsed}
use Rattle.std.specs.Prelude.{Ok, Err}
use Rattle.cells.specs.declared.answer.Refusal.TheVariants.{Short}
use Rattle.cells.proofs.Rows.{group-size}
use Rattle.cells.proofs.Answers as answers

-- the place behind cells that are some and for which there is room
placed : {o new xs : List ℕ} {n : ℕ} (room : ℕ) → Emits o 0 xs new n → 0 < length xs → length xs ≤ room → (0 < n) × (n ≤ room)
unfolding on_from
placed room e p h = omega (arith, e.place)

some-place : {o new xs : List ℕ} {n : ℕ} → Emits o 0 xs new n → 0 < length xs → 0 < n
unfolding on_from
some-place e p = omega (arith, e.place)

-- the cells of a record, which are some
abbrev pub cells : Items → List ℕ
cells members = flat 0 (record_of members)

pub some : (members : Items) → 0 < length (cells members)
some members = omega (arith, group-size 0 true 0 members)

-- an input of size octets whose result xs is the record of these members
module _ {size : ℕ} {xs old : List ℕ} (members : Items) (low : size ≤ 65535) (e : cells members ≡ xs) where
  -- one pass, with room for every record
  pub says_once : {new : List ℕ} {n : ℕ} → length xs ≤ 4 * size + 64 → 4 * size + 64 ≤ length old → length old < top → Emits old 0 (cells members) new n → Parsed size xs old (Ok n) new
  says_once thin h b w =
      let p = placed (length old) w (some members) (omega (arith, thin, ap length e)) in
      answers.whole low refl e p.0 p.1 b w

  -- counted, and too many
  pub says-short : {o p new : List ℕ} {n : ℕ} → new ≡ old → length old < n → Emits o 0 (cells members) p n → Parsed size xs old (Err Short) new
  says-short q h w = answers.short low q e h w

  -- counted, and then written
  pub says-whole : {o p q new : List ℕ} {n m : ℕ} → o ≡ old → n ≤ length old → length old < top → Emits p 0 (cells members) q n → Emits o 0 (cells members) new m → Parsed size xs old (Ok n) new
  says-whole {o} {p} {q} {new} {n} {m} z h b v w =
      let same : m ≡ n = w.place ∙ sym v.place in
      answers.whole low z e (some-place v (some members)) h b (subst (λ (i : ℕ). Emits o 0 (cells members) new i) same w)
