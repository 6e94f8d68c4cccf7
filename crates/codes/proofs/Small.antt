-- A table of codes is right where a test that antt computes says so at each of its entries.
use mathlib.Core.Path.{◌≡◌, refl, sym, ap, ◌∙◌}
use mathlib.Core.Bool.{Bool, true, ◌&&◌}
use mathlib.Core.List.{List, [], ◌∷◌}
use Prim.Native.Nat.{ℕ, ◌-◌, ◌≤◌, ◌<◌}
use native.Mathlib.Omega.{arith}
use lib.Dec.{eqb, ltb}
use lib.ListN.{get_or}
use borrow.Author.Tests.{eqb-true, ltb-true, ne_eqb}
use Rattle.octets.specs.Tests.{all}
use Rattle.octets.proofs.Tests.{all-at, and_left, and_right}
use Rattle.octets.proofs.Table.{values, at}
use Rattle.names.specs.Texts.{number_of}
use Rattle.codes.specs.Codes.{Row, name_in, text_in}
use Rattle.codes.specs.Entry.{lift}

-- every code is below n
abbrev pub below : List Row → ℕ → Bool
below [] n = true
below (r ∷ rs) n = ltb r.code n && below rs n

name-beyond : (rows : List Row) (other : List ℕ) (n c : ℕ) → below rows n ≡ true → n ≤ c → name_in rows other c ≡ other
unfolding name_in
name-beyond [] other n c h l = refl
name-beyond (r ∷ rs) other n c h l =
    let low : r.code < n = ltb-true r.code n (and_left (ltb r.code n) (below rs n) h) in
    rw (ne_eqb c r.code (λ e. omega (arith, e))) (name-beyond rs other n c (and_right (ltb r.code n) (below rs n) h) l)

module _ (rows : List Row) (other : List ℕ) (o base n : ℕ) where
  -- what the table holds for a code
  abbrev pub entry : ℕ → ℕ
  entry c = number_of (name_in rows [] c) - base

  abbrev pub right : ℕ → Bool
  right c = eqb (lift o base (entry c)) (text_in rows other c)

  pub within : (c : ℕ) → all right n ≡ true → c < n → lift o base (get_or (values entry 0 n) c 0) ≡ text_in rows other c
  within c h l = ap (lift o base) (at entry n c l) ∙ eqb-true (lift o base (entry c)) (text_in rows other c) (all-at right c n h l)

  pub beyond : (c : ℕ) → below rows n ≡ true → n ≤ c → o ≡ number_of other → o ≡ text_in rows other c
  unfolding text_in
  beyond c h l e = e ∙ ap number_of (sym (name-beyond rows other n c h l))
