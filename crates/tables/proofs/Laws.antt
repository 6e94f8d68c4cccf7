-- What the tests say, and laws of sums.
use Prim.Native.Nat.{ℕ, zero, suc, ◌+◌, ◌*◌, ◌-◌, ◌≤◌, ◌<◌}
use mathlib.Core.Path.{◌≡◌, refl, sym, ap, ◌∙◌}
use mathlib.Core.Bool.{Bool, true, false}
use mathlib.Core.List.{List}
use native.Mathlib.Numerals.{add-one}
use native.Mathlib.Nat.{suc-mul}
use native.Mathlib.Omega.{arith}
use lib.Dec.{ltb, leb, eqb}
use lib.ListN.{length}
use borrow.Author.Tests.{leb-true, le-leb, lt-leb, ltb-true, ltb-false, lt-ltb, le-ltb, eqb-true, eq-eqb}
use Rattle.octets.specs.Tests.{all}
use Rattle.octets.proofs.Tests.{all-at, all_of, all_none, all_more, all-fails, and_left, and_right, and_false}
use Rattle.model.specs.Cost.{blocks}
use Rattle.tables.specs.Tables.{links, blocks_in, reserve, cap, count, units, word, sum, place_ok, places_ok, costs, keys_ok, allowed, settings_ok, link_ok, idle, link_at, used_of, excess_of, tables_ok}

pub sum-none : (f : ℕ → ℕ) → sum f 0 ≡ 0
unfolding sum
sum-none f = refl

pub sum-next : (f : ℕ → ℕ) (n : ℕ) → sum f (n + 1) ≡ sum f n + f n
unfolding sum
sum-next f n = rw add-one

-- for loops that test or sum
pub ruleset loops = (all_none, all_more, all-fails, sum-none, sum-next)

pub record Settings (w : List ℕ) : Type 0 where
  pub some-link : 1 ≤ links w
  pub few-links : links w ≤ 16
  pub some_block : 1 ≤ blocks_in w
  pub few-blocks : blocks_in w ≤ 1024
  pub capped : cap w ≤ blocks_in w
  pub reserved : reserve w ≤ cap w
  pub cover : links w * reserve w ≤ blocks_in w

pub settings : (w : List ℕ) → settings_ok w ≡ true → Settings w
unfolding settings_ok allowed
settings w h₁ =
    let h₂ = and_right (leb 1 (links w)) _ h₁ in
    let h₃ = and_right (leb (links w) 16) _ h₂ in
    let h₄ = and_right (leb 1 (blocks_in w)) _ h₃ in
    let h₅ = and_right (leb (blocks_in w) 1024) _ h₄ in
    let h₆ = and_right (leb (cap w) (blocks_in w)) _ h₅ in
    record {
      some-link = leb-true 1 (links w) (and_left (leb 1 (links w)) _ h₁);
      few-links = leb-true (links w) 16 (and_left (leb (links w) 16) _ h₂);
      some_block = leb-true 1 (blocks_in w) (and_left (leb 1 (blocks_in w)) _ h₃);
      few-blocks = leb-true (blocks_in w) 1024 (and_left (leb (blocks_in w) 1024) _ h₄);
      capped = leb-true (cap w) (blocks_in w) (and_left (leb (cap w) (blocks_in w)) _ h₅);
      reserved = leb-true (reserve w) (cap w) (and_left (leb (reserve w) (cap w)) _ h₆);
      cover = leb-true (links w * reserve w) (blocks_in w) (and_right (leb (reserve w) (cap w)) _ h₆);
    }

-- ---- places
pub record Place (w : List ℕ) (p : ℕ) : Type 0 where
  pub body : word w p 9 ≡ blocks (word w p 7)
  pub top : word w p 10 ≡ blocks (word w p 8)

pub place : (w : List ℕ) (p : ℕ) → place_ok w p ≡ true → Place w p
unfolding place_ok
place w p h = record {
  body = eqb-true (word w p 9) (blocks (word w p 7)) (and_left (eqb (word w p 9) (blocks (word w p 7))) _ h);
  top = eqb-true (word w p 10) (blocks (word w p 8)) (and_right (eqb (word w p 9) (blocks (word w p 7))) _ h);
}

pub place_of : (w : List ℕ) (p : ℕ) → Place w p → place_ok w p ≡ true
unfolding place_ok
place_of w p h = rw (eq-eqb (word w p 9) (blocks (word w p 7)) h.body, eq-eqb (word w p 10) (blocks (word w p 8)) h.top)

-- ---- links
pub record Link (w : List ℕ) (l : ℕ) : Type 0 where
  pub few : units w l ≤ 8
  pub right : places_ok w (8 * l) (units w l) ≡ true
  pub agrees : count w l ≡ costs w (8 * l) (units w l)
  pub within : count w l ≤ cap w
  pub apart : keys_ok w (8 * l) (units w l) ≡ true

pub link : (w : List ℕ) (l : ℕ) → link_ok w l ≡ true → Link w l
unfolding link_ok
link w l h₁ =
    let h₂ = and_right (leb (units w l) 8) _ h₁ in
    let h₃ = and_right (places_ok w (8 * l) (units w l)) _ h₂ in
    let h₄ = and_right (eqb (count w l) (costs w (8 * l) (units w l))) _ h₃ in
    record {
      few = leb-true (units w l) 8 (and_left (leb (units w l) 8) _ h₁);
      right = and_left (places_ok w (8 * l) (units w l)) _ h₂;
      agrees = eqb-true (count w l) (costs w (8 * l) (units w l)) (and_left (eqb (count w l) (costs w (8 * l) (units w l))) _ h₃);
      within = leb-true (count w l) (cap w) (and_left (leb (count w l) (cap w)) _ h₄);
      apart = and_right (leb (count w l) (cap w)) _ h₄;
    }

pub link_of_lem : (w : List ℕ) (l : ℕ) → Link w l → link_ok w l ≡ true
unfolding link_ok
link_of_lem w l h = rw (le-leb (units w l) 8 h.few, h.right, eq-eqb (count w l) (costs w (8 * l) (units w l)) h.agrees, le-leb (count w l) (cap w) h.within, h.apart)

pub link-is : (w : List ℕ) (l : ℕ) → l < links w → link_at w l ≡ link_ok w l
unfolding link_at
link-is w l h = rw (lt-ltb l (links w) h)

pub idle-is : (w : List ℕ) (l : ℕ) → links w ≤ l → link_at w l ≡ idle w l
unfolding link_at
idle-is w l h = rw (le-ltb l (links w) h)

-- no count is above the cap
pub count_low : (w : List ℕ) (l : ℕ) → link_at w l ≡ true → count w l ≤ cap w
unfolding idle
count_low w l h = go (ltb l (links w)) refl
  where
    go : (t : Bool) → ltb l (links w) ≡ t → count w l ≤ cap w
    go true e = (link w l (sym (link-is w l (ltb-true l (links w) e)) ∙ h)).within
    go false e =
        let i : idle w l ≡ true = sym (idle-is w l (omega (arith, ltb-false l (links w) e))) ∙ h in
        let z : count w l ≡ 0 = eqb-true (count w l) 0 (and_right (eqb (units w l) 0) _ i) in
        omega arith

pub counts-low : (w : List ℕ) → settings_ok w ≡ true → all (link_at w) 16 ≡ true → (l : ℕ) → l < 16 → count w l ≤ 1024
counts-low w s a l h =
    let q = settings w s in
    omega (arith, count_low w l (all-at (link_at w) l 16 a h), q.capped, q.few-blocks)

-- all sixteen: the links, and nothing past them
pub links_fail : (w : List ℕ) (l : ℕ) → links w ≤ 16 → l < links w → link_ok w l ≡ false → all (link_at w) 16 ≡ false
links_fail w l few h e = all-fails (link_at w) l 16 (omega arith) (link-is w l h ∙ e)

both : (x y : Bool) → (x ≡ true → y ≡ true) → (y ≡ true → x ≡ true) → x ≡ y
both true y f g = sym (f refl)
both false true f g = g refl
both false false f g = refl

pub links-hold : (w : List ℕ) → links w ≤ 16 → all (link_ok w) (links w) ≡ true → all (link_at w) 16 ≡ all (λ i. idle w (links w + i)) (16 - links w)
links-hold w few a =
    both (all (link_at w) 16) (all (λ i. idle w (links w + i)) (16 - links w))
    (λ e. all_of (λ i. idle w (links w + i)) (16 - links w) (λ i h. sym (idle-is w (links w + i) (omega arith)) ∙ all-at (link_at w) (links w + i) 16 e (omega arith)))
    (λ e. all_of (link_at w) 16 (λ l h. each e l h (ltb l (links w)) refl))
  where
    each : all (λ i. idle w (links w + i)) (16 - links w) ≡ true → (l : ℕ) → l < 16 → (t : Bool) → ltb l (links w) ≡ t → link_at w l ≡ true
    each e l h true f = link-is w l (ltb-true l (links w) f) ∙ all-at (link_ok w) l (links w) a (ltb-true l (links w) f)
    each e l h false f =
        let k : links w ≤ l = omega (arith, ltb-false l (links w) f) in
        let z : l ≡ links w + (l - links w) = omega arith in
        idle-is w l k ∙ ap (idle w) z ∙ all-at (λ i. idle w (links w + i)) (l - links w) (16 - links w) e (omega arith)

-- ---- and the tables
module _ (w : List ℕ) where
  pub short : length w < 1576 → tables_ok w ≡ false
  unfolding tables_ok
  short h = rw (lt-leb 1576 (length w) h)

  module _ (long : 1576 ≤ length w) where
    pub no_settings : settings_ok w ≡ false → tables_ok w ≡ false
    unfolding tables_ok
    no_settings e = rw (le-leb 1576 (length w) long, e)

    module _ (set : settings_ok w ≡ true) where
      pub no_links : all (link_at w) 16 ≡ false → tables_ok w ≡ false
      unfolding tables_ok
      no_links e = rw (le-leb 1576 (length w) long, set, e)

      pub common : all (link_at w) 16 ≡ true → tables_ok w ≡ leb (excess_of w (links w)) (blocks_in w - links w * reserve w)
      unfolding tables_ok
      common e = rw (le-leb 1576 (length w) long, set, e)

pub record Tables (w : List ℕ) : Type 0 where
  pub long : 1576 ≤ length w
  pub set : settings_ok w ≡ true
  pub each : all (link_at w) 16 ≡ true
  pub rest : excess_of w (links w) ≤ blocks_in w - links w * reserve w

pub tables : (w : List ℕ) → tables_ok w ≡ true → Tables w
unfolding tables_ok
tables w h₁ =
    let h₂ = and_right (leb 1576 (length w)) _ h₁ in
    let h₃ = and_right (settings_ok w) _ h₂ in
    record {
      long = leb-true 1576 (length w) (and_left (leb 1576 (length w)) _ h₁);
      set = and_left (settings_ok w) _ h₂;
      each = and_left (all (link_at w) 16) _ h₃;
      rest = leb-true (excess_of w (links w)) (blocks_in w - links w * reserve w) (and_right (all (link_at w) 16) _ h₃);
    }

pub tables_of : (w : List ℕ) → Tables w → tables_ok w ≡ true
unfolding tables_ok
tables_of w h = rw (le-leb 1576 (length w) h.long, h.set, h.each, le-leb (excess_of w (links w)) (blocks_in w - links w * reserve w) h.rest)

-- the blocks used are no more than there are
pub above : (w : List ℕ) (n : ℕ) → used_of w n ≤ n * reserve w + excess_of w n
unfolding sum
above w zero = omega arith
above w (suc n) = let z : suc n * reserve w ≡ n * reserve w + reserve w = suc-mul n (reserve w) in omega (arith, above w n)

pub used_fits : (w : List ℕ) → Tables w → used_of w (links w) ≤ blocks_in w
used_fits w h = let q = settings w h.set in omega (arith, above w (links w), h.rest, q.cover)
