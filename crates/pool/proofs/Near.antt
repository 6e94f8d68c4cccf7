-- Bounds that hold in sound tables.
use Prim.Native.Nat.{ℕ, zero, suc, ◌+◌, ◌*◌, ◌-◌, ◌≤◌, ◌<◌}
use mathlib.Core.Path.{◌≡◌, refl, sym, ap, ◌∙◌}
use mathlib.Core.Logic.{◌⊎◌, inl, inr}
use mathlib.Core.Bool.{Bool, true, false}
use mathlib.Core.List.{List}
use native.Mathlib.Nat.{suc-mul}
use native.Mathlib.Omega.{arith}
use lib.Dec.{eqb}
use lib.ListN.{length}
use borrow.Author.Tests.{eqb-true, eqb-false}
use Rattle.octets.proofs.Tests.{all-at}
use Rattle.tables.specs.Tables.{links, blocks_in, reserve, count, units, word, sum, place_cost, costs, link_at, used_of, excess_of}
use Rattle.tables.proofs.Laws.{Tables, settings, Place, Link, link, link-is, used_fits, above}
use Rattle.pool.specs.View.{start_of, part_at, Room}
use Rattle.tables.proofs.Sums.{sum-up, sum_in}
use Rattle.pool.proofs.Change.{place_at}

-- a part is the body or the top
pub two : (part : ℕ) → part < 2 → (part ≡ 0) ⊎ (part ≡ 1)
two zero h = inl refl
two (suc zero) h = inr refl
two (suc (suc n)) h = absurd (omega arith)

-- the link's own facts
pub own : (w : List ℕ) (l : ℕ) → Tables w → l < links w → Link w l
own w l g h = link w l (sym (link-is w l h) ∙ all-at (link_at w) l 16 g.each (omega (arith, (settings w g.set).few-links)))

-- the blocks of place j of link l stand inside the link's
pub inside : (w : List ℕ) (l j : ℕ) → Tables w → l < links w → j < units w l → costs w (8 * l) j + place_cost w (8 * l + j) ≤ count w l
inside w l j g h hj = rw (own w l g h).agrees (sum_in (λ i. place_cost w (8 * l + i)) j (units w l) hj)

pub link-inside : (w : List ℕ) (l : ℕ) → l < links w → used_of w l + count w l ≤ used_of w (links w)
link-inside w l h = sum_in (count w) l (links w) h

pub record Near (w : List ℕ) (l j : ℕ) : Type 0 where
  pub long : 1576 ≤ length w
  pub few-links : links w ≤ 16
  pub low-link : l < 16
  pub few : units w l ≤ 8
  pub counted : count w l ≤ 1024
  pub until : start_of w l j ≤ used_of w (links w)
  pub fits : used_of w (links w) ≤ blocks_in w
  pub few-blocks : blocks_in w ≤ 1024

pub near : (w : List ℕ) (l j : ℕ) → Tables w → l < links w → j ≤ units w l → Near w l j
near w l j g h hj =
    let q = settings w g.set in
    let o = own w l g h in
    record {
      long = g.long;
      few-links = q.few-links;
      low-link = omega (arith, q.few-links);
      few = o.few;
      counted = omega (arith, o.within, q.capped, q.few-blocks);
      until = omega (arith, o.agrees, sum-up (λ i. place_cost w (8 * l + i)) j (units w l) hj, link-inside w l h);
      fits = used_fits w g;
      few-blocks = q.few-blocks;
    }

-- a place's parts are those of at most 1024 blocks
pub record Sizes (w : List ℕ) (l j : ℕ) : Type 0 where
  pub right : Place w (8 * l + j)
  pub body : word w (8 * l + j) 7 ≤ 65536
  pub top : word w (8 * l + j) 8 ≤ 65536
  pub before : start_of w l j + word w (8 * l + j) 9 + word w (8 * l + j) 10 ≤ used_of w (links w)

pub sizes : (w : List ℕ) (l j : ℕ) → Tables w → l < links w → j < units w l → Sizes w l j
sizes w l j g h hj =
    let n = near w l j g h (omega arith) in
    let i = inside w l j g h hj in
    let k = link-inside w l h in
    let p = place_at w l j (own w l g h) hj in
    record { right = p; body = omega (arith, n.counted, p.body); top = omega (arith, n.counted, p.top); before = omega arith }

-- what a link leaves of its reserve is left of the whole
left_over : (w : List ℕ) (l n : ℕ) → l < n → used_of w n + (reserve w - count w l) ≤ n * reserve w + excess_of w n
unfolding sum
left_over w l zero h = absurd (omega arith)
left_over w l (suc n) h = go (λ k. left_over w l n k) (eqb l n) refl
  where
    z : suc n * reserve w ≡ n * reserve w + reserve w
    z = suc-mul n (reserve w)

    go : (l < n → sum (count w) n + (reserve w - count w l) ≤ n * reserve w + sum (λ k. count w k - reserve w) n) → (b : Bool) → eqb l n ≡ b
        → sum (count w) n + count w n + (reserve w - count w l) ≤ suc n * reserve w + (sum (λ k. count w k - reserve w) n + (count w n - reserve w))
    go ih true e = rw (eqb-true l n e) (omega (arith, above w n, z))
    go ih false e = omega (arith, ih (omega (arith, eqb-false l n e)), z)

-- with room for n blocks in the place of k of its own, the store has them
pub room_fits : (w : List ℕ) (l k n : ℕ) → Tables w → l < links w → k ≤ count w l → Room w l k n → used_of w (links w) + n ≤ blocks_in w + k
room_fits w l k n g h hk r =
    let q = settings w g.set in
    omega (arith, r.common, left_over w l (links w) h, q.cover, sum_in (λ i. count w i - reserve w) l (links w) h)

-- the same for one of the place's parts
pub record Ready (w : List ℕ) (l j part : ℕ) : Type 0 where
  pub close : Near w l j
  pub size : Sizes w l j
  pub low : j < 8
  pub top-at : word w (8 * l + j) 9 ≤ 1024
  pub counted : word w (8 * l + j) (9 + part) ≤ count w l
  pub inside : start_of w l j + part_at w (8 * l + j) part + word w (8 * l + j) (9 + part) ≤ used_of w (links w)
  pub filled : word w (8 * l + j) (7 + part) ≤ 64 * word w (8 * l + j) (9 + part)

pub ready : (w : List ℕ) (l j part : ℕ) → Tables w → l < links w → j < units w l → part < 2 → Ready w l j part
ready w l j part g hl hj h2 = go (two part h2)
  where
    s : Sizes w l j
    s = sizes w l j g hl hj

    n : Near w l j
    n = near w l j g hl (omega arith)

    go : (part ≡ 0) ⊎ (part ≡ 1) → Ready w l j part
    go (inl e) =
        let a : word w (8 * l + j) (9 + part) ≡ word w (8 * l + j) 9 = ap (λ (q : ℕ). word w (8 * l + j) (9 + q)) e in
        let b : word w (8 * l + j) (7 + part) ≡ word w (8 * l + j) 7 = ap (λ (q : ℕ). word w (8 * l + j) (7 + q)) e in
        let c : part_at w (8 * l + j) part ≡ 0 = ap (part_at w (8 * l + j)) e in
        record { close = n; size = s; low = omega (arith, n.few); top-at = omega (arith, s.before, n.fits, n.few-blocks); counted = omega (arith, inside w l j g hl hj); inside = omega (arith, s.before); filled = omega (arith, s.right.body) }
    go (inr e) =
        let a : word w (8 * l + j) (9 + part) ≡ word w (8 * l + j) 10 = ap (λ (q : ℕ). word w (8 * l + j) (9 + q)) e in
        let b : word w (8 * l + j) (7 + part) ≡ word w (8 * l + j) 8 = ap (λ (q : ℕ). word w (8 * l + j) (7 + q)) e in
        let c : part_at w (8 * l + j) part ≡ word w (8 * l + j) 9 = ap (part_at w (8 * l + j)) e in
        record { close = n; size = s; low = omega (arith, n.few); top-at = omega (arith, s.before, n.fits, n.few-blocks); counted = omega (arith, inside w l j g hl hj); inside = omega (arith, s.before); filled = omega (arith, s.right.top) }

-- where a part stands, by the two calls that find it
pub begins : (w : List ℕ) (l j part s a : ℕ) → s ≡ start_of w l j → a ≡ s + part_at w (8 * l + j) part → a ≡ start_of w l j + part_at w (8 * l + j) part
begins w l j part s a e f = f ∙ ap (λ (q : ℕ). q + part_at w (8 * l + j) part) e
