-- What the soundness test says.
use Prim.Native.Nat.{ℕ, ◌*◌, ◌≤◌}
use mathlib.Core.Path.{◌≡◌, refl, ◌∙◌, sym}
use mathlib.Core.Bool.{Bool, true, false, cond}
use mathlib.Core.List.{List}
use lib.Dec.{leb}
use lib.Ieee.{Float}
use lib.ListN.{length}
use borrow.Author.Tests.{leb-true, le-leb}
use Rattle.chain.specs.Chain.{homed}
use Rattle.octets.proofs.Tests.{and_left, and_right}
use Rattle.tables.specs.Tables.{links, blocks_in, used_of, tables_ok}
use Rattle.tables.proofs.Laws.{Tables, tables, tables_of}
use Rattle.std.proofs.Common.{Option, Some, None}
use Rattle.pool.specs.View.{sound}

-- what the test of the tables tells
module _ (w : List ℕ) (o : Option ℕ) (is : o ≡ cond (tables_ok w) (Some (used_of w (links w))) None) where
  pub told_bad : o ≡ None → tables_ok w ≡ false
  told_bad e = go (tables_ok w) refl is
    where
      go : (t : Bool) → tables_ok w ≡ t → o ≡ cond t (Some (used_of w (links w))) None → tables_ok w ≡ false
      go true f i = let z : Some (used_of w (links w)) ≡ None = sym i ∙ e in cc
      go false f i = f

  pub told-good : (m : ℕ) → o ≡ Some m → (tables_ok w ≡ true) × (m ≡ used_of w (links w))
  told-good m e = go (tables_ok w) refl is
    where
      go : (t : Bool) → tables_ok w ≡ t → o ≡ cond t (Some (used_of w (links w))) None → (tables_ok w ≡ true) × (m ≡ used_of w (links w))
      go true f i = let z : Some m ≡ Some (used_of w (links w)) = sym e ∙ i in (f, cc)
      go false f i = let z : Some m ≡ None = sym e ∙ i in (cc, cc)

pub record Good (w : List ℕ) (t : List Float) (list home bs : List ℕ) : Type 0 where
  pub tab : Tables w
  pub places : 128 ≤ length t
  pub listed : blocks_in w ≤ length list
  pub homes : blocks_in w ≤ length home
  pub room : 64 * blocks_in w ≤ length bs
  pub chain : homed home list (blocks_in w) (used_of w (links w)) ≡ true

module _ (w : List ℕ) (t : List Float) (list home bs : List ℕ) where
  pub good : sound w t list home bs ≡ true → Good w t list home bs
  unfolding sound
  good h₁ =
      let h₂ = and_right (tables_ok w) _ h₁ in
      let h₃ = and_right (leb 128 (length t)) _ h₂ in
      let h₄ = and_right (leb (blocks_in w) (length list)) _ h₃ in
      let h₅ = and_right (leb (blocks_in w) (length home)) _ h₄ in
      record {
        tab = tables w (and_left (tables_ok w) _ h₁);
        places = leb-true 128 (length t) (and_left (leb 128 (length t)) _ h₂);
        listed = leb-true (blocks_in w) (length list) (and_left (leb (blocks_in w) (length list)) _ h₃);
        homes = leb-true (blocks_in w) (length home) (and_left (leb (blocks_in w) (length home)) _ h₄);
        room = leb-true (64 * blocks_in w) (length bs) (and_left (leb (64 * blocks_in w) (length bs)) _ h₅);
        chain = and_right (leb (64 * blocks_in w) (length bs)) _ h₅;
      }

  pub good_of : Good w t list home bs → sound w t list home bs ≡ true
  unfolding sound
  good_of g =
      rw (
        tables_of w g.tab,
        le-leb 128 (length t) g.places,
        le-leb (blocks_in w) (length list) g.listed,
        le-leb (blocks_in w) (length home) g.homes,
        le-leb (64 * blocks_in w) (length bs) g.room,
        g.chain,
      )

  pub bad_tables : tables_ok w ≡ false → sound w t list home bs ≡ false
  unfolding sound
  bad_tables e = rw e
