-- The key of a place, tested word by word, is the key of its unit.
use Prim.Native.Nat.{ℕ, ◌+◌, ◌*◌, ◌<◌}
use mathlib.Core.Path.{◌≡◌, refl, sym, ap, ◌∙◌}
use mathlib.Core.Bool.{Bool, true, false}
use mathlib.Core.List.{List, []}
use native.Mathlib.Omega.{arith}
use lib.Dec.{eqb, ltb}
use lib.Ieee.{Float}
use lib.ListN.{length, get_or}
use lib.Seq.{ext_get_or}
use borrow.Author.Tests.{eq-eqb, eqb-true, ltb-true, ltb-false}
use Rattle.octets.proofs.Tests.{all-at, all_of, no_true}
use Rattle.tables.specs.Tables.{links, units, word}
use Rattle.std.specs.Prelude.{Option, Some, None}
use Rattle.pool.specs.View.{Unit, blank, tab, start_of, unit_at, octets, pend, key_is, Found, Finds}
use Rattle.pool.proofs.Tab.{length-tab, get_or-tab}
use Rattle.pool.proofs.Expired.{link-view}

pub key_of : (w : List ℕ) (tm : List Float) (list bs : List ℕ) (l i : ℕ) → l < links w → i < units w l → (get_or (get_or (pend w tm list bs) l []) i blank).key ≡ tab (word w (8 * l + i)) 6
key_of w tm list bs l i hl h =
    ap (λ (us : List Unit). (get_or us i blank).key) (link-view w tm list bs l hl)
    ∙ ap (λ (u : Unit). u.key) (get_or-tab (λ i. unit_at w tm (octets w list bs) (start_of w l i) (8 * l + i)) (units w l) i blank h)

pub key_yes : (w : List ℕ) (p : ℕ) (key : List ℕ) → length key ≡ 6 → key_is w p key ≡ true → tab (word w p) 6 ≡ key
key_yes w p key n h =
    ext_get_or 0 (tab (word w p) 6) key (length-tab (word w p) 6 ∙ sym n) (λ i q.
    let k : i < 6 = omega (arith, length-tab (word w p) 6) in
    get_or-tab (word w p) 6 i 0 k ∙ eqb-true (word w p i) (get_or key i 0) (all-at (λ x. eqb (word w p x) (get_or key x 0)) i 6 h k))

pub key_no : (w : List ℕ) (p : ℕ) (key : List ℕ) → key_is w p key ≡ false → tab (word w p) 6 ≡ key → ⊥
key_no w p key h e =
    let y : key_is w p key ≡ true = all_of (λ x. eqb (word w p x) (get_or key x 0)) 6 (λ i q. eq-eqb (word w p i) (get_or key i 0) (sym (get_or-tab (word w p) 6 i 0 q) ∙ ap (λ (x : List ℕ). get_or x i 0) e)) in
    no_true (sym h ∙ y)

-- one answer at the most is the first unit with a key
pub determined : (us : List Unit) (key : List ℕ) (r q : ℕ) → Found us key r → Found us key q → r ≡ q
determined us key r q a b = go (ltb r q) refl (ltb q r) refl
  where
    go : (x : Bool) → ltb r q ≡ x → (y : Bool) → ltb q r ≡ y → r ≡ q
    go true e y f = let h : r < q = ltb-true r q e in absurd (b.first r h (a.has (omega (arith, b.within))))
    go false e true f = let h : q < r = ltb-true q r f in absurd (a.first q h (b.has (omega (arith, a.within))))
    go false e false f = omega (arith, ltb-false r q e, ltb-false q r f)

-- and so is the answer of a search
pub found-determined : (us : List Unit) (key : List ℕ) (r q : Option ℕ) → Finds us key r → Finds us key q → r ≡ q
found-determined us key None None a b = refl
found-determined us key (Some r) (Some q) a b = ap Some (determined us key r q a.1 b.1)
found-determined us key None (Some q) a b = absurd (omega (arith, determined us key (length us) q a b.1, b.0))
found-determined us key (Some r) None a b = absurd (omega (arith, determined us key r (length us) a.1 b, a.0))
