-- A place by value: what it is of the tables, and of the view.
use Prim.Native.Nat.{ℕ, zero, suc, ◌+◌, ◌*◌, ◌-◌, ◌≤◌, ◌<◌}
use mathlib.Core.Path.{◌≡◌, refl, sym, ap, ◌∙◌}
use mathlib.Core.Logic.{inl, inr}
use mathlib.Core.Bool.{Bool, true, false}
use mathlib.Core.List.{List, [], ◌∷◌, ◌++◌}
use native.Mathlib.Omega.{arith}
use lib.Dec.{ltb}
use lib.Ieee.{Float, nan}
use lib.ListN.{length, get_or, set, take, drop, length-append, length-drop, length-set, get_or-append}
use lib.Seq.{get_or-take, get_or-drop, get_or-set_same, get_or-set_other, get_or-append-add, length-take-le, ext_get_or}
use borrow.Author.Tests.{ltb-true, ltb-false}
use Rattle.octets.specs.Emit.{put}
use Rattle.octets.proofs.Put.{length-put, put_same, put_other}
use Rattle.tables.specs.Tables.{links, units, word}
use Rattle.pool.specs.View.{Unit, tab, pend, sound, unit_of, place_words}
use Rattle.pool.proofs.Tab.{length-tab, get_or-tab}
use Rattle.pool.proofs.Good.{good}
use Rattle.pool.proofs.Read.{part-long}
use Rattle.pool.proofs.Passing.{unit_view}

-- the six words of a key
pub key_words : (w : List ℕ) (p : ℕ) → 40 + 12 * p + 6 ≤ length w → take 6 (drop (40 + 12 * p) w) ≡ tab (word w p) 6
key_words w p h =
    let n : length (take 6 (drop (40 + 12 * p) w)) ≡ 6 = length-take-le 6 (drop (40 + 12 * p) w) (omega (arith, length-drop (40 + 12 * p) w)) in
    ext_get_or 0 (take 6 (drop (40 + 12 * p) w)) (tab (word w p) 6) (n ∙ sym (length-tab (word w p) 6)) (λ k q.
    let k6 : k < 6 = omega (arith, n) in
    get_or-take 6 (drop (40 + 12 * p) w) k 0 k6 ∙ get_or-drop (40 + 12 * p) w k 0 ∙ sym (get_or-tab (word w p) 6 k 0 k6))

-- a place stored with another note
module _ (w : List ℕ) (p note : ℕ) (long : 40 + 12 * p + 11 ≤ length w) where
  abbrev tail : List ℕ
  tail = note ∷ word w p 7 ∷ word w p 8 ∷ word w p 9 ∷ word w p 10 ∷ []

  abbrev whole : List ℕ
  whole = tab (word w p) 6 ++ tail

  eleven : length whole ≡ 11
  eleven = length-append (tab (word w p) 6) tail ∙ omega (arith, length-tab (word w p) 6)

  behind : (k : ℕ) → k < 5 → get_or tail k 0 ≡ get_or (set w (40 + 12 * p + 6) note) (40 + 12 * p + (6 + k)) 0
  behind zero h = sym (get_or-set_same w (40 + 12 * p + 6) note 0 (omega arith))
  behind (suc zero) h = sym (get_or-set_other w (40 + 12 * p + 6) (40 + 12 * p + 7) note 0 (λ z. omega (arith, z)))
  behind (suc (suc zero)) h = sym (get_or-set_other w (40 + 12 * p + 6) (40 + 12 * p + 8) note 0 (λ z. omega (arith, z)))
  behind (suc (suc (suc zero))) h = sym (get_or-set_other w (40 + 12 * p + 6) (40 + 12 * p + 9) note 0 (λ z. omega (arith, z)))
  behind (suc (suc (suc (suc zero)))) h = sym (get_or-set_other w (40 + 12 * p + 6) (40 + 12 * p + 10) note 0 (λ z. omega (arith, z)))
  behind (suc (suc (suc (suc (suc k))))) h = absurd (omega arith)

  inside : (k : ℕ) → k < 11 → (t : Bool) → ltb k 6 ≡ t → get_or whole k 0 ≡ get_or (set w (40 + 12 * p + 6) note) (40 + 12 * p + k) 0
  inside k h true e =
      let k6 : k < 6 = ltb-true k 6 e in
      get_or-append (tab (word w p) 6) tail 0 k (omega (arith, length-tab (word w p) 6))
      ∙ get_or-tab (word w p) 6 k 0 k6
      ∙ sym (get_or-set_other w (40 + 12 * p + 6) (40 + 12 * p + k) note 0 (λ z. omega (arith, z, k6)))
  inside k h false e =
      let six : 6 ≤ k = ltb-false k 6 e in
      let z : k ≡ 6 + (k - 6) = omega (arith, six) in
      let y : k ≡ length (tab (word w p) 6) + (k - 6) = omega (arith, six, length-tab (word w p) 6) in
      ap (λ (i : ℕ). get_or whole i 0) y
      ∙ get_or-append-add (tab (word w p) 6) tail (k - 6) 0
      ∙ behind (k - 6) (omega (arith, h))
      ∙ ap (λ (i : ℕ). get_or (set w (40 + 12 * p + 6) note) (40 + 12 * p + i) 0) (sym z)

  pub note-stored : put w (40 + 12 * p) whole ≡ set w (40 + 12 * p + 6) note
  note-stored =
      ext_get_or 0 (put w (40 + 12 * p) whole) (set w (40 + 12 * p + 6) note) (length-put w (40 + 12 * p) whole ∙ sym (length-set w (40 + 12 * p + 6) note)) (λ i q. go i (ltb i (40 + 12 * p)) (ltb i (40 + 12 * p + 11)) refl refl)
    where
      go : (i : ℕ) (s t : Bool) → ltb i (40 + 12 * p) ≡ s → ltb i (40 + 12 * p + 11) ≡ t → get_or (put w (40 + 12 * p) whole) i 0 ≡ get_or (set w (40 + 12 * p + 6) note) i 0
      go i true t e f =
          let k = ltb-true i (40 + 12 * p) e in
          put_other whole w (40 + 12 * p) i 0 (inl k) ∙ sym (get_or-set_other w (40 + 12 * p + 6) i note 0 (λ z. omega (arith, z, k)))
      go i false false e f =
          let k = ltb-false i (40 + 12 * p + 11) f in
          put_other whole w (40 + 12 * p) i 0 (inr (omega (arith, eleven, k))) ∙ sym (get_or-set_other w (40 + 12 * p + 6) i note 0 (λ z. omega (arith, z, k)))
      go i false true e f =
          let a = ltb-false i (40 + 12 * p) e in
          let b = ltb-true i (40 + 12 * p + 11) f in
          let q : i ≡ 40 + 12 * p + (i - (40 + 12 * p)) = omega (arith, a) in
          let r : i - (40 + 12 * p) < 11 = omega (arith, a, b) in
          ap (λ (y : ℕ). get_or (put w (40 + 12 * p) whole) y 0) q
          ∙ put_same whole w (40 + 12 * p) (i - (40 + 12 * p)) 0 (omega (arith, eleven, r)) (omega (arith, eleven))
          ∙ inside (i - (40 + 12 * p)) r (ltb (i - (40 + 12 * p)) 6) refl
          ∙ ap (λ (y : ℕ). get_or (set w (40 + 12 * p + 6) note) y 0) (sym q)

-- the same by what the functions ensure
pub marked_words : (w w' key : List ℕ) (p note b t x y : ℕ) → 40 + 12 * p + 11 ≤ length w → key ≡ tab (word w p) 6 → b ≡ word w p 7 → t ≡ word w p 8 → x ≡ word w p 9 → y ≡ word w p 10
    → w' ≡ put w (40 + 12 * p) (key ++ (note ∷ b ∷ t ∷ x ∷ y ∷ [])) → w' ≡ set w (40 + 12 * p + 6) note
marked_words w w' key p note b t x y long ek eb et ex ey e = e ∙ rw (ek, eb, et, ex, ey) (note-stored w p note long)

pub added_words : (w w' key key' : List ℕ) (p note note' b t x y : ℕ) → key' ≡ key → note' ≡ note → b ≡ 0 → t ≡ 0 → x ≡ 0 → y ≡ 0
    → w' ≡ put w (40 + 12 * p) (key' ++ (note' ∷ b ∷ t ∷ x ∷ y ∷ [])) → w' ≡ put w (40 + 12 * p) (place_words key note)
added_words w w' key key' p note note' b t x y ek en eb et ex ey e = e ∙ rw (ek, en, eb, et, ex, ey)

-- what a place says of the unit that it holds
pub record PlaceOf (w : List ℕ) (t : List Float) (p : ℕ) (u : Unit) : Type 0 where
  pub key : u.key ≡ tab (word w p) 6
  pub note : u.note ≡ word w p 6
  pub body : length u.body ≡ word w p 7
  pub top : length u.top ≡ word w p 8
  pub time : u.time ≡ get_or t p nan

pub place_unit : (w : List ℕ) (t : List Float) (list home bs : List ℕ) (l j : ℕ) → sound w t list home bs ≡ true → l < links w → j < units w l → PlaceOf w t (8 * l + j) (unit_of (pend w t list bs) l j)
place_unit w t list home bs l j h hl hj =
    let g = good w t list home bs h in
    let e = unit_view w t list bs l j hl hj in
    record {
      key = ap (λ (u : Unit). u.key) e;
      note = ap (λ (u : Unit). u.note) e;
      body = part-long w t list home bs l j 0 g hl hj (omega arith);
      top = part-long w t list home bs l j 1 g hl hj (omega arith);
      time = ap (λ (u : Unit). u.time) e;
    }
