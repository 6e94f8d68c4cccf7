-- Addresses that are laid out are read as what was laid out, up to one that is too long.
use Prim.Native.Nat.{ℕ, ◌+◌, ◌-◌, ◌≤◌, ◌<◌}
use mathlib.Core.Bool.{Bool, true, false, ◌&&◌}
use mathlib.Core.List.{List, [], ◌∷◌, ◌++◌, append_assoc}
use mathlib.Core.Path.{◌≡◌, refl, sym, ap, ◌∙◌}
use native.Mathlib.Nat.{add-zero}
use native.Mathlib.Omega.{arith}
use borrow.Author.Tests.{le-leb, lt-leb}
use lib.Dec.{leb}
use lib.ListN.{length, get_or, take, drop, length-append, length-drop}
use lib.Seq.{take_at}
use Rattle.octets.proofs.Tests.{and_false}
use Rattle.octets.proofs.Stands.{next, first_of}
use Rattle.cells.specs.Items.{Items, none, leaf, part, ◌⊕◌}
use Rattle.cells.proofs.Rows.{⊕-none}
use Rattle.esis.specs.Pdu.{address_ok, address_items, address_end}
use Rattle.esis.specs.Layout.{addresses_laid, addresses_read, AddressesStand, Short}
use Rattle.esis.proofs.Addresses.{items-zero, items_bad, items_more, end-zero, end_bad, end_more}

-- where the octets end
pub ends : (s rest : List ℕ) (p : ℕ) → drop p s ≡ rest → 0 < length rest → length s ≡ p + length rest
ends s rest p e h = omega (arith, length-drop p s, ap length e)

abbrev pub one_laid : List ℕ → List ℕ
one_laid a = length a ∷ a

-- ---- an address of any length, which stands at place p of s
module _ (s a rest : List ℕ) (p : ℕ) (e : drop p s ≡ one_laid a ++ rest) where
  pub len-at : get_or s p 0 ≡ length a
  len-at = first_of s (one_laid a ++ rest) p e

  long : length s ≡ p + (1 + length a + length rest)
  long = omega (arith, ends s (one_laid a ++ rest) p e (omega arith), length-append a rest)

  pub within : p < length s
  within = omega (arith, long)

  pub value-at : drop (p + 1) s ≡ a ++ rest
  value-at = next s (length a ∷ []) (a ++ rest) p e

  pub behind-at : drop (p + 1 + length a) s ≡ rest
  behind-at = next s a rest (p + 1) value-at

  pub is_ok : length a ≤ 20 → address_ok s p ≡ true
  is_ok h =
      let l : p + 1 + length a ≤ length s = omega (arith, long) in
      simp (len-at, le-leb (p + 1 + length a) (length s) l, le-leb (length a) 20 h)

  pub is-long : 20 < length a → address_ok s p ≡ false
  is-long h = ap (λ (k : ℕ). leb (p + 1 + k) (length s) && leb k 20) len-at ∙ ap (λ (b : Bool). leb (p + 1 + length a) (length s) && b) (lt-leb (length a) 20 h) ∙ and_false (leb (p + 1 + length a) (length s))

-- ---- addresses, and then what stands behind them, of at most k more
laid-length : (a : List ℕ) (more : List (List ℕ)) (p : ℕ) → p + 1 + length a + length (addresses_laid more) ≡ p + length (addresses_laid (a ∷ more))
unfolding addresses_laid
laid-length a more p = omega (arith, length-append (one_laid a) (addresses_laid more))

split : (a : List ℕ) (more : List (List ℕ)) (rest : List ℕ) → addresses_laid (a ∷ more) ++ rest ≡ one_laid a ++ (addresses_laid more ++ rest)
unfolding addresses_laid
split a more rest = append_assoc (one_laid a) (addresses_laid more) rest

module _ (s : List ℕ) where
  pub items-laid : (more : List (List ℕ)) (rest : List ℕ) (p n k : ℕ) → Short more → n ≡ length more + k → drop p s ≡ addresses_laid more ++ rest
      → address_items s n p ≡ addresses_read p more ⊕ address_items s k (p + length (addresses_laid more))
  unfolding addresses_laid addresses_read Short
  items-laid [] rest p n k h q e =
      let z : n ≡ k = omega (arith, q) in
      ap (λ (m : ℕ). address_items s m p) z ∙ ap (address_items s k) (sym (add-zero p))
  items-laid (a ∷ more) rest p n k h q e =
      let w : drop p s ≡ one_laid a ++ (addresses_laid more ++ rest) = e ∙ split a more rest in
      let d = len-at s a (addresses_laid more ++ rest) p w in
      let o : Items = leaf 0 (part (p + 1) (length a)) none in
      let l : 0 < n = omega (arith, q) in
      let r : n - 1 ≡ length more + k = omega (arith, q) in
      items_more s n p l (within s a (addresses_laid more ++ rest) p w) (is_ok s a (addresses_laid more ++ rest) p w h.0)
      ∙ ap (λ (m : ℕ). leaf 0 (part (p + 1) m) none ⊕ address_items s (n - 1) (p + 1 + m)) d
      ∙ ap (λ (x : Items). o ⊕ x) (items-laid more rest (p + 1 + length a) (n - 1) k h.1 r (behind-at s a (addresses_laid more ++ rest) p w))
      ∙ ap (λ (m : ℕ). (o ⊕ addresses_read (p + 1 + length a) more) ⊕ address_items s k m) (laid-length a more p)

  pub end-laid : (more : List (List ℕ)) (rest : List ℕ) (p n k : ℕ) → Short more → n ≡ length more + k → drop p s ≡ addresses_laid more ++ rest
      → address_end s n p ≡ address_end s k (p + length (addresses_laid more))
  unfolding addresses_laid Short
  end-laid [] rest p n k h q e =
      let z : n ≡ k = omega (arith, q) in
      ap (λ (m : ℕ). address_end s m p) z ∙ ap (address_end s k) (sym (add-zero p))
  end-laid (a ∷ more) rest p n k h q e =
      let w : drop p s ≡ one_laid a ++ (addresses_laid more ++ rest) = e ∙ split a more rest in
      let d = len-at s a (addresses_laid more ++ rest) p w in
      let l : 0 < n = omega (arith, q) in
      let r : n - 1 ≡ length more + k = omega (arith, q) in
      end_more s n p l (within s a (addresses_laid more ++ rest) p w) (is_ok s a (addresses_laid more ++ rest) p w h.0)
      ∙ ap (λ (m : ℕ). address_end s (n - 1) (p + 1 + m)) d
      ∙ end-laid more rest (p + 1 + length a) (n - 1) k h.1 r (behind-at s a (addresses_laid more ++ rest) p w)
      ∙ ap (address_end s k) (laid-length a more p)

  -- ---- all of them
  pub items-all : (more : List (List ℕ)) (rest : List ℕ) (p : ℕ) → Short more → drop p s ≡ addresses_laid more ++ rest → address_items s (length more) p ≡ addresses_read p more
  items-all more rest p h e =
      items-laid more rest p (length more) 0 h (omega arith) e ∙ ap (λ (x : Items). addresses_read p more ⊕ x) (items-zero s (p + length (addresses_laid more))) ∙ ⊕-none (addresses_read p more)

  pub end-all : (more : List (List ℕ)) (rest : List ℕ) (p : ℕ) → Short more → drop p s ≡ addresses_laid more ++ rest → address_end s (length more) p ≡ p + length (addresses_laid more)
  end-all more rest p h e = end-laid more rest p (length more) 0 h (omega arith) e ∙ end-zero s (p + length (addresses_laid more))

  -- ---- one that is too long behind them
  module _ (before : List (List ℕ)) (a rest : List ℕ) (p n : ℕ) (h : Short before) (over : 20 < length a) (count : length before < n)
      (e : drop p s ≡ addresses_laid before ++ (one_laid a ++ rest)) where
    abbrev q : ℕ
    q = p + length (addresses_laid before)

    abbrev k : ℕ
    k = n - length before

    there : drop q s ≡ one_laid a ++ rest
    there = next s (addresses_laid before) (one_laid a ++ rest) p e

    pub items-long : address_items s n p ≡ addresses_read p before
    items-long =
        items-laid before (one_laid a ++ rest) p n k h (omega (arith, count)) e
        ∙ ap (λ (x : Items). addresses_read p before ⊕ x) (items_bad s k q (within s a rest q there) (is-long s a rest q there over)) ∙ ⊕-none (addresses_read p before)

    pub end-long : address_end s n p ≡ q + 1
    end-long = end-laid before (one_laid a ++ rest) p n k h (omega (arith, count)) e ∙ end_bad s k q (omega (arith, count)) (within s a rest q there) (is-long s a rest q there over)

    pub rest-long : drop (q + 1) s ≡ a ++ rest
    rest-long = value-at s a rest q there

-- ---- the octets at those places
pub addresses_stand : (s : List ℕ) (more : List (List ℕ)) (rest : List ℕ) (p : ℕ) → drop p s ≡ addresses_laid more ++ rest → AddressesStand s p more
unfolding addresses_laid AddressesStand
addresses_stand s [] rest p e = tt
addresses_stand s (a ∷ more) rest p e =
    let tail : List ℕ = addresses_laid more ++ rest in
    let w : drop p s ≡ one_laid a ++ tail = e ∙ split a more rest in
    (ap (take (length a)) (value-at s a tail p w) ∙ take_at a tail (length a) refl, addresses_stand s more rest (p + 1 + length a) (behind-at s a tail p w))
