-- A number has one key or text, a key or text one number, and none of them needs escaping in JSON.
use mathlib.Core.Path.{◌≡◌, refl, ap, ap₂, ◌∙◌}
use mathlib.Core.Logic.{◌⊎◌, inl, inr, ⊎_elim}
use mathlib.Core.Bool.{Bool, true, false, not, ◌&&◌}
use mathlib.Core.List.{List, [], ◌∷◌}
use Prim.Native.Nat.{ℕ, suc, ◌-◌, ◌≤◌}
use native.Mathlib.Omega.{arith}
use lib.Dec.{eqb, leb}
use lib.ListN.{get_or}
use borrow.Author.Tests.{eqb-true}
use Rattle.octets.specs.Text.{pick}
use Rattle.octets.specs.Tests.{all}
use Rattle.octets.proofs.Tests.{no_true, all-at, and_left, and_right}
use Rattle.names.specs.Place.{same, place_from}
use Rattle.names.specs.Keys.{keys, all_keys, key_text, field_of}
use Rattle.names.specs.Texts.{texts, all_texts, text_of, number_of}

same-is : (x t : List ℕ) → same x t ≡ true → x ≡ t
unfolding same
same-is [] [] h = refl
same-is [] (y ∷ ys) h = no_true h
same-is (x ∷ xs) [] h = no_true h
same-is (x ∷ xs) (y ∷ ys) h =
    ap₂ (λ (a : ℕ) (l : List ℕ). a ∷ l) (eqb-true x y (and_left (eqb x y) (same xs ys) h)) (same-is xs ys (and_right (eqb x y) (same xs ys) h))

-- a place that is not 0 has the text
Placed : ℕ → List (List ℕ) → List ℕ → ℕ → Type 0
Placed k xs t n = (n ≡ 0) ⊎ ((k ≤ n) × (get_or xs (n - k) [] ≡ t))

behind : (x : List ℕ) (xs : List (List ℕ)) (k n : ℕ) → suc k ≤ n → get_or (x ∷ xs) (n - k) [] ≡ get_or xs (n - suc k) []
behind x xs k n h = let e : n - k ≡ suc (n - suc k) = omega arith in ap (λ (m : ℕ). get_or (x ∷ xs) m []) e

place_at : (k : ℕ) (x : List ℕ) (xs : List (List ℕ)) (t : List ℕ) (n : ℕ) (b : Bool) → same x t ≡ b → Placed (suc k) xs t n → Placed k (x ∷ xs) t (pick b k n)
unfolding Placed
place_at k x xs t n true e r =
    let z : k - k ≡ 0 = omega arith in
    inr (omega arith, ap (λ (m : ℕ). get_or (x ∷ xs) m []) z ∙ same-is x t e)
place_at k x xs t n false e r = ⊎_elim (λ z. inl z) (λ p. inr (omega (arith, p.0), behind x xs k n p.0 ∙ p.1)) r

place : (k : ℕ) (xs : List (List ℕ)) (t : List ℕ) → Placed k xs t (place_from k xs t)
unfolding place_from Placed
place k [] t = inl refl
place k (x ∷ xs) t = place_at k x xs t (place_from (suc k) xs t) (same x t) refl (place (suc k) xs t)

found : (xs : List (List ℕ)) (t : List ℕ) → (place_from 0 xs t ≡ 0 → ⊥) → get_or xs (place_from 0 xs t) [] ≡ t
unfolding Placed
found xs t f =
    let z : place_from 0 xs t ≡ place_from 0 xs t - 0 = omega arith in
    ⊎_elim (λ e. absurd (f e)) (λ p. ap (λ (n : ℕ). get_or xs n []) z ∙ p.1) (place 0 xs t)

-- the text of a text's number is the text, and so for keys
pub text-back : (t : List ℕ) → (number_of t ≡ 0 → ⊥) → text_of (number_of t) ≡ t
unfolding number_of
text-back t f = found all_texts t f

pub key_back : (t : List ℕ) → (field_of t ≡ 0 → ⊥) → key_text (field_of t) ≡ t
unfolding field_of
key_back t f = found all_keys t f

-- the number of a number's text is the number, so no text stands twice, and so for keys
text-test : all (λ n. eqb (number_of (text_of n)) n) 289 ≡ true
unfolding number_of place_from same texts all
text-test = refl

pub number-back : (n : ℕ) → n ≤ 288 → number_of (text_of n) ≡ n
number-back n h = eqb-true (number_of (text_of n)) n (all-at (λ n. eqb (number_of (text_of n)) n) n 289 text-test (omega arith))

key-test : all (λ n. eqb (field_of (key_text n)) n) 91 ≡ true
unfolding field_of place_from same keys all
key-test = refl

pub field_back : (n : ℕ) → n ≤ 90 → field_of (key_text n) ≡ n
field_back n h = eqb-true (field_of (key_text n)) n (all-at (λ n. eqb (field_of (key_text n)) n) n 91 key-test (omega arith))

-- printable ASCII, and neither a quotation mark nor a backslash
abbrev pub plain : List ℕ → Bool
plain [] = true
plain (x ∷ xs) = leb 32 x && leb x 126 && not (eqb x 34) && not (eqb x 92) && plain xs

texts-plain-test : all (λ n. plain (text_of n)) 289 ≡ true
unfolding texts all
texts-plain-test = refl

pub texts-plain : (n : ℕ) → n ≤ 288 → plain (text_of n) ≡ true
texts-plain n h = all-at (λ n. plain (text_of n)) n 289 texts-plain-test (omega arith)

keys-plain-test : all (λ n. plain (key_text n)) 91 ≡ true
unfolding keys all
keys-plain-test = refl

pub keys-plain : (n : ℕ) → n ≤ 90 → plain (key_text n) ≡ true
keys-plain n h = all-at (λ n. plain (key_text n)) n 91 keys-plain-test (omega arith)
