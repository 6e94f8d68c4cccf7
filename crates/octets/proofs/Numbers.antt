-- A number of w octets and its octets are the same thing.
use mathlib.Core.Path.{◌≡◌, refl, sym, ap, ap₂, ◌∙◌}
use mathlib.Core.List.{List, [], ◌∷◌, ◌++◌, append_assoc, append-nil}
use Prim.Native.Nat.{ℕ, zero, suc, ◌+◌, ◌*◌, ◌/◌, ◌%◌, ◌^◌, ◌<◌}
use native.Mathlib.Nat.{pow-suc, zero-add, add-zero, add-suc, suc-add, div-lt_iff_lt-mul, div-add-mod'}
use native.Mathlib.Omega.{arith}
use lib.Dec.{lit<}
use lib.ListN.{length, get_or}
use Rattle.octets.specs.Read.{be16, be32, big_endian, big_endian_from, octets_of}

from_snoc : (h : ℕ) (xs : List ℕ) (x : ℕ) → big_endian_from h (xs ++ (x ∷ [])) ≡ be16 (big_endian_from h xs) x
from_snoc h [] x = refl
from_snoc h (y ∷ ys) x = from_snoc (be16 h y) ys x

pub be16-is : (a b : ℕ) → big_endian (a ∷ b ∷ []) ≡ be16 a b
be16-is a b = omega arith

pub be32-is : (a b c d : ℕ) → big_endian (a ∷ b ∷ c ∷ d ∷ []) ≡ be32 a b c d
be32-is a b c d = omega arith

-- a number below 256 ^ w, from its w octets
pub number-back : (w n : ℕ) → n < 256 ^ w → big_endian (octets_of w n) ≡ n
number-back zero n h = omega arith
number-back (suc w) n h =
    let low : n / 256 < 256 ^ w = (div-lt_iff_lt-mul {x = n} (lit< tt)).1 (rw pow-suc at h) in
    from_snoc 0 (octets_of w (n / 256)) (n % 256) ∙ ap (λ (m : ℕ). be16 m (n % 256)) (number-back w (n / 256) low) ∙ div-add-mod' n 256

-- every element is an octet
abbrev pub Octets : List ℕ → Type 0
Octets xs = (i : ℕ) → i < length xs → get_or xs i 0 < 256

octets-on : (xs : List ℕ) (w h : ℕ) → Octets xs → octets_of (length xs + w) (big_endian_from h xs) ≡ octets_of w h ++ xs
octets-on [] w h p = rw zero-add (sym (append-nil (octets_of w h)))
octets-on (x ∷ xs) w h p =
    let small : x < 256 = p 0 (omega arith) in
    let high : (h * 256 + x) / 256 ≡ h = omega arith in
    let low : (h * 256 + x) % 256 ≡ x = omega arith in
    ap (λ (k : ℕ). octets_of k (big_endian_from (be16 h x) xs)) (suc-add (length xs) w ∙ sym (add-suc (length xs) w))
    ∙ octets-on xs (suc w) (be16 h x) (λ i l. p (suc i) (omega arith))
    ∙ ap₂ (λ (m y : ℕ). octets_of w m ++ (y ∷ []) ++ xs) high low
    ∙ append_assoc (octets_of w h) (x ∷ []) xs

-- octets, from the number that they are
pub octets-back : (xs : List ℕ) → Octets xs → octets_of (length xs) (big_endian xs) ≡ xs
octets-back xs p = rw add-zero at (octets-on xs 0 0 p)
