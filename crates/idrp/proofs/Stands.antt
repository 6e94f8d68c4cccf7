-- What stands in octets from a place within them on, and numbers of two and of four octets there.
use Prim.Native.Nat.{ℕ, ◌+◌, ◌≤◌, ◌<◌}
use mathlib.Core.List.{List, ◌++◌}
use mathlib.Core.Path.{◌≡◌, sym, ap, ap₂, ◌∙◌}
use native.Mathlib.Omega.{arith}
use lib.ListN.{length, get_or, take, drop, length-append, length-drop}
use lib.Seq.{take-append_seam}
use Rattle.octets.specs.Read.{be16, be32, octets_of}
use Rattle.octets.proofs.Stands as stands
use Rattle.idrp.specs.Update.{at16}

-- all of s from place i on
abbrev pub From : List ℕ → ℕ → List ℕ → Type 0
From s i all = (i ≤ length s) × (drop i s ≡ all)

pub long : (s all : List ℕ) (i : ℕ) → From s i all → length s ≡ i + length all
long s all i w = omega (arith, w.0, length-drop i s, ap length w.1)

pub octet : (s all : List ℕ) (i k : ℕ) → From s i all → get_or s (i + k) 0 ≡ get_or all k 0
octet s all i k w = stands.octet_of s all i k w.1

pub first : (s all : List ℕ) (i : ℕ) → From s i all → get_or s i 0 ≡ get_or all 0 0
first s all i w = stands.first_of s all i w.1

-- and from a later place on
pub next : (s x y : List ℕ) (i j : ℕ) → i + length x ≡ j → From s i (x ++ y) → From s j y
next s x y i j e w =
    let l : length s ≡ i + length (x ++ y) = long s (x ++ y) i w in
    (omega (arith, l, length-append x y, e), ap (λ (n : ℕ). drop n s) (sym e) ∙ stands.next s x y i w.1)

pub part-at : (s x y : List ℕ) (i : ℕ) → From s i (x ++ y) → take (length x) (drop i s) ≡ x
part-at s x y i w = ap (take (length x)) w.1 ∙ take-append_seam x y

pub two_at : (s : List ℕ) (i n : ℕ) (rest : List ℕ) → n < 65536 → From s i (octets_of 2 n ++ rest) → at16 s i ≡ n
two_at s i n rest h w = ap₂ be16 (first s (octets_of 2 n ++ rest) i w) (octet s (octets_of 2 n ++ rest) i 1 w) ∙ stands.two_back n rest h

pub four-at : (s : List ℕ) (i n : ℕ) (rest : List ℕ) → n < 4294967296 → From s i (octets_of 4 n ++ rest)
    → be32 (get_or s i 0) (get_or s (i + 1) 0) (get_or s (i + 2) 0) (get_or s (i + 3) 0) ≡ n
four-at s i n rest h w =
    let all : List ℕ = octets_of 4 n ++ rest in
    (λ j. be32 (first s all i w j) (octet s all i 1 w j) (octet s all i 2 w j) (octet s all i 3 w j)) ∙ stands.four-back n rest h
