-- What stands in octets from a place on, and numbers of two and of four octets, laid out and read.
use Prim.Native.Nat.{ℕ, ◌+◌, ◌<◌}
use mathlib.Core.List.{List, ◌++◌}
use mathlib.Core.Path.{◌≡◌, refl, sym, ap, ◌∙◌}
use native.Mathlib.Nat.{add-zero}
use lib.ListN.{length, get_or, drop}
use lib.Seq.{drop_at, drop-drop, get_or-drop}
use Rattle.octets.specs.Read.{be16, be32, octets_of}
use Rattle.octets.proofs.Numbers.{be16-is, be32-is, number-back}

-- ---- numbers in front
pub two_back : (n : ℕ) (rest : List ℕ) → n < 65536 → be16 (get_or (octets_of 2 n ++ rest) 0 0) (get_or (octets_of 2 n ++ rest) 1 0) ≡ n
two_back n rest h = sym (be16-is (get_or (octets_of 2 n) 0 0) (get_or (octets_of 2 n) 1 0)) ∙ number-back 2 n h

pub four-back : (n : ℕ) (rest : List ℕ) → n < 4294967296
    → be32 (get_or (octets_of 4 n ++ rest) 0 0) (get_or (octets_of 4 n ++ rest) 1 0) (get_or (octets_of 4 n ++ rest) 2 0) (get_or (octets_of 4 n ++ rest) 3 0) ≡ n
four-back n rest h =
    let o : List ℕ = octets_of 4 n in
    sym (be32-is (get_or o 0 0) (get_or o 1 0) (get_or o 2 0) (get_or o 3 0)) ∙ number-back 4 n h

-- ---- what stands from place p on
-- what follows a part of it
pub next : (s a rest : List ℕ) (p : ℕ) → drop p s ≡ a ++ rest → drop (p + length a) s ≡ rest
next s a rest p e = sym (drop-drop (length a) p s) ∙ ap (drop (length a)) e ∙ drop_at a rest (length a) refl

-- an octet of it, and the first
pub octet_of : (s rest : List ℕ) (p k : ℕ) → drop p s ≡ rest → get_or s (p + k) 0 ≡ get_or rest k 0
octet_of s rest p k e = sym (get_or-drop p s k 0) ∙ ap (λ (z : List ℕ). get_or z k 0) e

pub first_of : (s rest : List ℕ) (p : ℕ) → drop p s ≡ rest → get_or s p 0 ≡ get_or rest 0 0
first_of s rest p e = rw add-zero at (octet_of s rest p 0 e)
