-- Runs of zeros.
use Prim.Native.Nat.{ℕ, ◌+◌, ◌-◌, ◌≤◌}
use mathlib.Core.Path.{◌≡◌, sym, ap, ◌∙◌}
use mathlib.Core.List.{List, ◌++◌}
use native.Mathlib.Omega.{arith}
use lib.ListN.{take, drop, replicate, length-replicate, replicate-append-replicate}
use lib.Seq.{take_at, drop_at}

-- a part of zeros is zeros
pub part_zeros : (m d n : ℕ) → d + n ≤ m → take n (drop d (replicate m 0)) ≡ replicate {A = ℕ} n 0
part_zeros m d n h =
    let e : m ≡ d + (n + (m - (d + n))) = omega arith in
    let a : replicate {A = ℕ} m 0 ≡ replicate d 0 ++ (replicate n 0 ++ replicate (m - (d + n)) 0) =
    ap (λ (k : ℕ). replicate k 0) e ∙ sym (replicate-append-replicate d (n + (m - (d + n))) 0) ∙ ap (λ (x : List ℕ). replicate d 0 ++ x) (sym (replicate-append-replicate n (m - (d + n)) 0)) in
    ap (λ (x : List ℕ). take n (drop d x)) a
    ∙ ap (take n) (drop_at (replicate d 0) (replicate n 0 ++ replicate (m - (d + n)) 0) d (length-replicate d 0))
    ∙ take_at (replicate n 0) (replicate (m - (d + n)) 0) n (length-replicate n 0)
