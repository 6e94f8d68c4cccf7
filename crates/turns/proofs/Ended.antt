-- What is kept of a unit, with a piece behind it, in an output.
use Prim.Native.Nat.{ℕ, suc, ◌+◌, ◌≤◌, ◌<◌}
use mathlib.Core.Path.{◌≡◌, sym, ap, ap₂, ◌∙◌}
use mathlib.Core.Bool.{Bool, cond, true, false}
use mathlib.Core.List.{List, [], ◌∷◌, ◌++◌, append-nil}
use native.Mathlib.Omega.{arith}
use lib.Ieee.{Float}
use lib.ListN.{length, get_or, set, take, drop, drop_of_length-le, get_or-eq_default}
use lib.Seq.{take_all, take-length, set-get_or}
use Rattle.octets.specs.Emit.{put}
use Rattle.octets.proofs.Put.{put_nil, put-put}
use Rattle.tables.specs.Tables.{links, units}
use Rattle.pool.specs.View.{Unit, blank, pend, without, removed}
use Rattle.pool.proofs.Expired.{view-long}

module _ (w : List ℕ) (tm : List Float) (list bs : List ℕ) (l j : ℕ) (hl : l < links w) where
  -- what is not there stays as it is
  pub removed-past : units w l ≤ j → pend w tm list bs ≡ removed (pend w tm list bs) l j
  unfolding removed without
  removed-past h =
      let us : List Unit = get_or (pend w tm list bs) l [] in
      let long : length us ≤ j = omega (arith, view-long w tm list bs l hl) in
      sym (ap (set (pend w tm list bs) l) (ap₂ (λ (x y : List Unit). x ++ y) (take_all j us long) (drop_of_length-le us {i = suc j} (omega (arith, long))) ∙ append-nil us) ∙ set-get_or (pend w tm list bs) l [])

-- behind the last unit there is nothing to keep
pub none-kept : (keep : Bool) (us : List Unit) → length (cond keep (get_or us (length us) blank).body []) ≤ 0
none-kept true us = let e : get_or us (length us) blank ≡ blank = get_or-eq_default us blank (omega arith) in omega (arith, ap (λ (u : Unit). length u.body) e)
none-kept false us = omega arith

pub put-none : (o s : List ℕ) → length s ≤ 0 → o ≡ put o 0 s
put-none o [] h = sym (put_nil o 0)
put-none o (x ∷ s) h = absurd (omega arith)

-- ---- s is written, and the piece behind it
module _ (o s piece : List ℕ) (d : ℕ) (e : d ≡ length s) where
  pub both : (f o' : List ℕ) → f ≡ put o 0 s → o' ≡ put f d (take (length piece) piece) → o' ≡ put o 0 (s ++ piece)
  both f o' g h =
      let at : d ≡ 0 + length s = omega (arith, e) in
      h ∙ ap (put f d) (take-length piece) ∙ ap₂ (λ (x : List ℕ) (k : ℕ). put x k piece) g at ∙ put-put o 0 s piece
