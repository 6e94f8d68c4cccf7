-- The answers of `room`, each way, and what 2 gives.
use Prim.Native.Nat.{ℕ, ◌+◌, ◌*◌, ◌-◌, ◌≤◌, ◌<◌}
use mathlib.Core.Path.{◌≡◌, refl}
use mathlib.Core.Bool.{Bool, true, false, cond}
use mathlib.Core.List.{List}
use native.Mathlib.Omega.{arith}
use lib.Dec.{ltb}
use borrow.Author.Tests.{lt-ltb, le-ltb, ltb-false}
use Rattle.tables.specs.Tables.{links, blocks_in, reserve, cap, count, units, excess_of}
use Rattle.tables.proofs.Laws.{Tables, Link}
use Rattle.pool.specs.View.{refusal, Room}

module _ (w : List ℕ) (l u k n : ℕ) where
  -- what the link would have, and both sides of the last test
  abbrev would : ℕ
  would = count w l + n - k

  abbrev there : ℕ
  there = blocks_in w - links w * reserve w + (count w l - reserve w)

  abbrev asked : ℕ
  asked = excess_of w (links w) + (would - reserve w)

  pub says-11 : 8 < units w l + u → refusal w l u k n ≡ 11
  unfolding refusal
  says-11 h = rw (lt-ltb 8 (units w l + u) h)

  module _ (few : units w l + u ≤ 8) where
    pub says-12 : cap w < would → refusal w l u k n ≡ 12
    unfolding refusal
    says-12 h = rw (le-ltb 8 (units w l + u) few, lt-ltb (cap w) would h)

    module _ (own : would ≤ cap w) where
      pub says-13 : there < asked → refusal w l u k n ≡ 13
      unfolding refusal
      says-13 h = rw (le-ltb 8 (units w l + u) few, le-ltb (cap w) would own, lt-ltb there asked h)

      pub says-2 : asked ≤ there → refusal w l u k n ≡ 2
      unfolding refusal
      says-2 h = rw (le-ltb 8 (units w l + u) few, le-ltb (cap w) would own, le-ltb there asked h)

      -- a link within its reserve takes nothing of the common rest
      pub within-2 : Tables w → would ≤ reserve w → refusal w l u k n ≡ 2
      within-2 g h = says-2 (omega (arith, g.rest))

    -- a link that gets no more keeps its shares
    pub less-2 : Tables w → Link w l → k ≤ count w l → n ≤ k → refusal w l u k n ≡ 2
    less-2 g o hk h = says-2 (omega (arith, o.within)) (omega (arith, g.rest))

  -- three tests were passed where the answer is 2
  passed : (a b c : Bool) → ◌≡◌ {A = ℕ} (cond a 11 (cond b 12 (cond c 13 2))) 2 → (a ≡ false) × (b ≡ false) × (c ≡ false)
  passed true b c h = absurd (omega arith)
  passed false true c h = absurd (omega arith)
  passed false false true h = absurd (omega arith)
  passed false false false h = (refl, refl, refl)

  pub room_of : k ≤ count w l → refusal w l u k n ≡ 2 → (units w l + u ≤ 8) × Room w l k n
  unfolding refusal
  room_of hk h =
      let p = passed (ltb 8 (units w l + u)) (ltb (cap w) would) (ltb there asked) h in
      let o : would ≤ cap w = ltb-false (cap w) would p.1 in
      (ltb-false 8 (units w l + u) p.0, record { own = omega arith; common = ltb-false there asked p.2 })

  pub room-is : k ≤ count w l → units w l + u ≤ 8 → Room w l k n → refusal w l u k n ≡ 2
  room-is hk few r = says-2 few (omega (arith, r.own)) r.common
