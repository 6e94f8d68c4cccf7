-- A new store: its tables are sound and no link has a unit.
use Prim.Native.Nat.{ℕ, zero, suc, ◌+◌, ◌*◌, ◌-◌, ◌≤◌, ◌<◌}
use mathlib.Core.Path.{◌≡◌, refl, sym, ap, ◌∙◌}
use mathlib.Core.Bool.{Bool, true, false}
use mathlib.Core.List.{List, []}
use native.Mathlib.Omega.{arith}
use lib.Dec.{ltb, leb}
use lib.Ieee.{Float}
use lib.ListN.{length, get_or, set, replicate, length-set, length-replicate, get_or-replicate}
use lib.Seq.{get_or-set_same, get_or-set_other}
use borrow.Author.Tests.{ltb-true, ltb-false, leb-true}
use Rattle.octets.specs.Emit.{put}
use Rattle.octets.proofs.Tests.{all_none, all_of, and_left, and_right}
use Rattle.octets.proofs.Put.{put_same, length-put}
use Rattle.chain.specs.Chain.{homed}
use Rattle.tables.specs.Tables.{links, blocks_in, reserve, cap, count, units, sum, places_ok, costs, keys_ok, allowed, settings_ok, link_at, idle, used_of, excess_of}
use Rattle.tables.proofs.Laws.{settings, link_of_lem, link-is, idle-is, sum-none}
use Rattle.pool.specs.View.{fits, new_words, Made, tab, start_of, unit_at, link_units, octets, pend}
use Rattle.pool.proofs.Good.{Good, good_of}
use Rattle.pool.proofs.Tab.{tab-same}

sum-zero : (f : ℕ → ℕ) (n : ℕ) → ((i : ℕ) → i < n → f i ≡ 0) → sum f n ≡ 0
unfolding sum
sum-zero f zero h = refl
sum-zero f (suc n) h = omega (arith, sum-zero f n (λ i q. h i (omega arith)), h n (omega arith))

pub most_blocks : (n b r c : ℕ) → allowed n b r c ≡ true → b ≤ 1024
unfolding allowed
most_blocks n b r c h =
    let h₂ = and_right (leb 1 n) _ h in
    let h₃ = and_right (leb n 16) _ h₂ in
    leb-true b 1024 (and_left (leb b 1024) _ (and_right (leb 1 b) _ h₃))

module _ (w : List ℕ) (tm : List Float) (list home bs : List ℕ) (n b r c : ℕ) where
  -- what the test says
  record Lent : Type 0 where
    may : allowed n b r c ≡ true
    long : 1576 ≤ length w
    places : 128 ≤ length tm
    listed : b ≤ length list
    homes : b ≤ length home
    room : 64 * b ≤ length bs

  lent : fits w tm list home bs n b r c ≡ true → Lent
  unfolding fits
  lent h =
      let h₂ = and_right (allowed n b r c) _ h in
      let h₃ = and_right (leb 1576 (length w)) _ h₂ in
      let h₄ = and_right (leb 128 (length tm)) _ h₃ in
      let h₅ = and_right (leb b (length list)) _ h₄ in
      record {
        may = and_left (allowed n b r c) _ h;
        long = leb-true 1576 (length w) (and_left (leb 1576 (length w)) _ h₂);
        places = leb-true 128 (length tm) (and_left (leb 128 (length tm)) _ h₃);
        listed = leb-true b (length list) (and_left (leb b (length list)) _ h₄);
        homes = leb-true b (length home) (and_left (leb b (length home)) _ h₅);
        room = leb-true (64 * b) (length bs) (and_right (leb b (length home)) _ h₅);
      }

  module _ (kind : ℕ) (yes : Lent) where
    abbrev w' : List ℕ
    w' = new_words w kind n b r c

    abbrev z0 : List ℕ
    z0 = put w 5 (replicate 35 0)

    long0 : length z0 ≡ length w
    long0 = length-put w 5 (replicate 35 0)

    same-long : length w' ≡ length w
    same-long = simp length-set long0

    at-kind : get_or w' 0 0 ≡ kind
    at-kind =
        get_or-set_other (set (set (set (set z0 0 kind) 1 n) 2 b) 3 r) 4 0 c 0 (λ z. omega (arith, z)) ∙ get_or-set_other (set (set (set z0 0 kind) 1 n) 2 b) 3 0 r 0 (λ z. omega (arith, z))
        ∙ get_or-set_other (set (set z0 0 kind) 1 n) 2 0 b 0 (λ z. omega (arith, z)) ∙ get_or-set_other (set z0 0 kind) 1 0 n 0 (λ z. omega (arith, z)) ∙ get_or-set_same z0 0 kind 0 (omega (arith, long0, yes.long))

    at-links : links w' ≡ n
    at-links =
        get_or-set_other (set (set (set (set z0 0 kind) 1 n) 2 b) 3 r) 4 1 c 0 (λ z. omega (arith, z)) ∙ get_or-set_other (set (set (set z0 0 kind) 1 n) 2 b) 3 1 r 0 (λ z. omega (arith, z))
        ∙ get_or-set_other (set (set z0 0 kind) 1 n) 2 1 b 0 (λ z. omega (arith, z)) ∙ get_or-set_same (set z0 0 kind) 1 n 0 (simp length-set (omega (arith, long0, yes.long)))

    at-blocks : blocks_in w' ≡ b
    at-blocks =
        get_or-set_other (set (set (set (set z0 0 kind) 1 n) 2 b) 3 r) 4 2 c 0 (λ z. omega (arith, z)) ∙ get_or-set_other (set (set (set z0 0 kind) 1 n) 2 b) 3 2 r 0 (λ z. omega (arith, z))
        ∙ get_or-set_same (set (set z0 0 kind) 1 n) 2 b 0 (simp length-set (omega (arith, long0, yes.long)))

    at-reserve : reserve w' ≡ r
    at-reserve =
        get_or-set_other (set (set (set (set z0 0 kind) 1 n) 2 b) 3 r) 4 3 c 0 (λ z. omega (arith, z))
        ∙ get_or-set_same (set (set (set z0 0 kind) 1 n) 2 b) 3 r 0 (simp length-set (omega (arith, long0, yes.long)))

    at_cap : cap w' ≡ c
    at_cap = get_or-set_same (set (set (set (set z0 0 kind) 1 n) 2 b) 3 r) 4 c 0 (simp length-set (omega (arith, long0, yes.long)))

    -- the counts
    no_count : (k : ℕ) → k < 35 → get_or w' (5 + k) 0 ≡ 0
    no_count k h =
        get_or-set_other (set (set (set (set z0 0 kind) 1 n) 2 b) 3 r) 4 (5 + k) c 0 (λ z. omega (arith, z)) ∙ get_or-set_other (set (set (set z0 0 kind) 1 n) 2 b) 3 (5 + k) r 0 (λ z. omega (arith, z))
        ∙ get_or-set_other (set (set z0 0 kind) 1 n) 2 (5 + k) b 0 (λ z. omega (arith, z)) ∙ get_or-set_other (set z0 0 kind) 1 (5 + k) n 0 (λ z. omega (arith, z)) ∙ get_or-set_other z0 0 (5 + k) kind 0 (λ z. omega (arith, z))
        ∙ put_same (replicate 35 0) w 5 k 0 (omega (arith, length-replicate {A = ℕ} 35 0)) (omega (arith, length-replicate {A = ℕ} 35 0, yes.long)) ∙ get_or-replicate 35 k 0 0 h

    no_blocks : (l : ℕ) → l < 16 → count w' l ≡ 0
    no_blocks l h = let e : 8 + l ≡ 5 + (3 + l) = omega arith in ap (λ (i : ℕ). get_or w' i 0) e ∙ no_count (3 + l) (omega arith)

    no_units : (l : ℕ) → l < 16 → units w' l ≡ 0
    no_units l h = let e : 24 + l ≡ 5 + (19 + l) = omega arith in ap (λ (i : ℕ). get_or w' i 0) e ∙ no_count (19 + l) (omega arith)

    set-up : settings_ok w' ≡ true
    unfolding settings_ok
    set-up = rw (at-links, at-blocks, at-reserve, at_cap) yes.may

    few-links : n ≤ 16
    few-links = omega (arith, at-links, (settings w' set-up).few-links)

    idle-link : (l : ℕ) → l < 16 → link_at w' l ≡ true
    unfolding idle
    idle-link l h = go (ltb l (links w')) refl
      where
        go : (t : Bool) → ltb l (links w') ≡ t → link_at w' l ≡ true
        go true e = link-is w' l (ltb-true l (links w') e) ∙ link_of_lem w' l (record {
          few = omega (arith, no_units l h);
          right = ap (places_ok w' (8 * l)) (no_units l h) ∙ all_none _;
          agrees = no_blocks l h ∙ sym (ap (costs w' (8 * l)) (no_units l h) ∙ sum-none _);
          within = omega (arith, no_blocks l h);
          apart = ap (keys_ok w' (8 * l)) (no_units l h) ∙ all_none _;
        })
        go false e = idle-is w' l (ltb-false l (links w') e) ∙ rw (no_units l h, no_blocks l h)

    no_excess : excess_of w' (links w') ≡ 0
    no_excess = sum-zero (λ l. count w' l - reserve w') (links w') (λ l h. omega (arith, no_blocks l (omega (arith, at-links, few-links))))

    none_used : used_of w' (links w') ≡ 0
    none_used = sum-zero (count w') (links w') (λ l h. no_blocks l (omega (arith, at-links, few-links)))

    new-good : Good w' tm list home bs
    new-good = record {
      tab = record { long = omega (arith, same-long, yes.long); set = set-up; each = all_of (link_at w') 16 idle-link; rest = omega (arith, no_excess) };
      places = yes.places;
      listed = omega (arith, at-blocks, yes.listed);
      homes = omega (arith, at-blocks, yes.homes);
      room = omega (arith, at-blocks, yes.room);
      chain = ap (homed home list (blocks_in w')) none_used ∙ all_none _;
    }

    no_unit : (f : List ℕ) (l : ℕ) → l < n → link_units w' tm f l ≡ []
    unfolding tab
    no_unit f l h = ap (tab (λ j. unit_at w' tm f (start_of w' l j) (8 * l + j))) (no_units l (omega (arith, few-links)))

    made_of : Made w' tm list home bs kind n b r c
    unfolding pend
    made_of = record {
      ok = good_of w' tm list home bs new-good;
      none = ap (tab (link_units w' tm (octets w' list bs))) at-links ∙ tab-same (link_units w' tm (octets w' list bs)) (λ l. []) n (no_unit (octets w' list bs));
      on-kind = at-kind;
      on-links = at-links;
      on-blocks = at-blocks;
      on-reserve = at-reserve;
      on-cap = at_cap;
    }

  pub made : (kind : ℕ) → fits w tm list home bs n b r c ≡ true → Made (new_words w kind n b r c) tm list home bs kind n b r c
  made kind h = made_of kind (lent h)
