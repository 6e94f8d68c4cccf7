-- What a store's tables, chains and octets spell, and when they are sound.
use Rattle.std.specs.Prelude.{ℕ, zero, suc, ◌+◌, ◌*◌, ◌-◌, ◌≤◌, ◌<◌, ◌≡◌, Bool, true, cond, ◌&&◌, List, [], ◌∷◌, ◌++◌, leb, ltb, eqb, Float, length, get_or, set, take, drop, replicate}
use Rattle.std.specs.Float.{nan}
use Rattle.std.specs.Prelude.{Option, Some, None, Result, Ok, Err}
use Rattle.clock.specs.Time.{fresh_t}
use Rattle.pool.specs.declared.link.Full.{Full}
use Rattle.pool.specs.declared.link.Full.TheVariants.{Places, Cap, Common}
use Rattle.octets.specs.Tests.{all}
use Rattle.octets.specs.Emit.{put}
use Rattle.chain.specs.Chain.{homed, flat}
use Rattle.shift.specs.Shift.{shifted}
use Rattle.tables.specs.Tables.{links, blocks_in, reserve, cap, count, units, word, place_cost, costs, used_of, excess_of, allowed, tables_ok}

-- a pending unit: six words of key, a note, the time of its last piece, and two parts
pub record Unit : Type 0 where
  pub key : List ℕ
  pub note : ℕ
  pub time : Float
  pub body : List ℕ
  pub top : List ℕ

abbrev pub Units : Type 0
Units = List Unit

-- the values of a function at 0, 1, .., n - 1
unfoldable pub tab : {A : Type 0} → (ℕ → A) → ℕ → List A
tab f zero = []
tab f (suc n) = tab f n ++ (f n ∷ [])

-- the block from which on place j of link l stands
abbrev pub start_of : List ℕ → ℕ → ℕ → ℕ
start_of w l j = used_of w l + costs w (8 * l) j

-- the unit of place p, whose blocks stand from s on in the octets f
abbrev pub unit_at : List ℕ → List Float → List ℕ → ℕ → ℕ → Unit
unit_at w t f s p = record {
  key = tab (word w p) 6;
  note = word w p 6;
  time = get_or t p nan;
  body = take (word w p 7) (drop (64 * s) f);
  top = take (word w p 8) (drop (64 * (s + word w p 9)) f);
}

-- the units of link l, in the order of their admission
abbrev pub link_units : List ℕ → List Float → List ℕ → ℕ → Units
link_units w t f l = tab (λ j. unit_at w t f (start_of w l j) (8 * l + j)) (units w l)

-- the octets of the blocks in use
abbrev pub octets : List ℕ → List ℕ → List ℕ → List ℕ
octets w list bs = flat bs (take (used_of w (links w)) list)

-- the view: the pending units of each link
unfoldable pub pend : List ℕ → List Float → List ℕ → List ℕ → List Units
pend w t list bs = tab (link_units w t (octets w list bs)) (links w)

-- the soundness test, but for the kind's own test of a unit
unfoldable pub sound : List ℕ → List Float → List ℕ → List ℕ → List ℕ → Bool
sound w t list home bs =
    tables_ok w && (leb 128 (length t) && (leb (blocks_in w) (length list) && (leb (blocks_in w) (length home) && (leb (64 * blocks_in w) (length bs) && homed home list (blocks_in w) (used_of w (links w))))))

-- kind and settings stay
pub record SameSettings (w w' : List ℕ) : Type 0 where
  pub on-kind : get_or w' 0 0 ≡ get_or w 0 0
  pub on-links : links w' ≡ links w
  pub on-blocks : blocks_in w' ≡ blocks_in w
  pub on-reserve : reserve w' ≡ reserve w
  pub on-cap : cap w' ≡ cap w

-- ---- what the operations leave, on the view

abbrev pub blank : Unit
blank = record { key = []; note = 0; time = nan; body = []; top = [] }

-- unit j of link l
abbrev pub unit_of : List Units → ℕ → ℕ → Unit
unit_of st l j = get_or (get_or st l []) j blank

-- unit j of link l is v
abbrev pub with_unit : List Units → ℕ → ℕ → Unit → List Units
with_unit st l j v = set st l (set (get_or st l []) j v)

-- a part of a unit from its octet d on is s
abbrev pub body_from : Unit → ℕ → List ℕ → Unit
body_from u d s = record { key = u.key; note = u.note; time = u.time; body = take d u.body ++ s; top = u.top }

abbrev pub top_from : Unit → ℕ → List ℕ → Unit
top_from u d s = record { key = u.key; note = u.note; time = u.time; body = u.body; top = take d u.top ++ s }

-- link l may have n blocks in the place of k
pub record Room (w : List ℕ) (l k n : ℕ) : Type 0 where
  pub own : count w l + n ≤ cap w + k
  pub common : excess_of w (links w) + (count w l + n - k - reserve w) ≤ blocks_in w - links w * reserve w + (count w l - reserve w)

-- the answer on u units more and n blocks in the place of k for link l, by the counts: 2, or the refusal
unfoldable pub refusal : List ℕ → ℕ → ℕ → ℕ → ℕ → ℕ
refusal w l u k n =
    let c = count w l + n - k in
    cond (ltb 8 (units w l + u)) 11
    (cond (ltb (cap w) c) 12
    (cond (ltb (blocks_in w - links w * reserve w + (count w l - reserve w)) (excess_of w (links w) + (c - reserve w))) 13 2))

-- the number of a refusal, and of the answer: 2, or the refusal's
abbrev pub number : Full → ℕ
number Places = 11
number Cap = 12
number Common = 13

abbrev pub answer : {A : Type 0} → Result A Full → ℕ
answer (Ok x) = 2
answer (Err e) = number e

-- the list with entry j left out
unfoldable pub without : {A : Type 0} → ℕ → List A → List A
without j us = take j us ++ drop (suc j) us

-- unit j of link l is gone
unfoldable pub removed : List Units → ℕ → ℕ → List Units
removed st l j = set st l (without j (get_or st l []))

-- the units that are fresh at this time
unfoldable pub keep_u : Float → Units → Units
keep_u at [] = []
keep_u at (u ∷ us) = cond (fresh_t at u.time) (u ∷ keep_u at us) (keep_u at us)

-- link l has expired
unfoldable pub expired : List Units → ℕ → Float → List Units
expired st l at = set st l (keep_u at (get_or st l []))

-- link l has no units
unfoldable pub emptied : List Units → ℕ → List Units
emptied st l = set st l []

-- a note and a time
abbrev pub marked_u : Unit → ℕ → Float → Unit
marked_u u note at = record { key = u.key; note = note; time = at; body = u.body; top = u.top }

-- unit j of link l has this note and this time
unfoldable pub marked : List Units → ℕ → ℕ → ℕ → Float → List Units
marked st l j note at = with_unit st l j (marked_u (unit_of st l j) note at)

-- the words with the note of place j of link l set
abbrev pub mark_words : List ℕ → ℕ → ℕ → ℕ → List ℕ
mark_words w l j note = set w (40 + 12 * (8 * l + j) + 6) note

-- a unit with no octets
abbrev pub added_u : List ℕ → ℕ → Float → Unit
added_u key note at = record { key = key; note = note; time = at; body = []; top = [] }

-- it is a unit of link l, last in the order of admission
unfoldable pub added : List Units → ℕ → List ℕ → ℕ → Float → List Units
added st l key note at = set st l (get_or st l [] ++ (added_u key note at ∷ []))

-- the words of its place, and the words with that place behind the others of link l
abbrev pub place_words : List ℕ → ℕ → List ℕ
place_words key note = key ++ (note ∷ 0 ∷ 0 ∷ 0 ∷ 0 ∷ [])

abbrev pub add_words : List ℕ → ℕ → List ℕ → ℕ → List ℕ
add_words w l key note = set (put w (40 + 12 * (8 * l + units w l)) (place_words key note)) (24 + l) (units w l + 1)

-- place p has this key
abbrev pub key_is : List ℕ → ℕ → List ℕ → Bool
key_is w p key = all (λ k. eqb (word w p k) (get_or key k 0)) 6

-- r is the first unit with this key, or the number of units where none has it
pub record Found (us : Units) (key : List ℕ) (r : ℕ) : Type 0 where
  pub within : r ≤ length us
  pub first : (i : ℕ) → i < r → (get_or us i blank).key ≡ key → ⊥
  pub has : r < length us → (get_or us r blank).key ≡ key

-- what a search for this key says
abbrev pub Finds : Units → List ℕ → Option ℕ → Type 0
Finds us key None = Found us key (length us)
Finds us key (Some r) = (r < length us) × Found us key r

-- part 0 is the body, and 1 the top
abbrev pub part_of : ℕ → Unit → List ℕ
part_of part u = cond (eqb part 0) u.body u.top

abbrev pub part_from : ℕ → Unit → ℕ → List ℕ → Unit
part_from part u d s = cond (eqb part 0) (body_from u d s) (top_from u d s)

-- a part of unit j of link l from its octet d on is s
unfoldable pub spliced : List Units → ℕ → ℕ → ℕ → ℕ → List ℕ → List Units
spliced st l j part d s = with_unit st l j (part_from part (unit_of st l j) d s)

-- a part of a unit has s from its octet o on
abbrev pub part_put : ℕ → Unit → ℕ → List ℕ → Unit
part_put part u o s =
    cond (eqb part 0) (record { key = u.key; note = u.note; time = u.time; body = put u.body o s; top = u.top })
    (record { key = u.key; note = u.note; time = u.time; body = u.body; top = put u.top o s })

-- a part of unit j of link l has s from its octet o on
unfoldable pub written : List Units → ℕ → ℕ → ℕ → ℕ → List ℕ → List Units
written st l j part o s = with_unit st l j (part_put part (unit_of st l j) o s)

-- the block of a place at which a part of it begins
abbrev pub part_at : List ℕ → ℕ → ℕ → ℕ
part_at w p part = cond (eqb part 0) 0 (word w p 9)

-- the words with a part of place j of link l made x octets long and n blocks
abbrev pub splice_words : List ℕ → ℕ → ℕ → ℕ → ℕ → ℕ → List ℕ
splice_words w l j part x n =
    set (set (set w (40 + 12 * (8 * l + j) + (7 + part)) x) (40 + 12 * (8 * l + j) + (9 + part)) n) (8 + l) (count w l + n - word w (8 * l + j) (9 + part))

-- the words and the times without place j of link l: those behind it have come down
abbrev pub less_words : List ℕ → ℕ → ℕ → List ℕ
less_words w l j = set (set (shifted w (40 + 12 * (8 * l + j)) 12 (40 + 12 * (8 * l + units w l) - 12)) (24 + l) (units w l - 1)) (8 + l) (count w l - place_cost w (8 * l + j))

abbrev pub less_times : List ℕ → List Float → ℕ → ℕ → List Float
less_times w tm l j = shifted tm (8 * l + j) 1 (8 * l + units w l - 1)

-- ---- a new store

-- settings n, b, r, c are allowed, and what is lent is long enough for b blocks
unfoldable pub fits : List ℕ → List Float → List ℕ → List ℕ → List ℕ → ℕ → ℕ → ℕ → ℕ → Bool
fits w t list home bs n b r c =
    allowed n b r c && (leb 1576 (length w) && (leb 128 (length t) && (leb b (length list) && (leb b (length home) && leb (64 * b) (length bs)))))

-- the words of a store with no units
abbrev pub new_words : List ℕ → ℕ → ℕ → ℕ → ℕ → ℕ → List ℕ
new_words w kind n b r c = set (set (set (set (set (put w 5 (replicate 35 0)) 0 kind) 1 n) 2 b) 3 r) 4 c

-- a sound store of this kind and these settings, with no units
pub record Made (w : List ℕ) (t : List Float) (list home bs : List ℕ) (kind n b r c : ℕ) : Type 0 where
  pub ok : sound w t list home bs ≡ true
  pub none : pend w t list bs ≡ tab (λ l. []) n
  pub on-kind : get_or w 0 0 ≡ kind
  pub on-links : links w ≡ n
  pub on-blocks : blocks_in w ≡ b
  pub on-reserve : reserve w ≡ r
  pub on-cap : cap w ≡ c
