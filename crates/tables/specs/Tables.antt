-- The tables of a store, in a list of words, and the test of them: docs/STORE.md.
-- Words: 0 kind, 1 links, 2 blocks, 3 reserve, 4 cap; from 8 on sixteen block counts; from 24 on sixteen unit counts; from 40
-- on 128 places of 12 words, eight for each link: six of the key, a note, the length of the body and of the top, the blocks
-- of the body and of the top, and one to spare.
use Rattle.std.specs.Prelude.{ℕ, zero, suc, ◌+◌, ◌*◌, ◌-◌, Bool, cond, not, ◌&&◌, List, ltb, leb, eqb, length, get_or, take, drop}
use Rattle.octets.specs.Tests.{all}
use Rattle.model.specs.Cost.{blocks, unit_cost}

abbrev pub links : List ℕ → ℕ
links w = get_or w 1 0

abbrev pub blocks_in : List ℕ → ℕ
blocks_in w = get_or w 2 0

abbrev pub reserve : List ℕ → ℕ
reserve w = get_or w 3 0

abbrev pub cap : List ℕ → ℕ
cap w = get_or w 4 0

-- the stored count of a link's blocks, and of its units
abbrev pub count : List ℕ → ℕ → ℕ
count w l = get_or w (8 + l) 0

abbrev pub units : List ℕ → ℕ → ℕ
units w l = get_or w (24 + l) 0

-- word k of place p
abbrev pub word : List ℕ → ℕ → ℕ → ℕ
word w p k = get_or w (40 + 12 * p + k) 0

unfoldable pub sum : (ℕ → ℕ) → ℕ → ℕ
sum f zero = 0
sum f (suc n) = sum f n + f n

-- the stored block counts of a place's parts are what the parts cost
unfoldable pub place_ok : List ℕ → ℕ → Bool
place_ok w p = eqb (word w p 9) (blocks (word w p 7)) && eqb (word w p 10) (blocks (word w p 8))

-- of u places from p on
abbrev pub places_ok : List ℕ → ℕ → ℕ → Bool
places_ok w p u = all (λ j. place_ok w (p + j)) u

abbrev pub place_cost : List ℕ → ℕ → ℕ
place_cost w p = unit_cost (word w p 9) (word w p 10)

-- the blocks of u places from p on
abbrev pub costs : List ℕ → ℕ → ℕ → ℕ
costs w p u = sum (λ j. place_cost w (p + j)) u

abbrev pub word_eq : List ℕ → ℕ → ℕ → ℕ → Bool
word_eq w p q k = eqb (word w p k) (word w q k)

abbrev pub key_eq : List ℕ → ℕ → ℕ → Bool
key_eq w p q = all (word_eq w p q) 6

abbrev pub key_new : List ℕ → ℕ → ℕ → Bool
key_new w p i = all (λ j. not (key_eq w (p + i) (p + j))) i

-- no key stands twice among the u places from p on
abbrev pub keys_ok : List ℕ → ℕ → ℕ → Bool
keys_ok w p u = all (key_new w p) u

-- settings that are allowed: links n, blocks b, reserve r, cap c
unfoldable pub allowed : ℕ → ℕ → ℕ → ℕ → Bool
allowed n b r c = leb 1 n && (leb n 16 && (leb 1 b && (leb b 1024 && (leb c b && (leb r c && leb (n * r) b)))))

unfoldable pub settings_ok : List ℕ → Bool
settings_ok w = allowed (links w) (blocks_in w) (reserve w) (cap w)

-- a link: at most eight units, whose block counts are right; the link's agrees and is within the cap; no key stands twice
unfoldable pub link_ok : List ℕ → ℕ → Bool
link_ok w l = leb (units w l) 8 && (places_ok w (8 * l) (units w l) && (eqb (count w l) (costs w (8 * l) (units w l)) && (leb (count w l) (cap w) && keys_ok w (8 * l) (units w l))))

unfoldable pub idle : List ℕ → ℕ → Bool
idle w l = eqb (units w l) 0 && eqb (count w l) 0

unfoldable pub link_at : List ℕ → ℕ → Bool
link_at w l = cond (ltb l (links w)) (link_ok w l) (idle w l)

-- the blocks of the first n links
abbrev pub used_of : List ℕ → ℕ → ℕ
used_of w n = sum (count w) n

-- what the first n links use above the reserve
abbrev pub excess_of : List ℕ → ℕ → ℕ
excess_of w n = sum (λ l. count w l - reserve w) n

-- the counts of all sixteen links
abbrev pub counts : List ℕ → List ℕ
counts w = take 16 (drop 8 w)

-- all blocks, and what is above the reserve, by a ledger's counts
abbrev pub total : List ℕ → ℕ
total g = sum (λ l. get_or g l 0) 16

abbrev pub over : ℕ → List ℕ → ℕ
over r g = sum (λ l. get_or g l 0 - r) 16

unfoldable pub tables_ok : List ℕ → Bool
tables_ok w = leb 1576 (length w) && (settings_ok w && (all (link_at w) 16 && leb (excess_of w (links w)) (blocks_in w - links w * reserve w)))
