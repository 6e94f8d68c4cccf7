-- Routes and path attributes of an UPDATE that is laid out as ISO/IEC 10747 draws it are read as what was laid out.
use Rattle.std.specs.Prelude.{None}
use Prim.Native.Nat.{ℕ, ◌+◌, ◌*◌, ◌-◌, ◌≤◌, ◌<◌}
use mathlib.Core.Bool.{Bool, true, false, ◌&&◌}
use mathlib.Core.List.{List, [], ◌∷◌, ◌++◌, append_assoc, append-nil}
use mathlib.Core.Path.{◌≡◌, refl, ap, ◌∙◌}
use native.Mathlib.Nat.{lt_of_not-le}
use native.Mathlib.Decide.{dec_le}
use native.Mathlib.Omega.{arith}
use borrow.Author.Tests.{lt-ltb, le-ltb, le-leb, eqb-true, eqb-false}
use lib.Dec.{eqb, ltb, leb}
use lib.ListN.{length, get_or, length-append, get_or-append}
use Rattle.octets.specs.Text.{pick}
use Rattle.octets.specs.Read.{octets_of}
use Rattle.octets.proofs.Tests.{and_right}
use Rattle.octets.proofs.Stands.{two_back}
use Rattle.octets.proofs.Picks.{pick_elim}
use Rattle.names.specs.Ascii.{octets}
use Rattle.names.specs.Numbers.{k_type, k_type_code, k_value, k_value_hex}
use Rattle.codes.specs.Codes.{text_in, idrp_attributes}
use Rattle.cells.specs.Items.{Items, none, leaf, group, number, text, part, word, ◌⊕◌}
use Rattle.cells.specs.Walk.{body, stop, entry, step_of, walk_from, left_from}
use Rattle.cells.proofs.Walks.{turn, done, over}
use Rattle.idrp.specs.Update.{at16, withdrawn, route_items, attributes_at, attributes_from, attributes_end, shown, attribute_value, attribute, attribute_at, attribute_step, attribute_items, attributes_place, update_readable}
use Rattle.idrp.specs.Layout as layout
use Rattle.idrp.specs.Layout.{routes_laid, routes_read, RoutesRight, Attribute, attribute_laid, attributes_laid, value_read, attribute_read, attributes_read, AttributesStand, AttributesRight, attributes_given, reaches_laid, update_laid, BodyRight, attributes_begin, reach_begin}
use Rattle.idrp.proofs.Stands.{From, long, octet, first, next, part-at, two_at, four-at}

-- ---- withdrawn routes
pub routes-long : (rs : List ℕ) → length (routes_laid rs) ≡ 4 * length rs
unfolding routes_laid
routes-long [] = refl
routes-long (r ∷ rs) = omega (arith, routes-long rs)

routes-at : (s : List ℕ) (rs rest : List ℕ) (p : ℕ) → RoutesRight rs → From s p (routes_laid rs ++ rest) → route_items s (length rs) p ≡ routes_read rs
unfolding route_items routes_laid routes_read RoutesRight
routes-at s [] rest p h w = refl
routes-at s (r ∷ rs) rest p h w =
    let v = four-at s p r (routes_laid rs ++ rest) h.0 w in
    let e = routes-at s rs rest (p + 4) h.1 (next s (octets_of 4 r) (routes_laid rs ++ rest) p (p + 4) refl w) in
    λ i. leaf 0 (word (v i)) none ⊕ e i

-- ---- path attributes
-- where a test holds, what it picks may be said otherwise
pub pick_as : {A : Type 0} (b : Bool) {x y z w : A} → (b ≡ true → x ≡ y) → z ≡ w → pick b x z ≡ pick b y w
pick_as true f e = f refl
pick_as false f e = e

pub head_of : (l rest : List ℕ) → 0 < length l → get_or (l ++ rest) 0 0 ≡ get_or l 0 0
head_of l rest h = get_or-append l rest 0 0 h

module _ (base : ℕ) (s : List ℕ) (a : Attribute) (rest : List ℕ) (i : ℕ) (w : From s i (attribute_laid a ++ rest)) where
  abbrev n : ℕ
  n = length a.value

  pub attribute-long : length s ≡ i + 4 + n + length rest
  attribute-long = omega (arith, long s (attribute_laid a ++ rest) i w, length-append a.value rest)

  pub from-value : From s (i + 4) (a.value ++ rest)
  from-value = next s (a.flag ∷ a.type ∷ octets_of 2 n) (a.value ++ rest) i (i + 4) refl w

  count-is : n < 65536 → at16 s (i + 2) ≡ n
  count-is h = two_at s (i + 2) n (a.value ++ rest) h (next s (a.flag ∷ a.type ∷ []) (octets_of 2 n ++ (a.value ++ rest)) i (i + 2) refl w)

  found : (end : ℕ) → n < 65536 → i + 4 < end → attribute_at s end i ≡ body (i + 4) n
  unfolding attribute_at
  found end h l =
      let c : at16 s (i + 2) ≡ n = count-is h in
      let t : leb (i + 4 + at16 s (i + 2)) (length s) ≡ true = le-leb (i + 4 + at16 s (i + 2)) (length s) (omega (arith, c, attribute-long)) in
      let x : ltb (i + 4) end ≡ true = lt-ltb (i + 4) end l in
      let y : leb (i + 4) (length s) ≡ true = le-leb (i + 4) (length s) (omega (arith, attribute-long)) in
      λ j. pick (x j) (pick (y j) (pick (t j) (body (i + 4) (c j)) None) None) None

  value-is : attribute_value base s a.type (i + 4) n ≡ value_read (base + i + 4) a
  value-is =
      let e : base + (i + 4) ≡ base + i + 4 = omega arith in
      pick_as (shown a.type && eqb n 1)
      (λ t. let o : n ≡ 1 = eqb-true n 1 (and_right (shown a.type) (eqb n 1) t) in
      ap (λ (k : ℕ). leaf k_value (number k) none) (first s (a.value ++ rest) (i + 4) from-value ∙ head_of a.value rest (omega (arith, o))))
      (ap (λ (k : ℕ). pick (ltb 0 n) (leaf k_value_hex (part k n) none) none) e)

  step_is : n < 65536 → i + 4 < attributes_end s → attribute_step base s i ≡ entry (i + 4 + n) (attribute_read (base + i) a)
  step_is h l =
      let t : get_or s (i + 1) 0 ≡ a.type = octet s (attribute_laid a ++ rest) i 1 w in
      ap (λ (k : ℕ). step_of (λ start n. attribute base s k start n) (attribute_at s (attributes_end s) i)) t
      ∙ ap (step_of (λ start n. attribute base s a.type start n)) (found (attributes_end s) h l)
      ∙ ap (λ (v : Items). entry (i + 4 + n) (group true 0 (leaf k_type (text (text_in idrp_attributes (octets "unknown") a.type)) none ⊕ (leaf k_type_code (number a.type) none ⊕ v)) none)) value-is

  -- a walk goes over it
  pub attribute-turn : {R : Type 0} (ends : ℕ → R) (more : Items → R → R) → n < 65536 → i + 4 < attributes_end s
      → walk_from (attribute_step base s) ends more (length s) i ≡ more (attribute_read (base + i) a) (walk_from (attribute_step base s) ends more (length s) (i + 4 + n))
  attribute-turn ends more h l =
      turn (attribute_step base s) ends more (length s) i (i + 4 + n) (attribute_read (base + i) a) (omega (arith, attribute-long)) (omega arith) (step_is h l)

-- a walk over attributes that are laid out up to their end, by what it makes of them
module _ (base : ℕ) (s : List ℕ) {R : Type 0} (ends : ℕ → R) (more : Items → R → R) (P : ℕ → List Attribute → R)
    (he : (i : ℕ) → ends (length s - i) ≡ P i [])
    (hm : (i : ℕ) (a : Attribute) (xs : List Attribute) → more (attribute_read (base + i) a) (P (i + 4 + length a.value) xs) ≡ P i (a ∷ xs)) where
  abbrev walk : ℕ → R
  walk i = walk_from (attribute_step base s) ends more (length s) i

  halt : (i : ℕ) → attributes_end s ≤ i + 4 → attribute_step base s i ≡ stop
  unfolding attribute_at
  halt i h = ap (λ (b : Bool). step_of (λ start n. attribute base s (get_or s (i + 1) 0) start n) (pick b (pick (leb (i + 4) (length s)) (pick (leb (i + 4 + at16 s (i + 2)) (length s)) (body (i + 4) (at16 s (i + 2))) None) None) None)) (le-ltb (i + 4) (attributes_end s) h)

  ended : (i : ℕ) → attributes_end s ≤ i + 4 → walk i ≡ P i []
  ended i h = elim (dec_le (length s) i) [
    | yes l ↦ let e : 0 ≡ length s - i = omega arith in over (attribute_step base s) ends more (length s) i l ∙ ap ends e ∙ he i
    | no l ↦ done (attribute_step base s) ends more (length s) i (omega (arith, lt_of_not-le l)) (halt i h) ∙ he i
  ]

  pub walk-laid : (xs : List Attribute) (rest : List ℕ) (i : ℕ) → AttributesRight xs → From s i (attributes_laid xs ++ rest) → attributes_end s ≡ i + length (attributes_laid xs)
      → walk i ≡ P i (attributes_given xs)
  unfolding attributes_laid AttributesRight attributes_given
  walk-laid [] rest i r w e = ended i (omega (arith, e))
  walk-laid (a ∷ []) rest i r w e =
      let n : ℕ = length a.value in
      let l : length (attributes_laid (a ∷ [])) ≡ 4 + n = omega (arith, length-append a.value []) in
      let w₂ : From s i (attribute_laid a ++ rest) = (w.0, w.1 ∙ ap (λ (z : List ℕ). z ++ rest) (append-nil (attribute_laid a))) in
      pick_elim (λ (xs : List Attribute). walk i ≡ P i xs) (eqb n 0) (λ t. ended i (omega (arith, e, l, eqb-true n 0 t)))
      (λ t. let z : n ≡ 0 → ⊥ = eqb-false n 0 t in
      attribute-turn base s a rest i w₂ ends more r.0 (omega (arith, e, l, z)) ∙ ap (more (attribute_read (base + i) a)) (ended (i + 4 + n) (omega (arith, e, l))) ∙ hm i a [])
  walk-laid (a ∷ (b ∷ bs)) rest i r w e =
      let n : ℕ = length a.value in
      let later : List ℕ = attributes_laid (b ∷ bs) in
      let l : length (attribute_laid a ++ later) ≡ 4 + n + length later = omega (arith, length-append a.value later) in
      let w₂ : From s i (attribute_laid a ++ (later ++ rest)) = (w.0, w.1 ∙ append_assoc (attribute_laid a) later rest) in
      let m : 4 ≤ length later = omega (arith, length-append (attribute_laid b) (attributes_laid bs)) in
      attribute-turn base s a (later ++ rest) i w₂ ends more r.0 (omega (arith, e, l, m))
      ∙ ap (more (attribute_read (base + i) a)) (walk-laid (b ∷ bs) rest (i + 4 + n) r.1 (next s (attribute_laid a) (later ++ rest) i (i + 4 + n) (omega arith) w₂) (omega (arith, e, l)))
      ∙ hm i a (attributes_given (b ∷ bs))

-- those that are read are no longer than all, and not by more than a last one without a value
pub given_short : (xs : List Attribute) → (length (attributes_laid (attributes_given xs)) ≤ length (attributes_laid xs)) × (length (attributes_laid xs) ≤ length (attributes_laid (attributes_given xs)) + 4)
unfolding attributes_laid attributes_given
given_short [] = (omega arith, omega arith)
given_short (a ∷ []) =
    let l : length (attribute_laid a ++ []) ≡ 4 + length a.value = omega (arith, length-append a.value []) in
    pick_elim (λ (xs : List Attribute). (length (attributes_laid xs) ≤ length (attribute_laid a ++ [])) × (length (attribute_laid a ++ []) ≤ length (attributes_laid xs) + 4)) (eqb (length a.value) 0)
    (λ t. (omega arith, omega (arith, l, eqb-true (length a.value) 0 t))) (λ t. (omega arith, omega arith))
given_short (a ∷ (b ∷ bs)) =
    let later : List ℕ = attributes_laid (b ∷ bs) in
    let given : List ℕ = attributes_laid (attributes_given (b ∷ bs)) in
    let h = given_short (b ∷ bs) in
    let x : length (attribute_laid a ++ later) ≡ length (attribute_laid a) + length later = length-append (attribute_laid a) later in
    let y : length (attribute_laid a ++ given) ≡ length (attribute_laid a) + length given = length-append (attribute_laid a) given in
    (omega (arith, x, y, h.0), omega (arith, x, y, h.1))

-- their values stand in the body
values_stand : (s : List ℕ) (xs : List Attribute) (rest : List ℕ) (i : ℕ) → From s i (attributes_laid xs ++ rest) → AttributesStand s i xs
unfolding attributes_laid AttributesStand
values_stand s [] rest i w = tt
values_stand s (a ∷ xs) rest i w =
    let later : List ℕ = attributes_laid xs ++ rest in
    let w₂ : From s i (attribute_laid a ++ later) = (w.0, w.1 ∙ append_assoc (attribute_laid a) (attributes_laid xs) rest) in (
      part-at s a.value later (i + 4) (from-value 0 s a later i w₂),
      values_stand s xs rest (i + 4 + length a.value) (next s (attribute_laid a) later i (i + 4 + length a.value) (omega arith) w₂),
    )

-- ---- a body
module _ (u : layout.Body) (r : BodyRight u) where
  abbrev s : List ℕ
  s = update_laid u

  abbrev xs : List Attribute
  xs = u.attributes

  abbrev behind : List ℕ
  behind = attributes_laid xs ++ reaches_laid u.reach

  abbrev counted : List ℕ
  counted = octets_of 2 (length (attributes_laid xs)) ++ behind

  pub withdrawn-back : withdrawn s ≡ length u.routes
  withdrawn-back = two_back (length u.routes) [] r.counted.0

  from-routes : From s 2 (routes_laid u.routes ++ counted)
  from-routes = (omega arith, refl)

  pub routes-back : route_items s (withdrawn s) 2 ≡ routes_read u.routes
  routes-back = ap (λ (n : ℕ). route_items s n 2) withdrawn-back ∙ routes-at s u.routes counted 2 r.routes from-routes

  from-count : From s (attributes_at s) counted
  from-count = next s (routes_laid u.routes) counted 2 (attributes_at s) (omega (arith, withdrawn-back, routes-long u.routes)) from-routes

  pub count-back : at16 s (attributes_at s) ≡ length (attributes_laid xs)
  count-back = two_at s (attributes_at s) (length (attributes_laid xs)) behind r.counted.1 from-count

  pub begin_back : attributes_from s ≡ attributes_begin u
  begin_back = omega (arith, withdrawn-back)

  pub end_back : attributes_end s ≡ reach_begin u
  end_back = omega (arith, begin_back, count-back)

  pub from-attributes : From s (attributes_begin u) behind
  from-attributes = next s (octets_of 2 (length (attributes_laid xs))) behind (attributes_at s) (attributes_begin u) (omega (arith, withdrawn-back)) from-count

  pub from-reach : From s (reach_begin u) (reaches_laid u.reach)
  from-reach = next s (attributes_laid xs) (reaches_laid u.reach) (attributes_begin u) (reach_begin u) refl from-attributes

  pub attributes-back : (base : ℕ) → attribute_items base s ≡ attributes_read (base + attributes_begin u) (attributes_given xs)
  unfolding attributes_read
  attributes-back base =
      let at : (i n : ℕ) → base + (i + 4 + n) ≡ base + i + 4 + n = λ i n. omega arith in
      ap (λ (i : ℕ). walk_from (attribute_step base s) (λ n. none) ◌⊕◌ (length s) i) begin_back
      ∙ walk-laid base s (λ n. none) ◌⊕◌ (λ i ys. attributes_read (base + i) ys) (λ i. refl) (λ i a ys. ap (λ (k : ℕ). attribute_read (base + i) a ⊕ attributes_read k ys) (at i (length a.value))) xs (reaches_laid u.reach) (attributes_begin u) r.attributes from-attributes end_back

  left_is : left_from (attribute_step 0 s) (length s) (attributes_from s) ≡ length s - (attributes_begin u + length (attributes_laid (attributes_given xs)))
  unfolding attributes_laid
  left_is =
      let l : (i : ℕ) (a : Attribute) (ys : List Attribute) → length s - (i + 4 + length a.value + length (attributes_laid ys)) ≡ length s - (i + length (attribute_laid a ++ attributes_laid ys)) =
      λ i a ys. ap (λ (n : ℕ). length s - n) (omega (arith, length-append (attribute_laid a) (attributes_laid ys))) in
      ap (λ (i : ℕ). left_from (attribute_step 0 s) (length s) i) begin_back
      ∙ walk-laid 0 s (λ n. n) (λ c r. r) (λ i ys. length s - (i + length (attributes_laid ys))) (λ i. omega arith) l xs (reaches_laid u.reach) (attributes_begin u) r.attributes from-attributes end_back

  pub update_long : length s ≡ reach_begin u + length (reaches_laid u.reach)
  update_long = long s (reaches_laid u.reach) (reach_begin u) from-reach

  pub place-back : attributes_place s ≡ attributes_begin u + length (attributes_laid (attributes_given xs))
  place-back = omega (arith, left_is, (given_short xs).0, update_long)

  pub readable-back : update_readable s ≡ true
  readable-back =
      let a : leb 2 (length s) ≡ true = le-leb 2 (length s) (omega (arith, update_long)) in
      let b : leb (attributes_from s) (length s) ≡ true = le-leb (attributes_from s) (length s) (omega (arith, update_long, begin_back)) in
      let c : leb (attributes_end s) (attributes_place s + 4) ≡ true = le-leb (attributes_end s) (attributes_place s + 4) (omega (arith, end_back, place-back, (given_short xs).1)) in
      λ i. (a i && b i) && c i

  pub attributes_stand : AttributesStand s (attributes_begin u) xs
  attributes_stand = values_stand s xs (reaches_laid u.reach) (attributes_begin u) from-attributes
