-- A whole UPDATE that is laid out as ISO/IEC 10747 draws it, and what is read where its last entries are not.
use Rattle.std.specs.Prelude.{Option, Some, None}
use Prim.Native.Nat.{ℕ, ◌+◌, ◌<◌}
use mathlib.Core.Bool.{Bool, true, false}
use mathlib.Core.List.{List, [], ◌∷◌, ◌++◌, append_assoc, append-nil}
use mathlib.Core.Path.{◌≡◌, refl, sym, ap, ◌∙◌}
use native.Mathlib.Omega.{arith}
use borrow.Author.Tests.{lt-leb, eq-eqb, ne_eqb, lt-ltb}
use lib.Dec.{eqb, leb}
use lib.ListN.{length, get_or, drop}
use Rattle.octets.specs.Text.{pick}
use Rattle.octets.specs.Read.{octets_of}
use Rattle.octets.proofs.Picks.{pick_yes, pick_no}
use Rattle.names.specs.Numbers.{k_update, k_withdrawn_routes, k_path_attributes, k_nlri, k_proto_type, k_clnp, k_prefixes}
use Rattle.cells.specs.Items.{Items, none, leaf, group, number, flag, prefix, in_list, ◌⊕◌}
use Rattle.cells.specs.declared.entry.Body.{Body}
use Rattle.cells.specs.Walk.{body, stop, step_of, walk_by, walk_from, items_from}
use Rattle.cells.proofs.Walks.{done}
use Rattle.idrp.specs.Update.{at16, attributes_at, attribute_at, attribute_items, attributes_place, nlri_addresses, nlri_len, nlri_at, nlri, nlri_step, nlri_items, update_readable, routes_member, attributes_member, update_members}
use Rattle.idrp.specs.Pdu.{body_members}
use Rattle.idrp.specs.Layout as layout
use Rattle.idrp.specs.Layout.{routes_read, Attribute, attribute_laid, attributes_laid, attributes_read, attributes_given, Reach, reach_laid, reaches_laid, reaches_read, ReachesStand, reaches_given, update_laid, BodyRight, attributes_begin, reach_begin, update_read}
use Rattle.idrp.proofs.Stands.{From, long, octet, next}
use Rattle.idrp.proofs.UpdateLaid.{withdrawn-back, routes-back, count-back, from-attributes, from-reach, attributes-back, place-back, readable-back}
use Rattle.idrp.proofs.ReachLaid.{reaches_at, reaches_stand}

-- attributes have octets where there are any
some-octets : (xs : List Attribute) → eqb (length (attributes_laid xs)) 0 ≡ eqb (length xs) 0
unfolding attributes_laid
some-octets [] = refl
some-octets (a ∷ xs) =
    ne_eqb (length (attribute_laid a ++ attributes_laid xs)) 0 (λ e. omega (arith, e)) ∙ sym (ne_eqb (length (a ∷ xs)) 0 (λ e. omega (arith, e)))

module _ (u : layout.Body) (r : BodyRight u) where
  abbrev s : List ℕ
  s = update_laid u

  pub reach_stand : ReachesStand s (reach_begin u) u.reach
  reach_stand = reaches_stand s u.reach (reach_begin u) (from-reach u r)

  module _ (base : ℕ) (all : attributes_given u.attributes ≡ u.attributes) where
    pub place-all : attributes_place s ≡ reach_begin u
    place-all = place-back u r ∙ ap (λ (xs : List Attribute). attributes_begin u + length (attributes_laid xs)) all

    pub nlri-back : nlri_items base s ≡ reaches_read (base + reach_begin u) (reaches_given u.reach)
    nlri-back = ap (λ (i : ℕ). items_from (nlri_step base s) (length s) i) place-all ∙ reaches_at base s u.reach (reach_begin u) r.reach (from-reach u r)

    routes-is : routes_member s ≡ pick (eqb (length u.routes) 0) none (group false k_withdrawn_routes (routes_read u.routes) none)
    routes-is = λ i. pick (eqb (withdrawn-back u r i) 0) none (group false k_withdrawn_routes (routes-back u r i) none)

    attributes-is : attributes_member base s ≡ pick (eqb (length u.attributes) 0) none (group false k_path_attributes (attributes_read (base + attributes_begin u) u.attributes) none)
    attributes-is =
        let t : eqb (at16 s (attributes_at s)) 0 ≡ eqb (length u.attributes) 0 = ap (λ (n : ℕ). eqb n 0) (count-back u r) ∙ some-octets u.attributes in
        let x : attribute_items base s ≡ attributes_read (base + attributes_begin u) u.attributes = attributes-back u r base ∙ ap (attributes_read (base + attributes_begin u)) all in
        λ i. pick (t i) none (group false k_path_attributes (x i) none)

    pub update_back : update_members base s ≡ update_read base u
    unfolding update_members
    update_back = λ i. routes-is i ⊕ (attributes-is i ⊕ in_list k_nlri (nlri-back i))

  pub update_body-back : attributes_given u.attributes ≡ u.attributes → body_members 2 s ≡ group true k_update (update_read 30 u) none
  unfolding body_members
  update_body-back all =
      pick_no none (pick (update_readable s) (group true k_update (update_members 30 s) none) none) (ne_eqb (length s) 0 (λ e. omega (arith, e)))
      ∙ pick_yes (group true k_update (update_members 30 s) none) none (readable-back u r)
      ∙ ap (λ (x : Items). group true k_update x none) (update_back 30 all)

-- ---- a last attribute without a value is not read
given_before : (before : List Attribute) (a : Attribute) → length a.value ≡ 0 → attributes_given (before ++ (a ∷ [])) ≡ before
unfolding attributes_given
given_before [] a z = pick_yes [] (a ∷ []) (eq-eqb (length a.value) 0 z)
given_before (b ∷ []) a z = ap (λ (xs : List Attribute). b ∷ xs) (given_before [] a z)
given_before (b ∷ (c ∷ cs)) a z = ap (λ (xs : List Attribute). b ∷ xs) (given_before (c ∷ cs) a z)

laid-before : (before : List Attribute) (a : Attribute) (rest : List ℕ) → attributes_laid (before ++ (a ∷ [])) ++ rest ≡ attributes_laid before ++ (attribute_laid a ++ rest)
unfolding attributes_laid
laid-before [] a rest = ap (λ (l : List ℕ). l ++ rest) (append-nil (attribute_laid a))
laid-before (b ∷ bs) a rest =
    append_assoc (attribute_laid b) (attributes_laid (bs ++ (a ∷ []))) rest
    ∙ ap (λ (l : List ℕ). attribute_laid b ++ l) (laid-before bs a rest)
    ∙ sym (append_assoc (attribute_laid b) (attributes_laid bs) (attribute_laid a ++ rest))

no_octets : (l : List ℕ) → length l ≡ 0 → l ≡ []
no_octets [] z = refl
no_octets (x ∷ l) z = absurd (omega (arith, z))

either-stop : (b : Bool) → pick {A = Option Body} b None None ≡ None
either-stop true = refl
either-stop false = refl

module _ (u : layout.Body) (r : BodyRight u) (before : List Attribute) (a : Attribute) (last : u.attributes ≡ before ++ (a ∷ [])) (z : length a.value ≡ 0) where
  abbrev t : List ℕ
  t = update_laid u

  abbrev left : List ℕ
  left = a.flag ∷ a.type ∷ 0 ∷ 0 ∷ reaches_laid u.reach

  pub empty-last_given : attributes_given u.attributes ≡ before
  empty-last_given = ap attributes_given last ∙ given_before before a z

  place_is : attributes_begin u + length (attributes_laid before) ≡ attributes_place t
  place_is = sym (place-back u r ∙ ap (λ (xs : List Attribute). attributes_begin u + length (attributes_laid xs)) empty-last_given)

  from-left : From t (attributes_place t) left
  from-left =
      let w : From t (attributes_begin u) (attributes_laid u.attributes ++ reaches_laid u.reach) = from-attributes u r in
      let e : attributes_laid u.attributes ++ reaches_laid u.reach ≡ attributes_laid before ++ left =
      ap (λ (xs : List Attribute). attributes_laid xs ++ reaches_laid u.reach) last
      ∙ laid-before before a (reaches_laid u.reach)
      ∙ ap (λ (l : List ℕ). attributes_laid before ++ ((a.flag ∷ a.type ∷ (octets_of 2 (length l) ++ l)) ++ reaches_laid u.reach)) (no_octets a.value z) in
      next t (attributes_laid before) left (attributes_begin u) (attributes_place t) place_is (w.0, w.1 ∙ e)

  -- what is read as reachability begins with it
  pub empty-last-rest : drop (attributes_place t) t ≡ left
  empty-last-rest = from-left.1

  lost_stop : (base : ℕ) → length (reaches_laid u.reach) < a.type → nlri_step base t (attributes_place t) ≡ stop
  unfolding nlri_at
  lost_stop base h =
      let i : ℕ = attributes_place t in
      let q : get_or t (i + 1) 0 ≡ a.type = octet t left i 1 from-left in
      let l : length t ≡ i + (4 + length (reaches_laid u.reach)) = omega (arith, long t left i from-left) in
      let x : leb (nlri_addresses t i) (length t) ≡ false = lt-leb (nlri_addresses t i) (length t) (omega (arith, q, l, h)) in
      (λ j. step_of (λ start n. nlri base t i start n) (pick (leb (i + 7) (length t)) (pick (x j) (pick (leb (nlri_addresses t i + nlri_len t i) (length t)) (body (nlri_addresses t i) (nlri_len t i)) None) None) None))
      ∙ ap (step_of (λ start n. nlri base t i start n)) (either-stop (leb (i + 7) (length t)))

  -- and is none at all where its type is above the number of octets behind
  pub empty-last_lost : (base : ℕ) → length (reaches_laid u.reach) < a.type → nlri_items base t ≡ none
  empty-last_lost base h =
      done (nlri_step base t) (λ n. none) ◌⊕◌ (length t) (attributes_place t) (omega (arith, long t left (attributes_place t) from-left)) (lost_stop base h)

-- an attribute of type 14 without a value, and an entry that would be too short by itself
pub example : nlri_items 0 (0 ∷ 0 ∷ 0 ∷ 4 ∷ 0x40 ∷ 0x0E ∷ 0 ∷ 0 ∷ 1 ∷ 1 ∷ 0x81 ∷ 0 ∷ 0 ∷ []) ≡ none
unfolding walk_by walk_from nlri_at attribute_at
example = refl

-- an entry with a prefix of eight bits: it is read where no attribute stands before it, and lost behind one of type 14 without a value
pub example-read : nlri_items 0 (0 ∷ 0 ∷ 0 ∷ 0 ∷ 1 ∷ 1 ∷ 0x81 ∷ 0 ∷ 2 ∷ 8 ∷ 0x47 ∷ [])
    ≡ group true 0 (leaf k_proto_type (number 1) none ⊕ (leaf k_clnp (flag 1) none ⊕ group false k_prefixes (leaf 0 (prefix 10 1 8) none) none)) none
unfolding walk_by walk_from nlri_at attribute_at
example-read = refl

pub example_lost : nlri_items 0 (0 ∷ 0 ∷ 0 ∷ 4 ∷ 0x40 ∷ 0x0E ∷ 0 ∷ 0 ∷ 1 ∷ 1 ∷ 0x81 ∷ 0 ∷ 2 ∷ 8 ∷ 0x47 ∷ []) ≡ none
unfolding walk_by walk_from nlri_at attribute_at
example_lost = refl

-- ---- a last entry of under seven octets is not read
pub short-last : (es : List Reach) (e : Reach) → length (reach_laid e) < 7 → reaches_given (es ++ (e ∷ [])) ≡ es
unfolding reaches_given
short-last [] e h = pick_yes [] (e ∷ []) (lt-ltb (length (reach_laid e)) 7 h)
short-last (f ∷ []) e h = ap (λ (xs : List Reach). f ∷ xs) (short-last [] e h)
short-last (f ∷ (g ∷ gs)) e h = ap (λ (xs : List Reach). f ∷ xs) (short-last (g ∷ gs) e h)
