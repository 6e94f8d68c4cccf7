-- The cells of every BISPDU read back as its record.
use Rattle.std.specs.Prelude.{Option, Some, None}
use Prim.Native.Nat.{ℕ, zero, suc, ◌+◌, ◌≤◌, ◌<◌}
use mathlib.Core.Path.{◌≡◌, refl}
use mathlib.Core.List.{List, []}
use mathlib.Core.Bool.{true, false, ◌&&◌}
use mathlib.Core.Option.{some}
use native.Mathlib.Nat.{min-le_left}
use native.Mathlib.Omega.{arith}
use borrow.Author.Tests.{eqb-false, leb-true}
use lib.Dec.{eqb, leb, ltb}
use lib.ListN.{length, get_or, take, drop, length-take, length-drop}
use Rattle.octets.specs.Read.{be16, be32}
use Rattle.octets.specs.Text.{pick}
use Rattle.octets.proofs.Picks.{pick_elim}
use Rattle.names.specs.Numbers.{k_nlri, k_error_subcode_text}
use Rattle.codes.specs.Codes.{text_in, error_subcodes}
use Rattle.codes.proofs.Lows.{text-low}
use Rattle.cells.specs.Items.{Items, none, leaf, prefix, ◌⊕◌}
use Rattle.cells.specs.Read.{items_of}
use Rattle.cells.specs.Good.{GoodRow, Good}
use Rattle.cells.specs.Walk.{body, step_of}
use Rattle.cells.specs.declared.entry.Body.{Body}
use Rattle.cells.proofs.Rows.{good-⊕, good_in_list}
use Rattle.cells.proofs.Walks.{Each, all_from}
use Rattle.cells.proofs.WellFormed.{reads-back}
use Rattle.fields.proofs.Goods.{Octets, text-good, take-small, drop-small}
use Rattle.idrp.specs.Update.{at16, withdrawn, route_items, attributes_at, attributes_from, attributes_end, shown, attribute_value, attribute, attribute_at, attribute_step, attribute_items, attributes_place, prefix_at, prefix_step, prefix_items, nlri_at, is_clnp, nlri, nlri_step, update_readable, routes_member, attributes_member, nlri_items, update_members}
use Rattle.idrp.specs.Pdu.{open_members, error_members, body_members, number_members, credit_members, head_members, members_of, idrp_cells}
use Rattle.idrp.proofs.Entries.{Attribute, attribute-whole, Prefix, prefix-whole, Nlri, nlri-whole}
use Rattle.idrp.proofs.Listed.{type-listed, error_listed, attribute-listed}

module _ (s : List ℕ) (small : Octets s) where
  one-low : (i : ℕ) → get_or s i 0 < 4294967296
  one-low i = omega (arith, small i)

  two-low : (i j : ℕ) → be16 (get_or s i 0) (get_or s j 0) < 4294967296
  two-low i j = omega (arith, small i, small j)

  four_low : (i j k l : ℕ) → be32 (get_or s i 0) (get_or s j 0) (get_or s k 0) (get_or s l 0) < 4294967296
  four_low i j k l = omega (arith, small i, small j, small k, small l)

-- ---- rows are good, for an input of n octets that has this part at base
module _ (n base : ℕ) (s : List ℕ) (small : Octets s) (within : base + length s ≤ n) where
  routes-good : (k p : ℕ) → GoodRow n false 3 (route_items s k p)
  unfolding route_items
  routes-good zero p = tt
  routes-good (suc k) p = (omega arith, refl, four_low s small p (p + 1) (p + 2) (p + 3), routes-good k (p + 4))

  value-good : (t i len : ℕ) → i + len ≤ length s → GoodRow n true 4 (attribute_value base s t i len)
  value-good t i len h =
      pick_elim (GoodRow n true 4) (shown t && eqb len 1) (λ e. (omega arith, (omega arith, omega arith), one-low s small i, tt))
      (λ e. pick_elim (GoodRow n true 4) (ltb 0 len) (λ e. (omega arith, (omega arith, omega arith), omega (arith, within, h), tt)) (λ e. tt))

  abbrev good : Items → Type 0
  good c = GoodRow n false 3 c

  each-attribute : (i : ℕ) (e : Option Body) → Attribute s i e
      → Each (attribute_step base s) (λ k. none) ◌⊕◌ (length s) good good (λ k. tt) (λ c r q g. good-⊕ n false 3 c r q g) (step_of (λ start len. attribute base s (get_or s (i + 1) 0) start len) e)
  each-attribute i None w = tt
  each-attribute i (Some b) w =
      let t = get_or s (i + 1) 0 in
      (omega arith, refl, (omega arith, (omega arith, omega arith), attribute-listed t, (omega arith, (omega arith, omega arith), one-low s small (i + 1), value-good t b.start b.len w.2)), tt)

  pub attributes-good : GoodRow n false 3 (attribute_items base s)
  attributes-good =
      all_from (attribute_step base s) (λ k. none) ◌⊕◌ (length s) good good (λ k. tt) (λ c r q g. good-⊕ n false 3 c r q g)
      (λ i l. each-attribute i (attribute_at s (attributes_end s) i) (attribute-whole s (attributes_end s) i)) (attributes_from s)

  abbrev fine : Items → Type 0
  fine c = GoodRow n false 5 c

  each-prefix : (i : ℕ) (e : Option Body) → Prefix s i e
      → Each (prefix_step base s) (λ k. none) ◌⊕◌ (length s) fine fine (λ k. tt) (λ c r q g. good-⊕ n false 5 c r q g) (step_of (λ start len. leaf 0 (prefix (base + start) len (get_or s i 0)) none) e)
  each-prefix i None w = tt
  each-prefix i (Some b) w = (omega arith, refl, (small i, w.1, omega (arith, within, w.2)), tt)

  pub prefixes-good : GoodRow n false 5 (prefix_items base s)
  prefixes-good =
      all_from (prefix_step base s) (λ k. none) ◌⊕◌ (length s) fine fine (λ k. tt) (λ c r q g. good-⊕ n false 5 c r q g) (λ i l. each-prefix i (prefix_at s i) (prefix-whole s i)) 0

module _ (n base : ℕ) (s : List ℕ) (small : Octets s) (within : base + length s ≤ n) where
  abbrev sound : Items → Type 0
  sound c = GoodRow n false 3 c

  each-nlri : (i : ℕ) (e : Option Body) → Nlri s i e
      → Each (nlri_step base s) (λ k. none) ◌⊕◌ (length s) sound sound (λ k. tt) (λ c r q g. good-⊕ n false 3 c r q g) (step_of (λ start len. nlri base s i start len) e)
  each-nlri i None w = tt
  each-nlri i (Some b) w =
      let t : List ℕ = take b.len (drop b.start s) in
      let l : base + b.start + length t ≤ n = omega (arith, within, w.2, length-take b.len (drop b.start s), min-le_left b.len (length (drop b.start s))) in
      let v : pick (is_clnp s i) 1 0 < 2 = pick_elim (λ (k : ℕ). k < 2) (is_clnp s i) (λ e. omega arith) (λ e. omega arith) in (
        omega arith,
        refl,
        (
          omega arith,
          (omega arith, omega arith),
          one-low s small i,
          (
            omega arith,
            (omega arith, omega arith),
            v,
            (omega arith, (omega arith, omega arith), prefixes-good n (base + b.start) t (take-small b.len (drop b.start s) (drop-small b.start s small)) l, tt),
          ),
        ),
        tt,
      )

  pub nlris_good : GoodRow n false 3 (nlri_items base s)
  nlris_good =
      all_from (nlri_step base s) (λ k. none) ◌⊕◌ (length s) sound sound (λ k. tt) (λ c r q g. good-⊕ n false 3 c r q g) (λ i l. each-nlri i (nlri_at s i) (nlri-whole s i)) (attributes_place s)

  routes-row : GoodRow n true 2 (routes_member s)
  routes-row = pick_elim (GoodRow n true 2) (eqb (withdrawn s) 0) (λ e. tt) (λ e. (omega arith, (omega arith, omega arith), routes-good n base s small within (withdrawn s) 2, tt))

  attributes-row : GoodRow n true 2 (attributes_member base s)
  attributes-row = pick_elim (GoodRow n true 2) (eqb (at16 s (attributes_at s)) 0) (λ e. tt) (λ e. (omega arith, (omega arith, omega arith), attributes-good n base s small within, tt))

  pub update_good : GoodRow n true 2 (update_members base s)
  unfolding update_members
  update_good =
      good-⊕ n true 2 (routes_member s) _ routes-row
      (good-⊕ n true 2 (attributes_member base s) _ attributes-row (good_in_list n true 2 k_nlri (nlri_items base s) (omega arith) (omega arith, omega arith) nlris_good))

  pub open_good : GoodRow n true 2 (open_members base s)
  open_good = (
    omega arith,
    (omega arith, omega arith),
    one-low s small 0,
    (
      omega arith,
      (omega arith, omega arith),
      two-low s small 1 2,
      (
        omega arith,
        (omega arith, omega arith),
        two-low s small 3 4,
        pick_elim (GoodRow n true 2) (leb (6 + get_or s 5 0) (length s))
            (λ e. (omega arith, (omega arith, omega arith), omega (arith, within, leb-true (6 + get_or s 5 0) (length s) e), tt)) (λ e. tt),
      ),
    ),
  )

error_good : (n : ℕ) (s : List ℕ) → Octets s → GoodRow n true 1 (error_members s)
error_good n s small =
    let t = text_in (error_subcodes (get_or s 0 0)) [] (get_or s 1 0) in (
      omega arith,
      (omega arith, omega arith),
      one-low s small 0,
      (
        omega arith,
        (omega arith, omega arith),
        error_listed (get_or s 0 0),
        pick_elim (GoodRow n true 1) (ltb (length s) 2) (λ e. tt)
            (λ e. (omega arith, (omega arith, omega arith), one-low s small 1, text-good n 1 k_error_subcode_text t (omega arith) (omega arith, omega arith) (text-low (error_subcodes (get_or s 0 0)) [] (get_or s 1 0)))),
      ),
    )

-- a body with octets stands behind 30 others
body-good : (n t : ℕ) (s : List ℕ) → Octets s → ((length s ≡ 0 → ⊥) → 30 + length s ≤ n) → GoodRow n true 1 (body_members t s)
unfolding body_members
body-good n t s small h =
    let row : Items → Type 0 = GoodRow n true 1 in
    pick_elim row (eqb (length s) 0) (λ e. tt)
    (λ z. let w : 30 + length s ≤ n = h (eqb-false (length s) 0 z) in
    pick_elim row (eqb t 1)
    (λ e. pick_elim row (ltb (length s) 6) (λ e. tt) (λ e. (omega arith, (omega arith, omega arith), open_good n 30 s small w, tt)))
    (λ e. pick_elim row (eqb t 2)
    (λ e. pick_elim row (update_readable s) (λ e. (omega arith, (omega arith, omega arith), update_good n 30 s small w, tt)) (λ e. tt))
    (λ e. pick_elim row (eqb t 3) (λ e. error_good n s small) (λ e. tt))))

-- ---- the record
module _ (s : List ℕ) (small : Octets s) (short : length s ≤ 65535) where
  abbrev row : Items → Type 0
  row x = GoodRow (length s) true 1 x

  numbers-good : row (number_members s)
  numbers-good =
      pick_elim row (ltb (length s) 12) (λ e. tt)
      (λ e. (omega arith, (omega arith, omega arith), four_low s small 4 5 6 7, (omega arith, (omega arith, omega arith), four_low s small 8 9 10 11, tt)))

  credit_good : row (credit_members s)
  credit_good =
      pick_elim row (ltb (length s) 14) (λ e. tt)
      (λ e. (omega arith, (omega arith, omega arith), one-low s small 12, (omega arith, (omega arith, omega arith), one-low s small 13, tt)))

  head-good : row (head_members s)
  head-good =
      let b : Items = body_members (get_or s 3 0) (drop 30 s) in
      let w : (length (drop 30 s) ≡ 0 → ⊥) → 30 + length (drop 30 s) ≤ length s = λ z. omega (arith, z, length-drop 30 s) in
      let rest : row (number_members s ⊕ (credit_members s ⊕ b)) =
      good-⊕ (length s) true 1 (number_members s) (credit_members s ⊕ b) numbers-good
      (good-⊕ (length s) true 1 (credit_members s) b credit_good (body-good (length s) (get_or s 3 0) (drop 30 s) (drop-small 30 s small) w)) in
      (omega arith, (omega arith, omega arith), two-low s small 1 2, (omega arith, (omega arith, omega arith), type-listed (get_or s 3 0), rest))

  pub good_members : Good (length s) (members_of s)
  unfolding members_of
  good_members = (
    omega arith,
    (omega arith, omega arith),
    (omega arith, omega arith),
    (omega arith, (omega arith, omega arith), omega arith, pick_elim row (ltb (length s) 4) (λ e. tt) (λ e. head-good)),
  )

  pub idrp_reads-back : items_of (length s) (idrp_cells s) ≡ some (members_of s)
  unfolding idrp_cells
  idrp_reads-back = reads-back (length s) (members_of s) (omega arith) good_members
