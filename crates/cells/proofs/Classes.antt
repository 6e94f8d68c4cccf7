-- What a cell's class says of its fields.
use Rattle.std.specs.Prelude.{Option, Some, None}
use mathlib.Core.Path.{◌≡◌, refl, ap}
use mathlib.Core.Bool.{Bool, true, false, ◌&&◌}
use Prim.Native.Nat.{ℕ, ◌+◌, ◌<◌}
use native.Mathlib.Omega.{arith}
use borrow.Author.Tests.{eqb-true, ltb-true, leb-true, lt-ltb, le-leb, eq-eqb}
use lib.Dec.{eqb, ltb, leb}
use Rattle.octets.specs.Text.{pick}
use Rattle.octets.proofs.Tests.{and_left, and_right}
use Rattle.names.specs.Numbers.{last_field}
use Rattle.cells.specs.Cell.{field_of, form_of, depth_of, len_of, value_of, f_object, f_list, f_close}
use Rattle.cells.specs.Items.{open_form}
use Rattle.cells.specs.Read.{field_ok, leaf_ok, bare, closes, placed, item_class, class_of}
use Rattle.cells.specs.Good.{Key}
use Rattle.cells.specs.declared.class.Class.{Class}
use Rattle.cells.specs.declared.class.Class.TheVariants.{Leafy, Object, Entries, Close}
use Rattle.cells.proofs.Packs.{depth_low}

-- the class of the cell that opens an object or a list
abbrev pub opening : Bool → Option Class
opening true = (Some Object)
opening false = (Some Entries)

-- a number for each class, by which two of them differ
code : Option Class → ℕ
code (Some Leafy) = 0
code (Some Object) = 1
code (Some Entries) = 2
code (Some Close) = 3
code None = 4

taken : (b : Bool) {x y q : Option Class} → pick b x y ≡ q → (y ≡ q → ⊥) → (b ≡ true) × (x ≡ q)
taken true e n = (refl, e)
taken false e n = absurd (n e)

left : (b : Bool) {x y q : Option Class} → pick b x y ≡ q → (x ≡ q → ⊥) → y ≡ q
left true e n = absurd (n e)
left false e n = e

neither : (b : Bool) (x y : Option Class) {q : Option Class} → (x ≡ q → ⊥) → (y ≡ q → ⊥) → pick b x y ≡ q → ⊥
neither true x y n m e = n e
neither false x y n m e = m e

-- two classes with other numbers are not the same
apart : {p q : Option Class} → (code p ≡ code q → ⊥) → p ≡ q → ⊥
apart f e = f (ap code e)

pub key-ok : (k : Bool) (f : ℕ) → Key k f → field_ok k f ≡ true
unfolding field_ok
key-ok true f h = simp (lt-ltb 0 f h.0, le-leb f last_field h.1)
key-ok false f h = eq-eqb f 0 h

pub ok-key : (k : Bool) (f : ℕ) → field_ok k f ≡ true → Key k f
unfolding field_ok
ok-key true f h = (ltb-true 0 f (and_left (ltb 0 f) (leb f last_field) h), leb-true f last_field (and_right (ltb 0 f) (leb f last_field) h))
ok-key false f h = eqb-true f 0 h

pub bare-is : (c : ℕ) → bare c ≡ true → (len_of c ≡ 0) × (value_of c ≡ 0)
unfolding bare
bare-is c h =
    (eqb-true (len_of c) 0 (and_left (eqb (len_of c) 0) (eqb (value_of c) 0) h), eqb-true (value_of c) 0 (and_right (eqb (len_of c) 0) (eqb (value_of c) 0) h))

module _ (n : ℕ) (k : Bool) (d c : ℕ) where
  placed-is : placed k d c ≡ true → (depth_of c ≡ d) × (field_ok k (field_of c) ≡ true)
  unfolding placed
  placed-is h =
      (eqb-true (depth_of c) d (and_left (eqb (depth_of c) d) (field_ok k (field_of c)) h), and_right (eqb (depth_of c) d) (field_ok k (field_of c)) h)

  -- no closing cell: its depth is right, and its field
  item : (q : Option Class) → ((Some Close) ≡ q → ⊥) → (None ≡ q → ⊥) → class_of n k d c ≡ q → (depth_of c ≡ d) × (field_ok k (field_of c) ≡ true) × (item_class n c ≡ q)
  unfolding class_of
  item q nc nb e =
      let e₁ = left (eqb (form_of c) f_close) e (neither (closes d c) (Some Close) None nc nb) in
      let e₂ = taken (placed k d c) e₁ nb in
      let w = placed-is e₂.0 in
      (w.0, w.1, e₂.1)

  pub class-leaf : class_of n k d c ≡ (Some Leafy) → (depth_of c ≡ d) × (field_ok k (field_of c) ≡ true) × (leaf_ok n (form_of c) (len_of c) (value_of c) ≡ true)
  unfolding item_class code
  class-leaf e =
      let nb : None ≡ (Some Leafy) → ⊥ = apart (λ z. omega (arith, z)) in
      let w = item (Some Leafy) (apart (λ z. omega (arith, z))) nb e in
      let v = left (eqb (form_of c) f_object) w.2 (neither (bare c) (Some Object) None (apart (λ z. omega (arith, z))) nb) in
      let u = left (eqb (form_of c) f_list) v (neither (bare c) (Some Entries) None (apart (λ z. omega (arith, z))) nb) in
      (w.0, w.1, (taken (leaf_ok n (form_of c) (len_of c) (value_of c)) u nb).0)

  class_object : class_of n k d c ≡ (Some Object) → (depth_of c ≡ d) × (field_ok k (field_of c) ≡ true) × (form_of c ≡ f_object) × (bare c ≡ true)
  unfolding item_class code
  class_object e =
      let nb : None ≡ (Some Object) → ⊥ = apart (λ z. omega (arith, z)) in
      let w = item (Some Object) (apart (λ z. omega (arith, z))) nb e in
      let other = neither (eqb (form_of c) f_list) _ _ (neither (bare c) (Some Entries) None (apart (λ z. omega (arith, z))) nb) (neither (leaf_ok n (form_of c) (len_of c) (value_of c)) (Some Leafy) None (apart (λ z. omega (arith, z))) nb) in
      let v = taken (eqb (form_of c) f_object) w.2 other in
      (w.0, w.1, eqb-true (form_of c) f_object v.0, (taken (bare c) v.1 nb).0)

  class_list : class_of n k d c ≡ (Some Entries) → (depth_of c ≡ d) × (field_ok k (field_of c) ≡ true) × (form_of c ≡ f_list) × (bare c ≡ true)
  unfolding item_class code
  class_list e =
      let nb : None ≡ (Some Entries) → ⊥ = apart (λ z. omega (arith, z)) in
      let w = item (Some Entries) (apart (λ z. omega (arith, z))) nb e in
      let v = left (eqb (form_of c) f_object) w.2 (neither (bare c) (Some Object) None (apart (λ z. omega (arith, z))) nb) in
      let u = taken (eqb (form_of c) f_list) v (neither (leaf_ok n (form_of c) (len_of c) (value_of c)) (Some Leafy) None (apart (λ z. omega (arith, z))) nb) in
      (w.0, w.1, eqb-true (form_of c) f_list u.0, (taken (bare c) u.1 nb).0)

  pub class_open : (g : Bool) → class_of n k d c ≡ opening g → (depth_of c ≡ d) × (field_ok k (field_of c) ≡ true) × (form_of c ≡ open_form g) × (bare c ≡ true)
  class_open true e = class_object e
  class_open false e = class_list e

  closes-is : closes d c ≡ true → (depth_of c + 1 ≡ d) × (field_of c ≡ 0) × (bare c ≡ true)
  unfolding closes
  closes-is h =
      let w = and_right (eqb (depth_of c + 1) d) (eqb (field_of c) 0 && bare c) h in (
        eqb-true (depth_of c + 1) d (and_left (eqb (depth_of c + 1) d) (eqb (field_of c) 0 && bare c) h),
        eqb-true (field_of c) 0 (and_left (eqb (field_of c) 0) (bare c) w),
        and_right (eqb (field_of c) 0) (bare c) w,
      )

  pub class-close : class_of n k d c ≡ (Some Close) → (depth_of c + 1 ≡ d) × (field_of c ≡ 0) × (form_of c ≡ f_close) × (bare c ≡ true)
  unfolding class_of item_class code
  class-close e =
      let nb : None ≡ (Some Close) → ⊥ = apart (λ z. omega (arith, z)) in
      let leafy = neither (leaf_ok n (form_of c) (len_of c) (value_of c)) (Some Leafy) None (apart (λ z. omega (arith, z))) nb in
      let list = neither (eqb (form_of c) f_list) _ _ (neither (bare c) (Some Entries) None (apart (λ z. omega (arith, z))) nb) leafy in
      let any = neither (eqb (form_of c) f_object) _ _ (neither (bare c) (Some Object) None (apart (λ z. omega (arith, z))) nb) list in
      let v = taken (eqb (form_of c) f_close) e (neither (placed k d c) (item_class n c) None any nb) in
      let w = closes-is (taken (closes d c) v.1 nb).0 in
      (w.0, w.1, eqb-true (form_of c) f_close v.0, w.2)

  -- a group that opens is not the deepest that a cell can say
  pub open_low : (g : Bool) → class_of n k d c ≡ opening g → d < 16
  open_low g e = omega (arith, depth_low c, (class_open g e).0)
