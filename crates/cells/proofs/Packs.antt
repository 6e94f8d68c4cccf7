-- A cell's fields are what it was packed from, and a cell is packed from its fields.
use mathlib.Core.Path.{◌≡◌}
use Prim.Native.Nat.{ℕ, ◌<◌}
use native.Mathlib.Nat.{div-div-eq-div-mul}
use native.Mathlib.Omega.{arith}
use Rattle.cells.specs.Cell.{cell_of, field_of, form_of, depth_of, len_of, value_of}

module _ (field form depth len value : ℕ) (hm : form < 16) (hd : depth < 16) (hl : len < 65536) (hv : value < 4294967296) where
  pub field_back : field_of (cell_of field form depth len value) ≡ field
  unfolding cell_of field_of
  field_back = omega arith

  pub form_back : form_of (cell_of field form depth len value) ≡ form
  unfolding cell_of form_of
  form_back = omega arith

  pub depth_back : depth_of (cell_of field form depth len value) ≡ depth
  unfolding cell_of depth_of
  depth_back = omega arith

  pub len-back : len_of (cell_of field form depth len value) ≡ len
  unfolding cell_of len_of
  len-back = omega arith

  pub value-back : value_of (cell_of field form depth len value) ≡ value
  unfolding cell_of value_of
  value-back = omega arith

pub whole : (c : ℕ) → cell_of (field_of c) (form_of c) (depth_of c) (len_of c) (value_of c) ≡ c
unfolding cell_of field_of form_of depth_of len_of value_of
whole c =
    omega (arith, div-div-eq-div-mul c 4294967296 65536, div-div-eq-div-mul c 281474976710656 16, div-div-eq-div-mul c 4503599627370496 16)

pub depth_low : (c : ℕ) → depth_of c < 16
unfolding depth_of
depth_low c = omega arith

pub len-low : (c : ℕ) → len_of c < 65536
unfolding len_of
len-low c = omega arith

pub value_low : (c : ℕ) → value_of c < 4294967296
unfolding value_of
value_low c = omega arith
