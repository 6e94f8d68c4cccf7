-- The cells of what is readable are those of a record that reads back.
use Prim.Native.Nat.{ℕ, ◌≤◌, ◌<◌}
use mathlib.Core.Path.{◌≡◌, refl, sym, ap, ◌∙◌}
use mathlib.Core.Bool.{Bool, true, false, ◌&&◌}
use mathlib.Core.List.{List, []}
use mathlib.Core.Option.{some}
use native.Mathlib.Omega.{arith}
use lib.Dec.{eqb}
use lib.ListN.{length, get_or}
use Rattle.octets.specs.Text.{pick}
use Rattle.octets.proofs.Picks.{pick_no}
use Rattle.cells.specs.Items.{Items, record_of, flat}
use Rattle.cells.specs.Read.{items_of}
use Rattle.cells.specs.Good.{Good}
use Rattle.cells.proofs.WellFormed.{reads-back}
use Rattle.fields.proofs.Goods.{Octets}
use Rattle.clnp.specs.Pdu.{has_addresses, clnp_cells}
use Rattle.clnp.specs.Pdu as clnp
use Rattle.clnp.specs.Segment.{headed, addresses_of}
use Rattle.clnp.proofs.Cells.{cells_are}
use Rattle.clnp.proofs.WellFormed as clnp-good
use Rattle.esis.specs.Pdu.{esis_cells}
use Rattle.esis.specs.Pdu as esis
use Rattle.esis.proofs.WellFormed as esis-good
use Rattle.idrp.specs.Pdu.{idrp_cells}
use Rattle.idrp.specs.Pdu as idrp
use Rattle.idrp.proofs.WellFormed as idrp-good
use Rattle.network.specs.Network.{compressed_members, compressed_cells, cells_by, network_cells, network_members}

-- two choices by one test
both : {A B : Type 0} (P : A → B → Type 0) (t : Bool) {x y : A} {u v : B} → (t ≡ true → P x u) → (t ≡ false → P y v) → P (pick t x y) (pick t u v)
both P true f g = f refl
both P false f g = g refl

module _ (s : List ℕ) (small : Octets s) (short : length s ≤ 65535) where
  -- the cells are none, or those of good members
  abbrev Record : Items → List ℕ → Type 0
  Record kids cells = 0 < length cells → (cells ≡ flat 0 (record_of kids)) × Good (length s) kids

  clnp_record : (t : Bool) → (headed s && has_addresses (addresses_of s)) ≡ t → Record (clnp.members_of s) (clnp_cells s)
  unfolding clnp_cells
  clnp_record true e h = (sym (cells_are s e), clnp-good.good_members s small short e)
  clnp_record false e h = absurd (omega (arith, h, ap length (pick_no (flat 0 (record_of (clnp.members_of s))) [] e)))

  esis_record : Record (esis.members_of s) (esis_cells s)
  unfolding esis_cells
  esis_record h = (refl, esis-good.good_members s small short)

  idrp_record : Record (idrp.members_of s) (idrp_cells s)
  unfolding idrp_cells
  idrp_record h = (refl, idrp-good.good_members s small short)

  compressed_record : Record (compressed_members s) (compressed_cells s)
  unfolding compressed_cells
  compressed_record h = (refl, (omega arith, (omega arith, omega arith), (omega arith, omega arith), (omega arith, (omega arith, omega arith), small 0, (omega arith, (omega arith, omega arith), omega (arith, short), tt))))

  or_none : (t : Bool) (kids : Items) (cells : List ℕ) → Record kids cells → Record kids (pick t [] cells)
  or_none true kids cells r h = absurd (omega (arith, h))
  or_none false kids cells r h = r h

  pub network_record : Record (network_members s) (network_cells s)
  unfolding network_cells
  network_record =
      let first = get_or s 0 0 in
      or_none (eqb (length s) 0) (network_members s) (cells_by first s)
      (both Record (eqb first 0x81) (λ e. clnp_record (headed s && has_addresses (addresses_of s)) refl)
      (λ e. both Record (eqb first 0x82) (λ e. esis_record) (λ e. both Record (eqb first 0x83) (λ e. idrp_record) (λ e. compressed_record))))

  -- they read back as those members
  pub network_reads-back : 0 < length (network_cells s) → items_of (length s) (network_cells s) ≡ some (network_members s)
  network_reads-back h =
      let r = network_record h in
      ap (items_of (length s)) r.0 ∙ reads-back (length s) (network_members s) (omega (arith, short)) r.1
