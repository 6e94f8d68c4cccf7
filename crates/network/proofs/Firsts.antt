-- The cells by the first octet.
use Prim.Native.Nat.{ℕ, ◌≤◌, ◌<◌}
use mathlib.Core.Path.{◌≡◌, refl, sym, ◌∙◌}
use mathlib.Core.List.{List, []}
use native.Mathlib.Omega.{arith}
use borrow.Author.Tests.{eq-eqb, ne_eqb, le-ltb, lt-leb}
use lib.ListN.{length, get_or}
use Rattle.octets.specs.Emit.{top, Emits, on_from}
use Rattle.cells.specs.Items.{flat}
use Rattle.cells.specs.Answer.{answer_to, Parsed}
use Rattle.std.specs.Prelude.{Ok, Err}
use Rattle.cells.specs.declared.answer.Refusal.TheVariants.{Short}
use Rattle.cells.proofs.Answers as answers
use Rattle.clnp.specs.Pdu.{clnp_cells}
use Rattle.esis.specs.Pdu.{esis_cells}
use Rattle.idrp.specs.Pdu.{idrp_cells}
use Rattle.network.specs.Network.{compressed_cells, cells_by, network_cells}

pub five : (s : List ℕ) → length (compressed_cells s) ≡ 5
unfolding compressed_cells flat
five s = refl

module _ (s : List ℕ) where
  pub none_of : length s ≡ 0 → network_cells s ≡ []
  unfolding network_cells
  none_of h = simp (eq-eqb (length s) 0 h)

  module _ (some : length s ≡ 0 → ⊥) where
    some_of : network_cells s ≡ cells_by (get_or s 0 0) s
    unfolding network_cells
    some_of = simp (ne_eqb (length s) 0 some)

    pub clnp_of : get_or s 0 0 ≡ 0x81 → clnp_cells s ≡ network_cells s
    clnp_of h = sym (some_of ∙ simp (eq-eqb (get_or s 0 0) 0x81 h))

    module _ (a : get_or s 0 0 ≡ 0x81 → ⊥) where
      pub esis_of : get_or s 0 0 ≡ 0x82 → esis_cells s ≡ network_cells s
      esis_of h = sym (some_of ∙ simp (ne_eqb (get_or s 0 0) 0x81 a, eq-eqb (get_or s 0 0) 0x82 h))

      module _ (b : get_or s 0 0 ≡ 0x82 → ⊥) where
        pub idrp_of : get_or s 0 0 ≡ 0x83 → idrp_cells s ≡ network_cells s
        idrp_of h = sym (some_of ∙ simp (ne_eqb (get_or s 0 0) 0x81 a, ne_eqb (get_or s 0 0) 0x82 b, eq-eqb (get_or s 0 0) 0x83 h))

        pub compressed_of : (get_or s 0 0 ≡ 0x83 → ⊥) → compressed_cells s ≡ network_cells s
        compressed_of h = sym (some_of ∙ simp (ne_eqb (get_or s 0 0) 0x81 a, ne_eqb (get_or s 0 0) 0x82 b, ne_eqb (get_or s 0 0) 0x83 h))

-- ---- the answers on a compressed PDU
module _ (s old : List ℕ) (low : length s ≤ 65535) where
  pub says-short : length old < 5 → Parsed (length s) (compressed_cells s) old (Err Short) old
  unfolding answer_to
  says-short h = record { answer = simp (le-ltb 65535 (length s) low, five s, lt-leb 5 (length old) h); output = refl }

  pub says-whole : {new : List ℕ} {n : ℕ} → 5 ≤ length old → length old < top → Emits old 0 (compressed_cells s) new n → Parsed (length s) (compressed_cells s) old (Ok n) new
  unfolding on_from
  says-whole h b w =
      let n = five s in
      answers.whole low refl refl (omega (arith, w.place, n)) (omega (arith, w.place, n, h)) b w
