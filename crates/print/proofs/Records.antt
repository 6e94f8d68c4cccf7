-- Printing the cells of a good tree, which is what parsers write.
use mathlib.Core.Path.{◌≡◌, refl, sym, ap, ◌∙◌}
use mathlib.Core.List.{List, [], ◌∷◌}
use mathlib.Core.Option.{some}
use Prim.Native.Nat.{ℕ, ◌<◌}
use native.Mathlib.Omega.{arith}
use lib.ListN.{length}
use Rattle.octets.specs.Text.{digits}
use Rattle.names.specs.Ascii.{octets}
use Rattle.names.specs.Keys.{keys}
use Rattle.names.specs.Texts.{texts}
use Rattle.names.specs.Numbers.{k_lcn, k_kind, k_ps, k_pr, k_more, t_data}
use Rattle.cells.specs.Cell.{cell_of, field_of, form_of, depth_of, len_of, value_of}
use Rattle.cells.specs.Items.{Items, none, leaf, number, flag, text, record_of, leaf_cell, flat}
use Rattle.cells.specs.Read.{items_of, read, step, class_of, closes, placed, item_class, field_ok, leaf_ok, below, text_ok, leaf_of, bare}
use Rattle.cells.specs.Good.{Good}
use Rattle.cells.specs.Answer.{number_of}
use Rattle.cells.specs.Answer.{Answer}
use Rattle.cells.proofs.WellFormed.{reads-back}
use Rattle.cells.proofs.Answers.{readable}
use Rattle.print.specs.Json.{leaf_text, comma, name, lead, row_text, json_of}
use Rattle.print.specs.Print.{printed, Prints}

-- its text is the tree's
pub printed_record : (inp : List ℕ) (kids : Items) → length inp < 65536 → Good (length inp) kids → printed (flat 0 (record_of kids)) inp ≡ json_of inp kids
unfolding printed
printed_record inp kids h g = rw (reads-back (length inp) kids h g)

-- no text is empty
json_some : (inp : List ℕ) (kids : Items) → 0 < length (json_of inp kids)
unfolding json_of
json_some inp kids = omega arith

-- so it is never 15
pub not_fifteen : (inp : List ℕ) (kids : Items) {old new : List ℕ} {r : Answer} → length inp < 65536 → Good (length inp) kids
    → Prints (flat 0 (record_of kids)) inp old r new → number_of r ≡ 15 → ⊥
not_fifteen inp kids {old} h g p e =
    let some : 0 < length (printed (flat 0 (record_of kids)) inp) = rw (printed_record inp kids h g) (json_some inp kids) in
    readable (length inp) (printed (flat 0 (record_of kids)) inp) (length old) some (ap number_of (sym p.answer) ∙ e)

-- the record that document 01 prints: a data packet 10 02 00 43
abbrev pub packet : Items
packet = leaf k_lcn (number 2) (leaf k_kind (text t_data) (leaf k_ps (number 0) (leaf k_pr (number 0) (leaf k_more (flag 0) none))))

pub packet-cells : items_of 4 (flat 0 (record_of packet)) ≡ some packet
unfolding items_of read step class_of closes placed item_class field_ok leaf_ok below text_ok leaf_of bare flat leaf_cell cell_of field_of form_of depth_of len_of value_of
packet-cells = refl

pub packet-text : json_of (16 ∷ 2 ∷ 0 ∷ 67 ∷ []) packet ≡ octets "{\"lcn\":2,\"kind\":\"data\",\"ps\":0,\"pr\":0,\"more\":false}"
unfolding json_of row_text lead comma name leaf_text digits keys texts
packet-text = refl
