use borrow.Author.Rules.{rules}
use Prim.Native.Nat.{◌+◌}
use mathlib.Core.Path.{sym, ◌∙◌}
use lib.ListN.{get_or}
use Rattle.octets.specs.Read.{be16}
use Rattle.names.specs.Numbers.{k_pdu_id, k_segment_offset, k_total_len, k_segmented}
use Rattle.octets.proofs.Emits.{nothing}
use Rattle.cells.specs.Items.{Items, none, leaf, number, ◌⊕◌}
use Rattle.cells.proofs.Rows.{then_row, flat-none, row_as}
use Rattle.fields.specs.Member.{opt_yes}
use Rattle.octets.proofs.Picks.{pick_yes}
use Rattle.clnp.specs.Segment.{seg_at}
use Rattle.clnp.specs.Pdu.{offset_of, segmented}
use Rattle.clnp.proofs.record.put_segment.Goals as goal

pub returns-then-not-has_segment : goal.returns-then-not-has_segment
returns-then-not-has_segment c = rw (sym c.has_segment.ensures ∙ c.if-not-has_segment.true, flat-none) (nothing _ _ (search rules) (search rules))

pub returns : goal.returns
returns c =
    let s = c.args.p.octets.now in
    let here = c.args.p.behind.0 in
    let p = seg_at s in
    let id : Items = leaf k_pdu_id (number (be16 (get_or s p 0) (get_or s (p + 1) 0))) none in
    let off : Items = leaf k_segment_offset (number (offset_of s)) none in
    let total : Items = leaf k_total_len (number (be16 (get_or s (p + 4) 0) (get_or s (p + 5) 0))) none in
    let told : Items = opt_yes k_segmented (segmented s) in
    row_as 1 (sym (pick_yes (id ⊕ (off ⊕ (total ⊕ told))) none (sym c.has_segment.ensures ∙ c.if-not-has_segment.false)))
    (then_row 1 id (off ⊕ (total ⊕ told)) (rw here at c.put_two-id.ensures) (then_row 1 off (total ⊕ told) (rw c.offset.ensures at c.put_number-from.ensures)
    (then_row 1 total told (rw here at c.put_two-total.ensures) (rw c.segmented.ensures at c.put_yes_if.ensures))))
