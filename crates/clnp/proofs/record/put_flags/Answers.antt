use borrow.Author.Rules.{rules}
use borrow.Author.Tests.{le-leb, lt-leb}
use mathlib.Core.Path.{sym}
use Rattle.names.specs.Numbers.{k_error_report, k_more_segments}
use Rattle.octets.proofs.Emits.{nothing}
use Rattle.octets.proofs.Picks.{pick_yes}
use Rattle.cells.specs.Items.{Items, none, leaf, flag, ◌⊕◌}
use Rattle.cells.proofs.Rows.{then_row, flat-none, row_as}
use Rattle.clnp.specs.Segment.{more, report}
use Rattle.clnp.specs.Pdu.{segment_members}
use Rattle.clnp.proofs.record.put_flags.Goals as goal

pub returns-then-flags-lt128 : goal.returns-then-flags-lt128
returns-then-flags-lt128 c = rw (lt-leb _ _ c.if-flags-lt128.true, flat-none) (nothing _ _ (search rules) (search rules))

pub returns : goal.returns
returns c =
    let s = c.args.p.octets.now in
    let r : Items = leaf k_error_report (flag (report s)) none in
    let m : Items = leaf k_more_segments (flag (more s)) none in
    row_as 1 (sym (pick_yes (r ⊕ (m ⊕ segment_members s)) none (le-leb _ _ c.if-flags-lt128.false)))
    (then_row 1 r (m ⊕ segment_members s) c.put_flag-report.ensures (then_row 1 m (segment_members s) c.put_flag-more.ensures c.put_segment.ensures))
