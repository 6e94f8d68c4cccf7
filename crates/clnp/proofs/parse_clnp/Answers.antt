use mathlib.Core.Path.{sym, ◌∙◌}
use Rattle.octets.proofs.Tests.{and_left}
use Rattle.cells.proofs.Answers.{too_long, unreadable}
use Rattle.clnp.specs.Segment.{headed, addresses_of}
use Rattle.clnp.specs.Pdu.{has_addresses}
use Rattle.clnp.proofs.Headers.{full}
use Rattle.clnp.proofs.Cells.{no_cells, cells_are}
use Rattle.clnp.proofs.Thin.{record_thin}
use Rattle.clnp.proofs.parse_clnp.Goals as goal

pub returns-then-b-gt65535 : goal.returns-then-b-gt65535
returns-then-b-gt65535 c = too_long c.if-b-gt65535.true

pub returns-then-not-readable : goal.returns-then-not-readable
returns-then-not-readable c = unreadable c.if-b-gt65535.false (no_cells c.args.b.now (sym c.readable.ensures ∙ c.if-not-readable.true))

pub put_record-requires : goal.put_record-requires
put_record-requires c =
    let s = c.args.b.now in
    let h = and_left (headed s) (has_addresses (addresses_of s)) (sym c.readable.ensures ∙ c.if-not-readable.false) in
    (c.if-b-gt65535.false, record_thin s (full s h).2)

pub returns : goal.returns
returns c = rw (sym (cells_are c.args.b.now (sym c.readable.ensures ∙ c.if-not-readable.false))) c.put_record.ensures
