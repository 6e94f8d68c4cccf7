use Rattle.std.proofs.Common.{arith}
use Rattle.x25.proofs.Cells.{was-read}
use Rattle.x25.proofs.Thin.{x25_thin}
use Rattle.x25.proofs.Says.{fits_read}
use Rattle.x25.proofs.put_known.Goals as goal

pub invariant_of-put_record : goal.invariant_of-put_record
invariant_of-put_record c =
    let w = was-read c.args.b.now c.args.x.now c.requires.0 in record {
      short = omega (arith, c.requires.1);
      within = (fits_read c.args.b.now c.args.x.now w.0).0;
    }

pub put_record-requires : goal.put_record-requires
put_record-requires c =
    let w = was-read c.args.b.now c.args.x.now c.requires.0 in
    (c.requires.1, rw w.1 (x25_thin c.args.b.now))

pub returns : goal.returns
returns c =
    let w = was-read c.args.b.now c.args.x.now c.requires.0 in
    rw w.1 at c.put_record.ensures
