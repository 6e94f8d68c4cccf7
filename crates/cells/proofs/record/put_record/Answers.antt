use Rattle.std.proofs.Common.{rules, ◌≡◌, ◌+◌, ◌*◌, ◌≤◌, ◌<◌, sym, ◌∙◌, ap, refl, arith, length}
use Rattle.cells.proofs.Answers.{no_front}
use Rattle.cells.proofs.Once.{says_once, says-short, says-whole}
use Rattle.cells.proofs.record.put_record.Goals as goal

pub returns-then-len-out : goal.returns-then-len-out
returns-then-len-out g c =
    let r = g.R.Record in
    let s = c.args.r.now in
    says_once (r.members s) c.requires.0 refl c.requires.1 (search rules) (search rules) c.put.ensures

pub returns-then-out-count : goal.returns-then-out-count
returns-then-out-count g c =
    let r = g.R.Record in
    let s = c.args.r.now in
    let z = no_front c.put-count.new.out c.args.out.now c.put-count.auto.out in
    says-short (r.members s) c.requires.0 refl z (rw z at c.if-out-count.true) c.put-count.ensures

pub returns : goal.returns
returns g c =
    let r = g.R.Record in
    let s = c.args.r.now in
    let z = no_front c.put-count.new.out c.args.out.now c.put-count.auto.out in
    says-whole (r.members s) c.requires.0 refl z (rw z at c.if-out-count.false) (search rules) c.put-count.ensures c.put-2.ensures
