use Rattle.idrp.proofs.Updates.{no_count, no_length, by_place}
use Rattle.idrp.proofs.update.update_readable.Goals as goal

pub returns-then-s-lt2 : goal.returns-then-s-lt2
returns-then-s-lt2 c = no_count c.args.s.now c.if-s-lt2.true

pub returns-then-s-p : goal.returns-then-s-p
returns-then-s-p c = no_length c.args.s.now c.if-s-lt2.false c.attributes_at-p.result c.attributes_at-p.ensures.0 c.if-s-p.true

pub returns : goal.returns
returns c =
    by_place c.args.s.now c.if-s-lt2.false c.attributes_at-p.result c.attributes_at-p.ensures.0 c.attributes_end-end.result c.attributes_place-place.result c.if-s-p.false c.attributes_end-end.ensures c.attributes_place-place.ensures.0
