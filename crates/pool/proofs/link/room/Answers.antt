use Prim.Native.Nat.{ℕ, ◌+◌, ◌*◌, ◌-◌, ◌≤◌, ◌<◌}
use mathlib.Core.Path.{◌≡◌, sym, ap, ◌∙◌}
use mathlib.Core.List.{List}
use native.Mathlib.Omega.{arith}
use lib.ListN.{length, get_or, set}
use Rattle.tables.specs.Tables.{links, blocks_in, reserve, cap, count, units, excess_of, counts, over}
use Rattle.tables.proofs.Laws.{tables, settings}
use Rattle.tables.proofs.Counts.{over-after, after-low}
use Rattle.pool.proofs.Near.{near, own}
use Rattle.pool.proofs.Refused.{says-11, says-12, says-13, says-2, within-2, less-2}
use Rattle.pool.proofs.link.room.Goals.{After-over_of-e, After-recounted, Start}
use Rattle.pool.proofs.link.room.Goals as goal

-- the bounds that the sums keep
record Bounds (w : List ℕ) (l u k n : ℕ) : Type 0 where
  long : 1576 ≤ length w
  low-link : l < 16
  few-links : links w ≤ 16
  few : units w l ≤ 8
  counted : count w l ≤ 1024
  few-blocks : blocks_in w ≤ 1024
  cover : links w * reserve w ≤ blocks_in w
  capped : cap w ≤ 1024
  one : u ≤ 1
  there : k ≤ count w l
  most : n ≤ 65536

bd : (c : Start) → Bounds c.args.words.now c.args.l c.args.u c.args.k c.args.n
bd c =
    let t = tables c.args.words.now c.requires.0 in
    let q = settings c.args.words.now t.set in
    let r = near c.args.words.now c.args.l 0 t c.requires.1 (omega arith) in
    record {
      long = r.long;
      low-link = r.low-link;
      few-links = r.few-links;
      few = r.few;
      counted = r.counted;
      few-blocks = r.few-blocks;
      cover = q.cover;
      capped = omega (arith, q.capped, q.few-blocks);
      one = c.requires.2;
      there = c.requires.3;
      most = c.requires.4;
    }

-- the ledger that the last test is on
changed : (c : After-recounted) →
    let a = c.args in
    c.recounted.result.counts ≡ set (counts a.words.now) a.l (count a.words.now a.l + a.n - a.k)
changed c =
    let a = c.args in
    c.recounted.ensures ∙ ap (λ (g : List ℕ). set g a.l (count a.words.now a.l + a.n - a.k)) c.ledger_of.ensures

judged : (c : After-over_of-e) →
    let a = c.args in
    let w = a.words.now in
    c.over_of-e.result + (count w a.l - reserve w) ≡ excess_of w (links w) + (count w a.l + a.n - a.k - reserve w)
judged c =
    let s = c in let w = s.args.words.now in
    let t = tables w s.requires.0 in
    ap (λ (y : ℕ). y + (count w s.args.l - reserve w)) (c.over_of-e.ensures ∙ ap (over (reserve w)) (c.recounted.ensures ∙ ap (λ (g : List ℕ). set g s.args.l (count w s.args.l + s.args.n - s.args.k)) c.ledger_of.ensures))
    ∙ over-after w t.set t.each s.args.l (count w s.args.l + s.args.n - s.args.k) (near w s.args.l 0 t s.requires.1 (omega arith)).low-link (omega (arith, t.long))

pub overflow_add-words : goal.overflow_add-words
overflow_add-words c = omega (arith, bd (goal.at.overflow_add-words c).Start)

pub returns-then-words-l-gt8 : goal.returns-then-words-l-gt8
returns-then-words-l-gt8 c =
    let a = c.args in
    sym (says-11 a.words.now a.l a.u a.k a.n c.if-words-l-gt8.true)

pub returns-then-n-k : goal.returns-then-n-k
returns-then-n-k c =
    let a = c.args in
    let t = tables a.words.now c.requires.0 in
    sym (less-2 a.words.now a.l a.u a.k a.n c.if-words-l-gt8.false t (own a.words.now a.l t c.requires.1) c.requires.3 c.if-n-k.true)

pub overflow_add-after : goal.overflow_add-after
overflow_add-after c = omega (arith, bd (goal.at.overflow_add-after c).Start)

pub returns-then-words-after : goal.returns-then-words-after
returns-then-words-after c =
    let a = c.args in
    sym (says-12 a.words.now a.l a.u a.k a.n c.if-words-l-gt8.false c.if-words-after.true)

pub returns-then-after-r : goal.returns-then-after-r
returns-then-after-r c =
    let a = c.args in
    sym (within-2 a.words.now a.l a.u a.k a.n c.if-words-l-gt8.false c.if-words-after.false (tables a.words.now c.requires.0) c.if-after-r.true)

pub over_of-e-requires : goal.over_of-e-requires
over_of-e-requires c =
    let a = c.args in
    let w = a.words.now in
    let t = tables w c.requires.0 in
    let b = bd (goal.at.over_of-e-requires c).Start in
    λ i h. omega (arith, ap (λ (g : List ℕ). get_or g i 0) (changed (goal.at.over_of-e-requires c).After-recounted), after-low w t.set t.each a.l (count w a.l + a.n - a.k) b.low-link (omega (arith, b.long)) (omega (arith, c.if-words-after.false, b.capped)) i h)

pub returns-then-words-r : goal.returns-then-words-r
returns-then-words-r c =
    let a = c.args in
    sym (says-13 a.words.now a.l a.u a.k a.n c.if-words-l-gt8.false c.if-words-after.false (omega (arith, c.if-words-r.true, judged (goal.at.returns-then-words-r c).After-over_of-e)))

pub returns : goal.returns
returns c =
    let a = c.args in
    sym (says-2 a.words.now a.l a.u a.k a.n c.if-words-l-gt8.false c.if-words-after.false (omega (arith, c.if-words-r.false, judged (goal.at.returns c).After-over_of-e)))
