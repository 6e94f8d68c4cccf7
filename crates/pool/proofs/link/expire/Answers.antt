use Prim.Native.Nat.{◌+◌, ◌*◌, ◌-◌, ◌≤◌, ◌<◌}
use mathlib.Core.Path.{◌≡◌, refl, sym, ap, ◌∙◌}
use mathlib.Core.List.{[]}
use native.Mathlib.Omega.{arith}
use lib.Ieee.{nan}
use lib.ListN.{length, get_or}
use Rattle.clock.specs.Time.{fresh_t}
use Rattle.tables.specs.Tables.{links, units}
use Rattle.pool.specs.View.{pend, blank}
use Rattle.pool.proofs.Good.{Good, good}
use Rattle.pool.proofs.Near.{Near, near}
use Rattle.pool.proofs.Expired.{going_start, going-fresh, going_stale, going_end, pend-long, view-long, view-time, settings-refl, settings_trans}
use Rattle.pool.proofs.link.expire.Goals.{At-loop-j, Start}
use Rattle.pool.proofs.link.expire.Goals as goal

st-good : (c : Start) → Good c.args.words.now c.args.times.now c.args.list.now c.args.home.now c.args.blocks.now
st-good c = good c.args.words.now c.args.times.now c.args.list.now c.args.home.now c.args.blocks.now c.requires.is_sound

st-near : (c : Start) → Near c.args.words.now c.args.l 0
st-near c = near c.args.words.now c.args.l 0 (st-good c).tab c.requires.in_range (omega arith)

module _ (c : At-loop-j) where
  gd : Good c.loop-j.words c.loop-j.times c.loop-j.list c.loop-j.home c.args.blocks.now
  gd = good c.loop-j.words c.loop-j.times c.loop-j.list c.loop-j.home c.args.blocks.now c.loop-j.invariant.0

  lk : c.args.l < links c.loop-j.words
  lk = omega (arith, c.requires.in_range, c.loop-j.invariant.1.on-links)

  nr : Near c.loop-j.words c.args.l 0
  nr = near c.loop-j.words c.args.l 0 gd.tab lk (omega arith)

  pl : 128 ≤ length c.loop-j.times
  pl = gd.places

  lng : length (get_or (pend c.loop-j.words c.loop-j.times c.loop-j.list c.args.blocks.now) c.args.l []) ≡ c.loop-j.u
  lng = view-long c.loop-j.words c.loop-j.times c.loop-j.list c.args.blocks.now c.args.l lk ∙ sym c.loop-j.invariant.2

  tm : c.loop-j.j < c.loop-j.u → (get_or (get_or (pend c.loop-j.words c.loop-j.times c.loop-j.list c.args.blocks.now) c.args.l []) c.loop-j.j blank).time ≡ get_or c.loop-j.times (8 * c.args.l + c.loop-j.j) nan
  tm h = view-time c.loop-j.words c.loop-j.times c.loop-j.list c.args.blocks.now c.args.l lk c.loop-j.j (omega (arith, c.loop-j.invariant.2, h))

  ln0 : c.args.l < length (pend c.args.words.now c.args.times.now c.args.list.now c.args.blocks.now)
  ln0 = omega (arith, c.requires.in_range, pend-long c.args.words.now c.args.times.now c.args.list.now c.args.blocks.now)

pub overflow_add-u : goal.overflow_add-u
overflow_add-u c = omega (arith, st-near (goal.at.overflow_add-u c).Start)

pub offset_bounds-words-l : goal.offset_bounds-words-l
offset_bounds-words-l c = omega (arith, st-near (goal.at.offset_bounds-words-l c).Start)

pub bounds-words-l : goal.bounds-words-l
bounds-words-l c = omega (arith, st-near (goal.at.bounds-words-l c).Start)

pub loop-j-init : goal.loop-j-init
loop-j-init c =
    let a = c.args in
    (c.requires.is_sound, settings-refl a.words.now, refl, omega arith, going_start a.at (pend a.words.now a.times.now a.list.now a.blocks.now) a.l)

pub overflow_add-l : goal.overflow_add-l
overflow_add-l c = omega (arith, nr (goal.at.overflow_add-l c).At-loop-j, c.loop-j.invariant.2)

pub place_at-q-requires : goal.place_at-q-requires
place_at-q-requires c = omega (arith, nr (goal.at.place_at-q-requires c).At-loop-j, pl (goal.at.place_at-q-requires c).At-loop-j, c.loop-j.invariant.2)

pub loop-j-preserved-then-fresh : goal.loop-j-preserved-then-fresh
loop-j-preserved-then-fresh c =
    let p = (goal.at.loop-j-preserved-then-fresh c).At-loop-j in
    let i = p.loop-j.invariant in
    let a = c.args in (
      i.0,
      i.1,
      i.2,
      omega arith,
      going-fresh a.at (pend a.words.now a.times.now a.list.now a.blocks.now) (pend p.loop-j.words p.loop-j.times p.loop-j.list a.blocks.now) a.l p.loop-j.j (ln0 p) i.4 (omega (arith, lng p))
          (ap (fresh_t a.at) (tm p c.loop-j-test.true ∙ sym c.place_at-q.ensures.time_read) ∙ sym c.fresh.ensures ∙ c.if-fresh.true),
    )

pub remove-requires : goal.remove-requires
remove-requires c =
    record {
      is_sound = c.loop-j.invariant.0;
      in_range = (lk (goal.at.remove-requires c).At-loop-j, omega (arith, c.loop-j.invariant.2));
    }

pub loop-j-preserved : goal.loop-j-preserved
loop-j-preserved c =
    let p = (goal.at.loop-j-preserved c).At-loop-j in
    let i = p.loop-j.invariant in
    let a = c.args in
    let d = c.remove in
    let tk : p.loop-j.j < p.loop-j.u = c.loop-j-test.true in
    let e : units d.new.words a.l ≡ units p.loop-j.words a.l - 1 = d.ensures.counted in
    let n : p.loop-j.u - 1 ≡ units d.new.words a.l = omega (arith, i.2) in (
      d.ensures.stays_sound,
      settings_trans a.words.now p.loop-j.words d.new.words i.1 d.ensures.same_settings,
      n,
      omega arith,
      going_stale a.at (pend a.words.now a.times.now a.list.now a.blocks.now) (pend p.loop-j.words p.loop-j.times p.loop-j.list a.blocks.now) a.l p.loop-j.j (ln0 p) i.4
          (pend d.new.words d.new.times d.new.list a.blocks.now) d.ensures.pending (omega (arith, lng p))
          (ap (fresh_t a.at) (tm p c.loop-j-test.true ∙ sym c.place_at-q.ensures.time_read) ∙ sym c.fresh.ensures ∙ c.if-fresh.false),
    )

pub returns : goal.returns
returns c =
    let p = (goal.at.returns c).At-loop-j in
    let i = p.loop-j.invariant in
    let a = c.args in
    record {
      stays_sound = i.0;
      pending = going_end a.at (pend a.words.now a.times.now a.list.now a.blocks.now) (pend p.loop-j.words p.loop-j.times p.loop-j.list a.blocks.now) a.l p.loop-j.j (ln0 p) i.4 (omega (arith, lng p));
      same_settings = i.1;
    }
