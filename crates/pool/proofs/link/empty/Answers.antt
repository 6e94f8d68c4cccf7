use Prim.Native.Nat.{◌-◌, ◌<◌}
use mathlib.Core.Path.{◌≡◌, refl}
use mathlib.Core.List.{[]}
use native.Mathlib.Omega.{arith}
use lib.ListN.{length, get_or}
use Rattle.tables.specs.Tables.{links, units}
use Rattle.pool.specs.View.{pend}
use Rattle.pool.proofs.Good.{good}
use Rattle.pool.proofs.Near.{Near, near}
use Rattle.pool.proofs.Expired.{pend-long, view-long, settings-refl, settings_trans}
use Rattle.pool.proofs.Closed.{only-start, only-less, only_none}
use Rattle.pool.proofs.link.empty.Goals.{Start}
use Rattle.pool.proofs.link.empty.Goals as goal

st-near : (c : Start) → Near c.args.words.now c.args.l 0
st-near c =
    near c.args.words.now c.args.l 0 (good c.args.words.now c.args.times.now c.args.list.now c.args.home.now c.args.blocks.now c.requires.is_sound).tab c.requires.in_range (omega arith)

pub overflow_add-u : goal.overflow_add-u
overflow_add-u c = omega (arith, st-near (goal.at.overflow_add-u c).Start)

pub offset_bounds-words-l : goal.offset_bounds-words-l
offset_bounds-words-l c = omega (arith, st-near (goal.at.offset_bounds-words-l c).Start)

pub bounds-words-l : goal.bounds-words-l
bounds-words-l c = omega (arith, st-near (goal.at.bounds-words-l c).Start)

pub loop-u-init : goal.loop-u-init
loop-u-init c =
    let a = c.args in
    (c.requires.is_sound, settings-refl a.words.now, refl, only-start (pend a.words.now a.times.now a.list.now a.blocks.now) a.l)

pub remove-requires : goal.remove-requires
remove-requires c =
    let p = c in record {
      is_sound = p.loop-u.invariant.0;
      in_range = (omega (arith, c.requires.in_range, p.loop-u.invariant.1.on-links), omega (arith, p.loop-u.invariant.2));
    }

pub loop-u-preserved : goal.loop-u-preserved
loop-u-preserved c =
    let p = c in let i = p.loop-u.invariant in
    let a = c.args in
    let d = c.remove in
    let st₀ = pend a.words.now a.times.now a.list.now a.blocks.now in
    let hl : a.l < length st₀ = omega (arith, c.requires.in_range, pend-long a.words.now a.times.now a.list.now a.blocks.now) in
    let e : units d.new.words a.l ≡ units p.loop-u.words a.l - 1 = d.ensures.counted in
    let n : p.loop-u.u - 1 ≡ units d.new.words a.l = omega (arith, i.2, e) in (
      d.ensures.stays_sound,
      settings_trans a.words.now p.loop-u.words d.new.words i.1 d.ensures.same_settings,
      n,
      only-less st₀ (pend p.loop-u.words p.loop-u.times p.loop-u.list a.blocks.now) a.l hl i.3 (pend d.new.words d.new.times d.new.list a.blocks.now) (p.loop-u.u - 1) d.ensures.pending,
    )

pub returns : goal.returns
returns c =
    let p = c in let i = p.loop-u.invariant in
    let a = c.args in
    let st₀ = pend a.words.now a.times.now a.list.now a.blocks.now in
    let hl : a.l < length st₀ = omega (arith, c.requires.in_range, pend-long a.words.now a.times.now a.list.now a.blocks.now) in
    let lk : a.l < links p.loop-u.words = omega (arith, c.requires.in_range, i.1.on-links) in
    let z : length (get_or (pend p.loop-u.words p.loop-u.times p.loop-u.list a.blocks.now) a.l []) ≡ 0 = omega (arith, view-long p.loop-u.words p.loop-u.times p.loop-u.list a.blocks.now a.l lk, i.2) in
    record {
      stays_sound = i.0;
      pending = only_none st₀ (pend p.loop-u.words p.loop-u.times p.loop-u.list a.blocks.now) a.l hl i.3 z;
      same_settings = i.1;
    }
