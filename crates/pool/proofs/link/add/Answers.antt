use Prim.Native.Nat.{ℕ, ◌+◌, ◌*◌}
use mathlib.Core.Path.{◌≡◌, sym, ap, ap₂, ◌∙◌, subst}
use mathlib.Core.List.{List}
use native.Mathlib.Omega.{arith}
use lib.Ieee.{Float}
use lib.ListN.{set}
use Rattle.octets.specs.Emit.{put}
use Rattle.tables.specs.Tables.{units}
use Rattle.pool.specs.View.{pend, sound, place_words, SameSettings}
use Rattle.pool.proofs.Good.{Good, good, good_of}
use Rattle.pool.proofs.Near.{Near, near}
use Rattle.pool.proofs.Places.{added_words}
use Rattle.pool.proofs.Added.{add-settings, added-good, added-pend, units-now}
use Rattle.pool.proofs.link.add.Goals.{Start}
use Rattle.pool.proofs.link.add.Goals as goal

gd : (c : Start) → Good c.args.words.now c.args.times.now c.args.list.now c.args.home.now c.args.blocks.now
gd c = good c.args.words.now c.args.times.now c.args.list.now c.args.home.now c.args.blocks.now c.requires.is_sound

nr : (c : Start) → Near c.args.words.now c.args.l 0
nr c = near c.args.words.now c.args.l 0 (gd c).tab c.requires.in_range.0 (omega arith)

pub overflow_add-u : goal.overflow_add-u
overflow_add-u c = omega (arith, nr (goal.at.overflow_add-u c).Start, c.requires.in_range)

pub offset_bounds-words-l : goal.offset_bounds-words-l
offset_bounds-words-l c = omega (arith, nr (goal.at.offset_bounds-words-l c).Start, c.requires.in_range)

pub bounds-words-l : goal.bounds-words-l
bounds-words-l c = omega (arith, nr (goal.at.bounds-words-l c).Start, c.requires.in_range)

pub overflow_mul-l : goal.overflow_mul-l
overflow_mul-l c = omega (arith, nr (goal.at.overflow_mul-l c).Start, c.requires.in_range)

pub overflow_add-l : goal.overflow_add-l
overflow_add-l c = omega (arith, nr (goal.at.overflow_add-l c).Start, c.requires.in_range)

pub set_place-requires : goal.set_place-requires
set_place-requires c =
    omega (arith, nr (goal.at.set_place-requires c).Start, c.requires.in_range, (gd (goal.at.set_place-requires c).Start).places)

pub overflow_add-words-2 : goal.overflow_add-words-2
overflow_add-words-2 c = omega (arith, nr (goal.at.overflow_add-words-2 c).Start, c.requires.in_range)

pub offset_bounds-words-l-2 : goal.offset_bounds-words-l-2
offset_bounds-words-l-2 c = omega (arith, nr (goal.at.offset_bounds-words-l-2 c).Start, c.requires.in_range)

pub bounds-words-l-2 : goal.bounds-words-l-2
bounds-words-l-2 c = omega (arith, nr (goal.at.bounds-words-l-2 c).Start, c.requires.in_range, c.set_place.auto.words)

pub returns : goal.returns
returns c =
    let s = c in let a = s.args in
    let w = a.words.now in
    let tm = a.times.now in
    let g = gd (goal.at.returns c).Start in
    let h = s.requires.in_range in
    let free = s.requires.found in
    let q = c.empty_place.ensures in
    let v : c.set_place.new.words ≡ put w (40 + 12 * (8 * a.l + units w a.l)) (place_words a.key.now a.note) = added_words w _ a.key.now _ (8 * a.l + units w a.l) a.note _ _ _ _ _ q.key_given q.note_given.0 q.note_given.1 q.note_given.2 q.note_given.3 q.note_given.4 c.set_place.ensures.words_put in
    let e = ap (λ (x : List ℕ). set x (24 + a.l) (units w a.l + 1)) v in
    let f : c.set_place.new.times ≡ set tm (8 * a.l + units w a.l) a.at = c.set_place.ensures.time_set ∙ ap (set tm (8 * a.l + units w a.l)) q.time_given in record {
      stays_sound = ap₂ (λ (x : List ℕ) (y : List Float). sound x y a.list.now a.home.now a.blocks.now) e f
          ∙ good_of _ _ _ _ _ (added-good w tm a.list.now a.home.now a.blocks.now a.l a.key.now a.note a.at g h.0 h.1 h.2 free);
      pending = ap₂ (λ (x : List ℕ) (y : List Float). pend x y a.list.now a.blocks.now) e f
          ∙ added-pend w tm a.list.now a.home.now a.blocks.now a.l a.key.now a.note a.at g h.0 h.1 h.2 free;
      same_settings = subst (λ (x : List ℕ). SameSettings w x) (sym e) (add-settings w tm a.l a.key.now a.note a.at g.tab g.places h.0 h.1 h.2);
      counted = ap (λ (x : List ℕ). units x a.l) e ∙ units-now w tm a.list.now a.home.now a.blocks.now a.l a.key.now a.note a.at g h.0 h.1 h.2 free;
    }
