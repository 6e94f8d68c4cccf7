use Prim.Native.Nat.{ℕ, ◌+◌, ◌*◌}
use mathlib.Core.Path.{◌≡◌, sym, ap₂, ◌∙◌, subst}
use mathlib.Core.List.{List}
use native.Mathlib.Omega.{arith}
use lib.Ieee.{Float}
use lib.ListN.{set}
use Rattle.pool.specs.View.{pend, sound, mark_words, SameSettings}
use Rattle.pool.proofs.Good.{Good, good, good_of}
use Rattle.pool.proofs.Near.{Ready, ready}
use Rattle.pool.proofs.Places.{marked_words}
use Rattle.pool.proofs.Marked.{mark_settings, marked-good, marked-pend}
use Rattle.pool.proofs.unit.mark.Goals.{Start}
use Rattle.pool.proofs.unit.mark.Goals as goal

gd : (c : Start) → Good c.args.words.now c.args.times.now c.args.list.now c.args.home.now c.args.blocks.now
gd c = good c.args.words.now c.args.times.now c.args.list.now c.args.home.now c.args.blocks.now c.requires.is_sound

rd : (c : Start) → Ready c.args.words.now c.args.l c.args.j 0
rd c = ready c.args.words.now c.args.l c.args.j 0 (gd c).tab c.requires.in_range.0 c.requires.in_range.1 (omega arith)

pub overflow_add-l : goal.overflow_add-l
overflow_add-l c = omega (arith, rd (goal.at.overflow_add-l c).Start)

pub place_at-q-requires : goal.place_at-q-requires
place_at-q-requires c = omega (arith, rd (goal.at.place_at-q-requires c).Start, (gd (goal.at.place_at-q-requires c).Start).places)

pub overflow_add-l-2 : goal.overflow_add-l-2
overflow_add-l-2 c = omega (arith, rd (goal.at.overflow_add-l-2 c).Start)

pub set_place-requires : goal.set_place-requires
set_place-requires c = omega (arith, rd (goal.at.set_place-requires c).Start, (gd (goal.at.set_place-requires c).Start).places)

pub returns : goal.returns
returns c =
    let s = c in let a = s.args in
    let w = a.words.now in
    let tm = a.times.now in
    let g = gd (goal.at.returns c).Start in
    let h = s.requires.in_range in
    let q = c.place_at-q.ensures in
    let e : c.set_place.new.words ≡ mark_words w a.l a.j a.note = marked_words w _ _ (8 * a.l + a.j) a.note _ _ _ _ (omega (arith, rd (goal.at.returns c).Start)) q.key_read q.body_read q.top_read q.bodyblocks_read q.topblocks_read c.set_place.ensures.words_put in
    let f : c.set_place.new.times ≡ set tm (8 * a.l + a.j) a.at = c.set_place.ensures.time_set in record {
      stays_sound = ap₂ (λ (x : List ℕ) (y : List Float). sound x y a.list.now a.home.now a.blocks.now) e f
          ∙ good_of _ _ _ _ _ (marked-good w tm a.list.now a.home.now a.blocks.now a.l a.j a.note a.at g h.0 h.1);
      pending = ap₂ (λ (x : List ℕ) (y : List Float). pend x y a.list.now a.blocks.now) e f
          ∙ marked-pend w tm a.list.now a.home.now a.blocks.now a.l a.j a.note a.at g h.0 h.1;
      same_settings = subst (λ (x : List ℕ). SameSettings w x) (sym e) (mark_settings w tm a.l a.j a.note a.at g.tab g.places h.0 h.1);
    }
