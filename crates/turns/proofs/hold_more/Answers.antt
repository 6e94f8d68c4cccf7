use Prim.Native.Nat.{ℕ, ◌+◌, ◌*◌, ◌<◌}
use mathlib.Core.Path.{◌≡◌, sym, ap, ◌∙◌}
use mathlib.Core.List.{List, []}
use native.Mathlib.Omega.{arith}
use lib.ListN.{length, get_or, set}
use Rattle.model.specs.Cost.{blocks}
use Rattle.tables.specs.Tables.{links, units, word}
use Rattle.tables.proofs.Laws.{tables_of}
use Rattle.pool.specs.View.{answer, Unit, blank, pend, marked}
use Rattle.pool.proofs.Good.{Good, good}
use Rattle.pool.proofs.Near.{Ready, ready}
use Rattle.pool.proofs.Read.{part-long}
use Rattle.pool.proofs.Expired.{pend-long, view-long, settings_trans}
use Rattle.pool.proofs.Refused.{room_of}
use Rattle.turns.specs.Turns.{held}
use Rattle.turns.proofs.Holding.{handed, more-held, still-many, kept_low, more_room}
use Rattle.turns.proofs.hold_more.Goals.{Start}
use Rattle.turns.proofs.hold_more.Goals as goal

module _ (s : Start) where
  abbrev w : List ℕ
  w = s.args.words.now

  abbrev st : List (List Unit)
  st = pend w s.args.times.now s.args.list.now s.args.blocks.now

  abbrev us : List Unit
  us = get_or st s.args.l []

  -- the units if it is held
  abbrev after : List (List Unit)
  after = set st s.args.l (held us s.args.j (get_or us s.args.j blank).key s.args.keep s.args.note s.args.at s.args.piece.now)

  gd : Good w s.args.times.now s.args.list.now s.args.home.now s.args.blocks.now
  gd = good w s.args.times.now s.args.list.now s.args.home.now s.args.blocks.now s.requires.is_sound

  rd : Ready w s.args.l s.args.j 0
  rd = ready w s.args.l s.args.j 0 gd.tab s.requires.in_range.0 s.requires.in_range.1 (omega arith)

  there : s.args.l < length st
  there = omega (arith, s.requires.in_range.0, pend-long w s.args.times.now s.args.list.now s.args.blocks.now)

  many : length us ≡ units w s.args.l
  many = view-long w s.args.times.now s.args.list.now s.args.blocks.now s.args.l s.requires.in_range.0

  long : length (get_or us s.args.j blank).body ≡ word w (8 * s.args.l + s.args.j) 7
  long = part-long w s.args.times.now s.args.list.now s.args.home.now s.args.blocks.now s.args.l s.args.j 0 gd s.requires.in_range.0 s.requires.in_range.1 (omega arith)

pub overflow_mul-k : goal.overflow_mul-k
overflow_mul-k c = omega (arith, rd (goal.at.overflow_mul-k c).Start)

pub overflow_add-k : goal.overflow_add-k
overflow_add-k c = omega (arith, rd (goal.at.overflow_add-k c).Start)

pub overflow_mul-k-2 : goal.overflow_mul-k-2
overflow_mul-k-2 c = omega (arith, rd (goal.at.overflow_mul-k-2 c).Start)

pub overflow_add-k-2 : goal.overflow_add-k-2
overflow_add-k-2 c = omega (arith, rd (goal.at.overflow_add-k-2 c).Start)

pub overflow_add-k-3 : goal.overflow_add-k-3
overflow_add-k-3 c = omega (arith, rd (goal.at.overflow_add-k-3 c).Start)

pub offset_bounds-words-l : goal.offset_bounds-words-l
offset_bounds-words-l c = omega (arith, rd (goal.at.offset_bounds-words-l c).Start)

pub bounds-words-l : goal.bounds-words-l
bounds-words-l c = omega (arith, rd (goal.at.bounds-words-l c).Start)

pub room-requires : goal.room-requires
room-requires c =
    let s = (goal.at.room-requires c).Start in
    (tables_of (w s) (gd s).tab, s.requires.in_range.0, omega arith, (rd s).counted, omega (arith, c.kept-d.ensures.1, s.requires.in_range.2))

pub splice-requires : goal.splice-requires
splice-requires c =
    let s = (goal.at.splice-requires c).Start in
    let d = c.kept-d in
    record {
      is_sound = s.requires.is_sound;
      in_range = (s.requires.in_range.0, s.requires.in_range.1, omega arith, omega (arith, d.ensures.0, kept_low s.args.keep (get_or (us s) s.args.j blank).body, long s), s.requires.in_range.2);
      room = (room_of (w s) s.args.l 0 (word (w s) (8 * s.args.l + s.args.j) 9) (blocks (d.result + length s.args.piece.now)) (rd s).counted (sym c.room.ensures ∙ ap answer c.in_ok-room.was)).1;
    }

pub mark-requires : goal.mark-requires
mark-requires c =
    let s = (goal.at.mark-requires c).Start in
    let p = c.splice in
    let hl : s.args.l < links p.new.words = omega (arith, s.requires.in_range.0, p.ensures.same_settings.on-links) in
    let n : units p.new.words s.args.l ≡ units (w s) s.args.l =
    sym (view-long p.new.words s.args.times.now p.new.list p.new.blocks s.args.l hl)
    ∙ ap (λ (x : List (List Unit)). length (get_or x s.args.l [])) p.ensures.pending
    ∙ still-many (st s) s.args.l (there s) s.args.note s.args.at s.args.piece.now s.args.j c.kept-d.result
    ∙ many s in
    record {
      is_sound = p.ensures.stays_sound;
      in_range = (hl, omega (arith, n, s.requires.in_range.1));
    }

pub returns : goal.returns
returns c =
    let s = (goal.at.returns c).Start in
    let p = c.splice in
    let m = c.mark in
    let d = c.kept-d in
    let hj : s.args.j < length (us s) = omega (arith, many s, s.requires.in_range.1) in record {
      judged = sym (ap answer c.in_ok-room.was) ∙ c.room.ensures ∙ more_room (w s) s.args.times.now s.args.list.now s.args.home.now s.args.blocks.now s.requires.is_sound s.args.l s.requires.in_range.0 (get_or (us s) s.args.j blank).key s.args.note s.args.at s.args.piece.now s.args.j d.result s.args.keep s.requires.in_range.1 d.ensures.0;
      stays_sound = m.ensures.stays_sound;
      pending = m.ensures.pending
          ∙ ap (λ (x : List (List Unit)). marked x s.args.l s.args.j s.args.note s.args.at) p.ensures.pending
          ∙ more-held (st s) s.args.l (there s) s.args.note s.args.at s.args.piece.now s.args.j d.result s.args.keep hj d.ensures.0;
      same_settings = settings_trans (w s) p.new.words m.new.words p.ensures.same_settings m.ensures.same_settings;
    }

pub returns-in_err-room-clause-judged : goal.returns-in_err-room-clause-judged
returns-in_err-room-clause-judged c =
    let s = (goal.at.returns-in_err-room-clause-judged c).Start in
    let d = c.kept-d in
    handed c.from_residual.result c.in_err-room.field-0.0 _ (λ e p. p) c.from_residual.ensures ∙ sym (ap answer c.in_err-room.was) ∙ c.room.ensures ∙ more_room (w s) s.args.times.now s.args.list.now s.args.home.now s.args.blocks.now s.requires.is_sound s.args.l s.requires.in_range.0 (get_or (us s) s.args.j blank).key s.args.note s.args.at s.args.piece.now s.args.j d.result s.args.keep s.requires.in_range.1 d.ensures.0
