use Prim.Native.Nat.{ℕ, ◌+◌, ◌*◌, ◌<◌}
use mathlib.Core.Path.{◌≡◌, sym, ap, ◌∙◌, subst}
use mathlib.Core.Bool.{true}
use mathlib.Core.List.{List, []}
use native.Mathlib.Omega.{arith}
use lib.ListN.{length, get_or, set}
use Rattle.model.specs.Cost.{blocks}
use Rattle.tables.specs.Tables.{links, units, word}
use Rattle.tables.proofs.Laws.{tables_of}
use Rattle.pool.specs.View.{answer, Unit, pend, spliced, Room}
use Rattle.pool.proofs.Good.{Good, good}
use Rattle.pool.proofs.Near.{Near, near}
use Rattle.pool.proofs.Expired.{pend-long, view-long, settings_trans}
use Rattle.pool.proofs.Refused.{room_of}
use Rattle.turns.specs.Turns.{held}
use Rattle.turns.proofs.Holding.{handed, new-held, new-room, new-fits}
use Rattle.turns.proofs.hold_new.Goals.{Start}
use Rattle.turns.proofs.hold_new.Goals as goal

module _ (s : Start) where
  abbrev w : List ℕ
  w = s.args.words.now

  abbrev st : List (List Unit)
  st = pend w s.args.times.now s.args.list.now s.args.blocks.now

  abbrev us : List Unit
  us = get_or st s.args.l []

  -- the units if it is held
  abbrev after : List (List Unit)
  after = set st s.args.l (held us (units w s.args.l) s.args.key.now true s.args.note s.args.at s.args.piece.now)

  gd : Good w s.args.times.now s.args.list.now s.args.home.now s.args.blocks.now
  gd = good w s.args.times.now s.args.list.now s.args.home.now s.args.blocks.now s.requires.is_sound

  nr : Near w s.args.l 0
  nr = near w s.args.l 0 gd.tab s.requires.in_range.0 (omega arith)

  there : s.args.l < length st
  there = omega (arith, s.requires.in_range, pend-long w s.args.times.now s.args.list.now s.args.blocks.now)

  many : length us ≡ units w s.args.l
  many = view-long w s.args.times.now s.args.list.now s.args.blocks.now s.args.l s.requires.in_range.0

pub overflow_add-u : goal.overflow_add-u
overflow_add-u c = omega (arith, nr (goal.at.overflow_add-u c).Start)

pub offset_bounds-words-l : goal.offset_bounds-words-l
offset_bounds-words-l c = omega (arith, nr (goal.at.offset_bounds-words-l c).Start)

pub bounds-words-l : goal.bounds-words-l
bounds-words-l c = omega (arith, nr (goal.at.bounds-words-l c).Start)

pub room-requires : goal.room-requires
room-requires c =
    let s = (goal.at.room-requires c).Start in
    (tables_of (w s) (gd s).tab, s.requires.in_range.0, omega arith, omega arith, omega (arith, s.requires.in_range))

pub add-requires : goal.add-requires
add-requires c =
    let s = (goal.at.add-requires c).Start in
    record {
      is_sound = s.requires.is_sound;
      in_range = (s.requires.in_range.0, omega (arith, (room_of (w s) s.args.l 1 0 (blocks (length s.args.piece.now)) (omega arith) (sym c.room.ensures ∙ ap answer c.in_ok-room.was)).0), s.requires.in_range.1);
      found = s.requires.found;
    }

pub splice-requires : goal.splice-requires
splice-requires c =
    let s = (goal.at.splice-requires c).Start in
    let a = c.add in
    let z : length s.args.piece.now ≡ 0 + length s.args.piece.now = omega arith in
    let hl : s.args.l < links a.new.words = omega (arith, s.requires.in_range.0, a.ensures.same_settings.on-links) in
    record {
      is_sound = a.ensures.stays_sound;
      in_range = (hl, omega (arith, a.ensures.counted), omega arith, omega arith, s.requires.in_range.2);
      room = subst (λ (n : ℕ). Room a.new.words s.args.l (word a.new.words (8 * s.args.l + units (w s) s.args.l) 9) (blocks n)) z (new-fits (w s) s.args.times.now s.args.list.now s.args.home.now s.args.blocks.now s.requires.is_sound s.args.l s.requires.in_range.0 s.args.key.now s.args.note s.args.at s.args.piece.now a.new.words a.new.times a.ensures.stays_sound a.ensures.pending a.ensures.same_settings (sym c.room.ensures ∙ ap answer c.in_ok-room.was));
    }

pub returns : goal.returns
returns c =
    let s = (goal.at.returns c).Start in
    let p = c.splice in
    let a = c.add in record {
      judged = sym (ap answer c.in_ok-room.was) ∙ c.room.ensures ∙ new-room (w s) s.args.times.now s.args.list.now s.args.home.now s.args.blocks.now s.requires.is_sound s.args.l s.requires.in_range.0 s.args.key.now s.args.note s.args.at s.args.piece.now;
      stays_sound = p.ensures.stays_sound;
      pending = p.ensures.pending
          ∙ ap (λ (x : List (List Unit)). spliced x s.args.l (units (w s) s.args.l) 0 0 s.args.piece.now) a.ensures.pending
          ∙ new-held (st s) s.args.l (there s) s.args.note s.args.at s.args.piece.now s.args.key.now (units (w s) s.args.l) (many s);
      same_settings = settings_trans (w s) a.new.words p.new.words a.ensures.same_settings p.ensures.same_settings;
    }

pub returns-in_err-room-clause-judged : goal.returns-in_err-room-clause-judged
returns-in_err-room-clause-judged c =
    let s = (goal.at.returns-in_err-room-clause-judged c).Start in
    handed c.from_residual.result c.in_err-room.field-0.0 _ (λ e p. p) c.from_residual.ensures ∙ sym (ap answer c.in_err-room.was) ∙ c.room.ensures ∙ new-room (w s) s.args.times.now s.args.list.now s.args.home.now s.args.blocks.now s.requires.is_sound s.args.l s.requires.in_range.0 s.args.key.now s.args.note s.args.at s.args.piece.now
