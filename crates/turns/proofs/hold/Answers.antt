use Prim.Native.Nat.{ℕ}
use mathlib.Core.Path.{◌≡◌, ap, ◌∙◌, subst}
use mathlib.Core.Bool.{cond}
use mathlib.Core.List.{List, []}
use native.Mathlib.Omega.{arith}
use lib.Dec.{eqb}
use lib.ListN.{length, get_or, set}
use Rattle.tables.specs.Tables.{links, blocks_in, reserve, cap, units}
use Rattle.pool.specs.View.{Unit, pend, Found, answer}
use Rattle.pool.specs.Shares.{room_for}
use Rattle.pool.proofs.Expired.{view-long}
use Rattle.turns.proofs.Holding.{new-any}
use Rattle.turns.proofs.hold.Goals.{Start}
use Rattle.turns.proofs.hold.Goals as goal

module _ (s : Start) where
  abbrev w : List ℕ
  w = s.args.words.now

  abbrev st : List (List Unit)
  st = pend w s.args.times.now s.args.list.now s.args.blocks.now

  abbrev us : List Unit
  us = get_or st s.args.l []

  many : length us ≡ units w s.args.l
  many = view-long w s.args.times.now s.args.list.now s.args.blocks.now s.args.l s.requires.in_range.0

pub hold_more-requires-clause-in_range : goal.hold_more-requires-clause-in_range
hold_more-requires-clause-in_range c =
    let s = (goal.at.hold_more-requires-clause-in_range c).Start in
    let f = rw c.in-Some.is at c.requires.found in
    (c.requires.in_range.0, omega (arith, many s, f.0), c.requires.in_range.2)

pub hold_new-requires-clause-found : goal.hold_new-requires-clause-found
hold_new-requires-clause-found c =
    let s = (goal.at.hold_new-requires-clause-found c).Start in
    let f = rw c.in-None.is at c.requires.found in
    subst (Found (us s) c.args.key.now) (many s) f

pub returns-in-None-clause-judged : goal.returns-in-None-clause-judged
returns-in-None-clause-judged c =
    let s = (goal.at.returns-in-None-clause-judged c).Start in
    let a = c.args in
    let e = new-any (us s) a.key.now a.note a.at a.piece.now a.keep (length (us s)) (units (w s) a.l) (many s) (many s) in
    rw c.in-None.is (c.hold_new.ensures.judged ∙ ap (room_for (links (w s)) (blocks_in (w s)) (reserve (w s)) (cap (w s)) (st s) a.l) e)

pub returns-in-None-clause-pending : goal.returns-in-None-clause-pending
returns-in-None-clause-pending c =
    let s = (goal.at.returns-in-None-clause-pending c).Start in
    let a = c.args in
    let e = new-any (us s) a.key.now a.note a.at a.piece.now a.keep (length (us s)) (units (w s) a.l) (many s) (many s) in
    rw c.in-None.is (c.hold_new.ensures.pending ∙ ap (λ (v : List Unit). cond (eqb (answer c.hold_new.result) 2) (set (st s) a.l v) (st s)) e)
