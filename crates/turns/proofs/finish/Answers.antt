use Prim.Native.Nat.{ℕ, ◌<◌}
use mathlib.Core.Path.{◌≡◌, refl, sym, ap, ◌∙◌}
use mathlib.Core.Bool.{cond}
use mathlib.Core.List.{List, []}
use native.Mathlib.Omega.{arith}
use lib.ListN.{length, get_or}
use lib.Seq.{take-length}
use Rattle.octets.specs.Emit.{put}
use Rattle.tables.specs.Tables.{units}
use Rattle.pool.specs.View.{Unit, blank, pend}
use Rattle.octets.proofs.Put.{put_nil}
use Rattle.pool.proofs.Good.{Good, good}
use Rattle.pool.proofs.Read.{part-long}
use Rattle.pool.proofs.Expired.{view-long}
use Rattle.turns.proofs.Ended.{both, none-kept, put-none, removed-past}
use Rattle.turns.proofs.finish.Goals.{In-Some, in-Some, in_default, then-keep, else-keep}
use Rattle.turns.proofs.finish.Goals as goal

gd : (c : In-Some) → Good c.args.words.now c.args.times.now c.args.list.now c.args.home.now c.args.blocks.now
gd c = good c.args.words.now c.args.times.now c.args.list.now c.args.home.now c.args.blocks.now c.requires.is_sound

here : (c : In-Some) → c.in-Some.j < units c.args.words.now c.args.l
here c = rw c.in-Some.is at c.requires.in_range.1

pub read-requires-clause-in_range : goal.read-requires-clause-in_range
read-requires-clause-in_range c =
    let s = (goal.at.read-requires-clause-in_range c).In-Some in
    let a = c.args in
    let long = part-long a.words.now a.times.now a.list.now a.home.now a.blocks.now a.l c.in-Some.j 0 (gd s) c.requires.in_range.0 (here s) (omega arith) in
    let d = rw (c.if-keep.true, c.in-Some.is) at c.kept-d.ensures.0 in
    (c.requires.in_range.0, here s, omega arith, omega (arith, long, d))

pub returns-clause-finished : goal.returns-clause-finished
returns-clause-finished c =
    let a = c.args in
    let us : List Unit = get_or (pend a.words.now a.times.now a.list.now a.blocks.now) a.l [] in
    elim c.match-j.branch [
      | in-Some w ↦
          let body = (get_or us w.in-Some.j blank).body in
          rw w.in-Some.is (both a.out.now (cond a.keep body []) a.piece.now c.kept-d.result (rw w.in-Some.is at c.kept-d.ensures.0) c.match-j.out c.copy.new.dst
          (w.out-is ∙ (elim w.if-keep.branch [
            | then-keep v ↦ v.out-is ∙ v.read.ensures.copied ∙ rw v.if-keep.true refl
            | else-keep v ↦ v.out-is ∙ rw v.if-keep.false (sym (put_nil a.out.now 0))
          ])) c.copy.ensures)
      | in_default w ↦
          let kept = cond a.keep (get_or us (length us) blank).body [] in
          rw w.in_default.is (both a.out.now kept a.piece.now c.kept-d.result (rw w.in_default.is at c.kept-d.ensures.0) c.match-j.out c.copy.new.dst
          (w.out-is ∙ put-none a.out.now kept (none-kept a.keep us)) c.copy.ensures)
    ]

pub returns-clause-pending : goal.returns-clause-pending
returns-clause-pending c =
    let a = c.args in
    let many = view-long a.words.now a.times.now a.list.now a.blocks.now a.l c.requires.in_range.0 in
    elim c.match-j.branch [
      | in-Some w ↦ rw (w.in-Some.is, w.words-is, w.times-is, w.list-is) w.remove.ensures.pending
      | in_default w ↦ rw (w.in_default.is, w.words-is, w.times-is, w.list-is) (removed-past a.words.now a.times.now a.list.now a.blocks.now a.l _ c.requires.in_range.0 (omega (arith, many)))
    ]
