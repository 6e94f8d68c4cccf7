use Prim.Native.Nat.{ℕ, ◌+◌, ◌*◌, ◌≤◌, ◌<◌}
use mathlib.Core.Path.{◌≡◌, refl, sym, ap, ◌∙◌}
use mathlib.Core.Bool.{Bool, true, false}
use mathlib.Core.List.{[]}
use native.Mathlib.Omega.{arith}
use borrow.Author.Tests.{eqb-true, eqb-false}
use lib.ListN.{length, get_or}
use lib.Dec.{eqb}
use Rattle.tables.specs.Tables.{units}
use Rattle.pool.specs.View.{pend, key_is, blank}
use Rattle.pool.proofs.Good.{Good, good}
use Rattle.pool.proofs.Near.{Near, near}
use Rattle.pool.proofs.Keys.{key_of, key_yes, key_no}
use Rattle.pool.proofs.Expired.{view-long}
use Rattle.pool.proofs.link.find.Goals.{Start}
use Rattle.pool.proofs.link.find.Goals as goal

gd : (c : Start) → Good c.args.words.now c.args.times.now c.args.list.now c.args.home.now c.args.blocks.now
gd c = good c.args.words.now c.args.times.now c.args.list.now c.args.home.now c.args.blocks.now c.requires.is_sound

nr : (c : Start) → Near c.args.words.now c.args.l 0
nr c = near c.args.words.now c.args.l 0 (gd c).tab c.requires.in_range.0 (omega arith)

lng : (c : Start) → length (get_or (pend c.args.words.now c.args.times.now c.args.list.now c.args.blocks.now) c.args.l []) ≡ units c.args.words.now c.args.l
lng c = view-long c.args.words.now c.args.times.now c.args.list.now c.args.blocks.now c.args.l c.requires.in_range.0

none : (c : Start) (j : ℕ) → j ≤ units c.args.words.now c.args.l → ((i : ℕ) → i < j → key_is c.args.words.now (8 * c.args.l + i) c.args.key.now ≡ false)
    → (i : ℕ) → i < j → (get_or (get_or (pend c.args.words.now c.args.times.now c.args.list.now c.args.blocks.now) c.args.l []) i blank).key ≡ c.args.key.now → ⊥
none c j h s i q e =
    key_no c.args.words.now (8 * c.args.l + i) c.args.key.now (s i q)
    (sym (key_of c.args.words.now c.args.times.now c.args.list.now c.args.blocks.now c.args.l i c.requires.in_range.0 (omega arith)) ∙ e)

snoc : (p : ℕ → Bool) (j : ℕ) → ((i : ℕ) → i < j → p i ≡ false) → p j ≡ false → (i : ℕ) → i < j + 1 → p i ≡ false
snoc p j s e i h = go (eqb i j) refl
  where
    go : (b : Bool) → eqb i j ≡ b → p i ≡ false
    go true q = ap p (eqb-true i j q) ∙ e
    go false q = s i (omega (arith, eqb-false i j q))

pub overflow_add-j-end : goal.overflow_add-j-end
overflow_add-j-end c = omega (arith, nr (goal.at.overflow_add-j-end c).Start)

pub offset_bounds-words-l : goal.offset_bounds-words-l
offset_bounds-words-l c = omega (arith, nr (goal.at.offset_bounds-words-l c).Start)

pub bounds-words-l : goal.bounds-words-l
bounds-words-l c = omega (arith, nr (goal.at.bounds-words-l c).Start)

pub loop-j-init : goal.loop-j-init
loop-j-init c = λ i h. absurd (omega arith)

pub overflow_add-l : goal.overflow_add-l
overflow_add-l c = omega (arith, nr (goal.at.overflow_add-l c).Start)

pub key_at-requires : goal.key_at-requires
key_at-requires c = omega (arith, nr (goal.at.key_at-requires c).Start, c.requires.in_range)

pub returns-then-key_at : goal.returns-then-key_at
returns-then-key_at c =
    let a = c.args in
    let j = c.loop-j.j in
    let s = (goal.at.returns-then-key_at c).Start in (
      omega (arith, lng s),
      record {
        within = omega (arith, lng s);
        first = none s j (omega arith) c.loop-j.invariant;
        has = λ h. key_of a.words.now a.times.now a.list.now a.blocks.now a.l j c.requires.in_range.0 (omega arith) ∙ key_yes a.words.now (8 * a.l + j) a.key.now c.requires.in_range.1 (sym c.key_at.ensures ∙ c.if-key_at.true);
      },
    )

pub loop-j-preserved : goal.loop-j-preserved
loop-j-preserved c =
    let a = c.args in
    snoc (λ i. key_is a.words.now (8 * a.l + i) a.key.now) c.loop-j.j c.loop-j.invariant (sym c.key_at.ensures ∙ c.if-key_at.false)

pub returns : goal.returns
returns c =
    let a = c.args in
    let s = (goal.at.returns c).Start in
    record {
      within = omega arith;
      first = λ i h. none s (units a.words.now a.l) (omega arith) (λ i h. c.loop-j.invariant i (omega arith)) i (omega (arith, lng s));
      has = λ h. absurd (omega arith);
    }
