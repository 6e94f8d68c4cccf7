use Rattle.std.proofs.Common.{rules, ◌≡◌, ◌+◌, ◌≤◌, ◌<◌, sym, ◌∙◌, ap, refl, arith, false, ℕ, Option, Some, None, length}
use Rattle.octets.proofs.Emits.{nothing}
use Rattle.cells.specs.Items.{Items, none, group, in_list, flat, ◌⊕◌}
use Rattle.cells.specs.Walk.{Step, step_of, items_from}
use Rattle.cells.specs.declared.entry.Body.{Body}
use Rattle.cells.proofs.Rows.{around, flat-none}
use Rattle.cells.proofs.Walks.{turn, done, over}
use Rattle.cells.proofs.walk.put_list.Goals as goal

pub returns-then-len-from : goal.returns-then-len-from
returns-then-len-from g c =
    let e = g.E.Entries in
    let s = c.args.e.now in
    rw (over (λ i. step_of (e.items s i) (e.body s i)) (λ n. none) ◌⊕◌ (e.size s) c.args.from (omega (arith, c.if-len-from.true, c.len.ensures)), flat-none)
    (nothing _ _ (search rules) (search rules))

pub returns-in_default : goal.returns-in_default
returns-in_default g c =
    let e = g.E.Entries in
    let s = c.args.e.now in
    let empty : e.body s c.args.from ≡ None = sym c.body_at.ensures.value ∙ c.in_default.is in
    rw (done (λ i. step_of (e.items s i) (e.body s i)) (λ n. none) ◌⊕◌ (e.size s) c.args.from (omega (arith, c.if-len-from.false, c.len.ensures)) (ap (step_of (e.items s c.args.from)) empty), flat-none)
    (nothing _ _ (search rules) (search rules))

pub returns : goal.returns
returns g c =
    let e = g.E.Entries in
    let s = c.args.e.now in
    let b = c.in-Some.field-0 in
    let f : ℕ → Step Items = λ i. step_of (e.items s i) (e.body s i) in
    let some : e.body s c.args.from ≡ Some b = sym c.body_at.ensures.value ∙ c.in-Some.is in
    let split : items_from f (e.size s) c.args.from ≡ e.items s c.args.from b.start b.len ⊕ items_from f (e.size s) (b.start + b.len) =
    turn f (λ n. none) ◌⊕◌ (e.size s) c.args.from (b.start + b.len) (e.items s c.args.from b.start b.len)
    (omega (arith, c.if-len-from.false, c.len.ensures)) (rw c.in-Some.is at c.body_at.ensures.within).0 (ap (step_of (e.items s c.args.from)) some) in
    let opens : in_list c.args.field (items_from f (e.size s) c.args.from) ≡ group false c.args.field (items_from f (e.size s) c.args.from) none =
    rw split (g.met.E.Entries.listed s c.args.from b.start b.len c.args.field (items_from f (e.size s) (b.start + b.len))) in
    rw opens
    (around (e.depth s) false c.args.field (items_from f (e.size s) c.args.from) (rw c.level.ensures.0 at c.open_list-opened.ensures) c.put_entries-shown.ensures
    (rw c.level-2.ensures.0 at c.close_group.ensures))
