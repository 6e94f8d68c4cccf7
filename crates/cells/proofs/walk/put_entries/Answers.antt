use Rattle.std.proofs.Common.{rules, ◌≡◌, ◌+◌, ◌-◌, ◌≤◌, ◌<◌, sym, ◌∙◌, ap, refl, arith, ℕ, Option, Some, None, [], ◌++◌}
use Rattle.octets.proofs.Emits.{onward, finish, same_size}
use Rattle.cells.specs.Items.{Items, flat}
use Rattle.cells.specs.Walk.{Step, step_of, left_from}
use Rattle.cells.specs.declared.entry.Body.{Body}
use Rattle.cells.proofs.Walks.{turn, done, over, flat_walk}
use Rattle.cells.proofs.walk.put_entries.Goals as goal

pub loop-i-init : goal.loop-i-init
loop-i-init g c = (refl, search rules, λ p n e. e, refl)

pub returns-in_default : goal.returns-in_default
returns-in_default g c =
    let e = g.E.Entries in
    let s = c.args.e.now in
    let none : e.body s c.loop-i.i ≡ None = sym c.body_at.ensures.value ∙ c.in_default.is in
    rw flat_walk
    (finish c.loop-i.invariant.2
    (done (λ i. step_of (e.items s i) (e.body s i)) (λ n. []) (λ x r. flat (e.depth s + 1) x ++ r) (e.size s) c.loop-i.i
    (omega (arith, c.loop-i-test.true, c.len.ensures)) (ap (step_of (e.items s c.loop-i.i)) none))
    (search rules) (search rules))

pub loop-i-preserved : goal.loop-i-preserved
loop-i-preserved g c =
    let e = g.E.Entries in
    let s = c.args.e.now in
    let i = c.loop-i.i in
    let b = c.in-Some.b in
    let f : ℕ → Step Items = λ i. step_of (e.items s i) (e.body s i) in
    let some : e.body s i ≡ Some b = sym c.body_at.ensures.value ∙ c.in-Some.is in
    let h : i < e.size s = omega (arith, c.loop-i-test.true, c.len.ensures) in
    let w = rw c.in-Some.is at c.body_at.ensures.within in
    let put = c.put_entry-next.ensures in (
      same_size put ∙ c.loop-i.invariant.0,
      search rules,
      onward c.loop-i.invariant.2 put (turn f (λ n. []) (λ x r. flat (e.depth s + 1) x ++ r) (e.size s) i (b.start + b.len) _ h w.0 (ap (step_of (e.items s i)) some)),
      c.loop-i.invariant.3 ∙ turn f (λ n. n) (λ x r. r) (e.size s) i (b.start + b.len) (e.items s i b.start b.len) h w.0 (ap (step_of (e.items s i)) some),
    )

pub returns : goal.returns
returns g c =
    let e = g.E.Entries in
    let s = c.args.e.now in
    rw flat_walk
    (finish c.loop-i.invariant.2
    (over (λ i. step_of (e.items s i) (e.body s i)) (λ n. []) (λ x r. flat (e.depth s + 1) x ++ r) (e.size s) c.loop-i.i (omega (arith, c.loop-i-test.false, c.len.ensures)))
    (search rules) (search rules))
