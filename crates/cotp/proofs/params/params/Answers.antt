use Rattle.std.proofs.Common.{rules, ◌≡◌, ◌+◌, sym, ◌∙◌, ap, refl, Some, None, [], ◌++◌, length, get_or}
use Rattle.octets.proofs.Emits.{onward, finish, same_size}
use Rattle.cells.specs.Items.{flat}
use Rattle.cells.specs.Walk.{step_of}
use Rattle.cells.proofs.Walks.{turn, done, over, flat_walk}
use Rattle.fields.specs.Tlv.{tlv_at}
use Rattle.cotp.specs.Params.{param, param_step}
use Rattle.cotp.proofs.params.params.Goals as goal

pub loop-i-init : goal.loop-i-init
loop-i-init c = (refl, search rules, λ p n e. e, refl)

pub returns-in_default : goal.returns-in_default
returns-in_default c =
    let a = c.args in
    let s = a.s.now in
    let i = c.loop-i.i in
    let none : tlv_at s i ≡ None = sym c.tlv_at.ensures.value ∙ c.in_default.is in
    rw flat_walk
    (finish c.loop-i.invariant.2
    (done (param_step a.base s) (λ n. []) (λ x r. flat a.depth x ++ r) (length s) i c.loop-i-test.true (ap (step_of (λ start n. param a.base s (get_or s i 0) start n)) none))
    (search rules) (search rules))

pub loop-i-preserved : goal.loop-i-preserved
loop-i-preserved c =
    let a = c.args in
    let s = a.s.now in
    let i = c.loop-i.i in
    let b = c.in-Some.b in
    let some : tlv_at s i ≡ Some b = sym c.tlv_at.ensures.value ∙ c.in-Some.is in
    let w = rw c.in-Some.is at c.tlv_at.ensures.within in
    let put = c.put_param-next.ensures in (
      same_size put ∙ c.loop-i.invariant.0,
      search rules,
      onward c.loop-i.invariant.2 put (turn (param_step a.base s) (λ n. []) (λ x r. flat a.depth x ++ r) (length s) i (b.start + b.len) _ c.loop-i-test.true w.0 (ap (step_of (λ start n. param a.base s (get_or s i 0) start n)) some)),
      c.loop-i.invariant.3 ∙ turn (param_step 0 s) (λ n. n) (λ x r. r) (length s) i (b.start + b.len) (param 0 s (get_or s i 0) b.start b.len) c.loop-i-test.true w.0 (ap (step_of (λ start n. param 0 s (get_or s i 0) start n)) some),
    )

pub returns : goal.returns
returns c =
    let a = c.args in
    let s = a.s.now in
    rw flat_walk
    (finish c.loop-i.invariant.2
    (over (param_step a.base s) (λ n. []) (λ x r. flat a.depth x ++ r) (length s) c.loop-i.i c.loop-i-test.false)
    (search rules) (search rules))
