use Rattle.std.proofs.Common.{◌≡◌, ◌<◌, ◌≤◌, ◌+◌, ◌-◌, ℕ, refl, sym, ap, ◌∙◌, arith, true, length}
use Rattle.esis.specs.Pdu.{address_ok, address_end}
use Rattle.esis.proofs.Addresses.{off, on, there, end-zero, end-past, end_bad, end_more}
use Rattle.esis.proofs.address.address_end.Goals.{After-wide}
use Rattle.esis.proofs.address.address_end.Goals as goal

-- where an address was found: it is right, and lies within the octets
right : (c : After-wide) → address_ok c.args.b.now c.loop.i ≡ true
right c = on c.address_ok.ensures c.if-not-address_ok.false

found : (c : After-wide) → c.loop.i + 1 + c.wide.result ≤ length c.args.b.now
found c = omega (arith, there c.args.b.now c.loop.i (right c), c.wide.ensures.0)

pub loop-init : goal.loop-init
loop-init c =
    let z : c.args.n ≡ c.args.n - 0 = omega arith in
    (c.requires, ap (λ (k : ℕ). address_end c.args.b.now k c.args.p) z)

pub returns-then-b-i : goal.returns-then-b-i
returns-then-b-i c =
    (sym (c.loop.invariant.1 ∙ end-past c.args.b.now (c.args.n - c.loop.counter) c.loop.i c.if-b-i.true), c.loop.invariant.0)

pub returns-then-not-address_ok : goal.returns-then-not-address_ok
returns-then-not-address_ok c =
    let l = c.loop in
    let n = c.args.n - l.counter in
    (sym (l.invariant.1 ∙ end_bad c.args.b.now n l.i (omega (arith, c.loop-test.true)) c.if-b-i.false (off c.address_ok.ensures c.if-not-address_ok.true)), omega (arith, c.if-b-i.false))

pub loop-preserved : goal.loop-preserved
loop-preserved c =
    let s = c.args.b.now in
    let l = c.loop in
    let n = c.args.n - l.counter in
    let less : n - 1 ≡ c.args.n - (l.counter + 1) = omega arith in
    let w = (goal.at.loop-preserved c).After-wide in (
      omega (arith, found w),
      l.invariant.1 ∙ end_more s n l.i (omega (arith, c.loop-test.true)) c.if-b-i.false (right w) ∙ ap (λ (k : ℕ). address_end s (n - 1) (l.i + 1 + k)) (sym c.wide.ensures.0)
          ∙ ap (λ (k : ℕ). address_end s k (l.i + 1 + c.wide.result)) less,
    )

pub returns : goal.returns
returns c =
    let l = c.loop in
    let z : c.args.n - l.counter ≡ 0 = omega (arith, c.loop-test.false) in
    (sym (l.invariant.1 ∙ ap (λ (k : ℕ). address_end c.args.b.now k l.i) z ∙ end-zero c.args.b.now l.i), l.invariant.0)
