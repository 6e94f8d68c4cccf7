use Rattle.std.proofs.Common.{rules, ◌≡◌, ◌<◌, ◌≤◌, ◌+◌, ◌-◌, ◌++◌, ℕ, refl, sym, ap, ◌∙◌, arith, true, length}
use Rattle.octets.proofs.Emits.{onward, finish, same_size}
use Rattle.cells.specs.Items.{none, leaf, part, flat}
use Rattle.cells.proofs.Rows.{flat-none, flat-⊕, row_as}
use Rattle.esis.specs.Pdu.{address_ok, address_items}
use Rattle.esis.proofs.Addresses.{off, on, behind, address, there, items-zero, items-past, items_bad, items_more}
use Rattle.esis.proofs.address.addresses.Goals.{After-wide-len, then-b-i-via-then-b-i, then-b-i-via-else-b-i+then-not-address_ok}
use Rattle.esis.proofs.address.addresses.Goals as goal

-- where an address was found: it is right, and lies within the octets
right : (c : After-wide-len) → address_ok c.args.b.now c.loop.i ≡ true
right c = on c.address_ok.ensures c.if-not-address_ok.false

found : (c : After-wide-len) → c.loop.i + 1 + c.wide-len.result ≤ length c.args.b.now
found c = omega (arith, there c.args.b.now c.loop.i (right c), c.wide-len.ensures.0)

pub loop-init : goal.loop-init
loop-init c =
    let a = c.args in
    let z : a.n - 0 ≡ a.n = omega arith in
    (refl, search rules, λ p n e. row_as 2 (ap (λ (k : ℕ). address_items a.b.now k a.p) z) e)

pub returns-then-b-i : goal.returns-then-b-i
returns-then-b-i c =
    let l = c.loop in
    let n = c.args.n - l.counter in
    let s = c.args.b.now in
    let gone : address_items s n l.i ≡ none =
    elim c.then-b-i.branch [
      | then-b-i-via-then-b-i w ↦ items-past s n l.i w.if-b-i.true
      | then-b-i-via-else-b-i+then-not-address_ok w ↦ items_bad s n l.i w.if-b-i.false (off w.address_ok.ensures w.if-not-address_ok.true)
    ] in
    finish l.invariant.2 (ap (flat 2) gone ∙ flat-none 2) (search rules) (search rules)

pub put_hex_part-next-requires : goal.put_hex_part-next-requires
put_hex_part-next-requires c = (omega arith, omega (arith, found (goal.at.put_hex_part-next-requires c).After-wide-len, c.requires))

pub overflow_add-i-in-loop-2 : goal.overflow_add-i-in-loop-2
overflow_add-i-in-loop-2 c = omega (arith, found (goal.at.overflow_add-i-in-loop-2 c).After-wide-len, c.requires)

pub loop-preserved : goal.loop-preserved
loop-preserved c =
    let s = c.args.b.now in
    let l = c.loop in
    let n = c.args.n - l.counter in
    let e = c.wide-len.ensures.0 in
    let less : n - 1 ≡ c.args.n - (l.counter + 1) = omega arith in (
      same_size c.put_hex_part-next.ensures ∙ l.invariant.0,
      search rules,
      onward l.invariant.2 (row_as 2 (ap (λ (k : ℕ). leaf 0 (part (l.i + 1) k) none) e) c.put_hex_part-next.ensures)
          (ap (flat 2) (items_more s n l.i (omega (arith, c.loop-test.true)) c.if-b-i.false (right (goal.at.loop-preserved c).After-wide-len))
          ∙ flat-⊕ 2 (address s l.i) (address_items s (n - 1) (behind s l.i))
          ∙ ap (λ (k : ℕ). flat 2 (address s l.i) ++ flat 2 (address_items s (n - 1) (l.i + 1 + k))) (sym e)
          ∙ ap (λ (k : ℕ). flat 2 (address s l.i) ++ flat 2 (address_items s k (l.i + 1 + c.wide-len.result))) less),
    )

pub returns : goal.returns
returns c =
    let l = c.loop in
    let z : c.args.n - l.counter ≡ 0 = omega (arith, c.loop-test.false) in
    finish l.invariant.2 (ap (flat 2) (ap (λ (k : ℕ). address_items c.args.b.now k l.i) z ∙ items-zero c.args.b.now l.i) ∙ flat-none 2) (search rules) (search rules)
