use Rattle.std.proofs.Common.{rules, ◌≡◌, ◌<◌, ◌≤◌, ◌+◌, ◌-◌, ◌*◌, ◌++◌, ℕ, refl, sym, ap, ◌∙◌, arith}
use Rattle.octets.proofs.Emits.{onward, finish, same_size, emits_as}
use Rattle.cells.specs.Items.{flat}
use Rattle.idrp.specs.Update.{route_items}
use Rattle.idrp.proofs.Routes.{route, routes-turn, routes-over}
use Rattle.idrp.proofs.route.routes.Goals as goal

pub loop-k-init : goal.loop-k-init
loop-k-init c =
    let z : c.args.n - 0 ≡ c.args.n = omega arith in
    (refl, search rules, λ p n e. emits_as (ap (λ (k : ℕ). flat 3 (route_items c.args.s.now k 2)) z) e)

pub loop-k-preserved : goal.loop-k-preserved
loop-k-preserved c =
    let s = c.args.s.now in
    let k = c.loop-k.k in
    let n = c.args.n - k in
    let put = rw c.four_at.ensures at c.put_word_leaf-next.ensures in
    let less : n - 1 ≡ c.args.n - (k + 1) = omega arith in
    let on : 2 + 4 * k + 4 ≡ 2 + 4 * (k + 1) = omega arith in (
      same_size put ∙ c.loop-k.invariant.0,
      search rules,
      onward c.loop-k.invariant.2 put
          (routes-turn 3 s n (2 + 4 * k) (omega (arith, c.loop-k-test.true))
          ∙ ap (λ (m : ℕ). flat 3 (route s (2 + 4 * k)) ++ flat 3 (route_items s m (2 + 4 * k + 4))) less
          ∙ ap (λ (i : ℕ). flat 3 (route s (2 + 4 * k)) ++ flat 3 (route_items s (c.args.n - (k + 1)) i)) on),
    )

pub returns : goal.returns
returns c =
    finish c.loop-k.invariant.2 (routes-over 3 c.args.s.now (c.args.n - c.loop-k.k) (2 + 4 * c.loop-k.k) (omega (arith, c.loop-k-test.false))) (search rules) (search rules)
