use Rattle.network.proofs.Firsts.{none_of, clnp_of, esis_of, idrp_of, compressed_of}
use Rattle.cells.proofs.Answers.{too_long, unreadable}
use Rattle.cells.specs.Answer.{Parsed}
use native.Mathlib.Omega.{arith}
use lib.ListN.{length}
use mathlib.Core.List.{List}
use mathlib.Core.Path.{subst}
use Prim.Native.Nat.{ℕ}
use Rattle.network.proofs.parse_network.Goals as goal

pub returns-then-b-gt65535 : goal.returns-then-b-gt65535
returns-then-b-gt65535 c = too_long c.if-b-gt65535.true

pub returns-then-b-eq0 : goal.returns-then-b-eq0
returns-then-b-eq0 c = unreadable c.if-b-gt65535.false (none_of c.args.b.now c.if-b-eq0.true)

pub returns-in-129 : goal.returns-in-129
returns-in-129 c =
    let a = c.args in
    subst (λ (xs : List ℕ). Parsed (length a.b.now) xs a.out.now c.parse_clnp.result c.parse_clnp.new.out) (clnp_of a.b.now c.if-b-eq0.false c.in-129.is) c.parse_clnp.ensures

pub returns-in-130 : goal.returns-in-130
returns-in-130 c =
    let a = c.args in
    subst (λ (xs : List ℕ). Parsed (length a.b.now) xs a.out.now c.parse_esis.result c.parse_esis.new.out) (esis_of a.b.now c.if-b-eq0.false (λ z. omega (arith, z, c.in-130.is)) c.in-130.is) c.parse_esis.ensures

pub returns-in-131 : goal.returns-in-131
returns-in-131 c =
    let a = c.args in
    subst (λ (xs : List ℕ). Parsed (length a.b.now) xs a.out.now c.parse_idrp.result c.parse_idrp.new.out)
    (idrp_of a.b.now c.if-b-eq0.false (λ z. omega (arith, z, c.in-131.is)) (λ z. omega (arith, z, c.in-131.is)) c.in-131.is) c.parse_idrp.ensures

pub returns-in_default : goal.returns-in_default
returns-in_default c =
    let a = c.args in
    let n = c.in_default.in_default-own.rest in
    subst (λ (xs : List ℕ). Parsed (length a.b.now) xs a.out.now c.parse_compressed.result c.parse_compressed.new.out) (compressed_of a.b.now c.if-b-eq0.false n.0.0.1 n.0.1 n.1) c.parse_compressed.ensures
