use Prim.Native.Nat.{ℕ, ◌/◌, ◌%◌, ◌<◌}
use mathlib.Core.Path.{◌≡◌, sym, ap, ◌∙◌}
use mathlib.Core.List.{List}
use native.Mathlib.Omega.{arith}
use lib.Dec.{ltb}
use lib.ListN.{length, get_or}
use mathlib.Core.Bool.{false}
use Rattle.x25.specs.Packet.{by_type}
use Rattle.x25.specs.declared.packet.Packet.{Packet}
use Rattle.x25.proofs.ByType.{known-is}
use borrow.Author.Tests.{le-ltb, lt-ltb, eq-eqb, ne_eqb}
use Rattle.x25.specs.Packet.{packet_of}
use Rattle.x25.proofs.packet.read.Goals.{then-b-lt3-via-then-b-lt3, then-b-lt3-via-else-b-lt3+then-b-ne1}
use Rattle.x25.proofs.packet.read.Goals as goal

pub returns-then-b-lt3 : goal.returns-then-b-lt3
unfolding packet_of
returns-then-b-lt3 c =
    elim c.then-b-lt3.branch [
      | then-b-lt3-via-then-b-lt3 w ↦ simp (lt-ltb _ _ w.if-b-lt3.true)
      | then-b-lt3-via-else-b-lt3+then-b-ne1 w ↦ simp (le-ltb _ _ w.if-b-lt3.false, ne_eqb _ _ w.if-b-ne1.true)
    ]

is-packet : (s : List ℕ) (x : Packet) → ltb (length s) 3 ≡ false → get_or s 0 0 / 16 % 4 ≡ 1 → x ≡ by_type s (get_or s 2 0) → x ≡ packet_of s
unfolding packet_of
is-packet s x h k e = simp (h, eq-eqb (get_or s 0 0 / 16 % 4) 1 k) e

pub returns-then-x-eq0 : goal.returns-then-x-eq0
returns-then-x-eq0 c =
    let e = is-packet c.args.b.now c.by_type-x.result (le-ltb _ _ c.if-b-lt3.false) (omega (arith, c.if-b-ne1.false)) c.by_type-x.ensures in
    rw (← e) (sym (simp (eq-eqb c.by_type-x.result.kind 0 c.if-x-eq0.true)))

pub returns : goal.returns
returns c =
    let e = is-packet c.args.b.now c.by_type-x.result (le-ltb _ _ c.if-b-lt3.false) (omega (arith, c.if-b-ne1.false)) c.by_type-x.ensures in
    known-is e (λ z. absurd (c.if-x-eq0.false (ap (λ (p : Packet). p.kind) e ∙ z)))
