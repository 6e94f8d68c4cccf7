use Prim.Native.Nat.{ℕ, ◌+◌, ◌*◌, ◌≤◌}
use mathlib.Core.Path.{◌≡◌, sym, ap, ap₂, ◌∙◌}
use mathlib.Core.Bool.{true}
use native.Mathlib.Omega.{arith}
use lib.ListN.{length, take}
use Rattle.octets.specs.Emit.{put}
use Rattle.chain.specs.Chain.{chain_ok, flat}
use Rattle.chain.proofs.Home.{homed-chain}
use Rattle.tables.specs.Tables.{links, blocks_in, used_of}
use Rattle.tables.proofs.Laws.{tables_of}
use Rattle.pool.specs.View.{start_of, part_at, octets}
use Rattle.pool.proofs.Good.{Good, good, good_of}
use Rattle.pool.proofs.Near.{Ready, ready, begins}
use Rattle.pool.proofs.Written.{written-good, written-pend}
use Rattle.pool.proofs.unit.write.Goals.{Start}
use Rattle.pool.proofs.unit.write.Goals as goal

gd : (c : Start) → Good c.args.words.now c.args.times.now c.args.list.now c.args.home.now c.args.blocks.now
gd c = good c.args.words.now c.args.times.now c.args.list.now c.args.home.now c.args.blocks.now c.requires.is_sound

rd : (c : Start) → Ready c.args.words.now c.args.l c.args.j c.args.part
rd c = ready c.args.words.now c.args.l c.args.j c.args.part (gd c).tab c.requires.in_range.0 c.requires.in_range.1 c.requires.in_range.2

pub start_of-s-requires : goal.start_of-s-requires
start_of-s-requires c =
    (tables_of c.args.words.now (gd (goal.at.start_of-s-requires c).Start).tab, c.requires.in_range.0, omega (arith, c.requires.in_range))

pub overflow_add-l : goal.overflow_add-l
overflow_add-l c = omega (arith, rd (goal.at.overflow_add-l c).Start)

pub part_start-a-requires : goal.part_start-a-requires
part_start-a-requires c =
    let r = rd (goal.at.part_start-a-requires c).Start in
    (omega (arith, r), r.close.long, c.start_of-s.ensures.1, r.top-at)

pub overflow_mul-a : goal.overflow_mul-a
overflow_mul-a c =
    omega (arith, rd (goal.at.overflow_mul-a c).Start, begins c.args.words.now c.args.l c.args.j c.args.part c.start_of-s.result c.part_start-a.result c.start_of-s.ensures.0 c.part_start-a.ensures)

pub overflow_add-a : goal.overflow_add-a
overflow_add-a c =
    omega (arith, rd (goal.at.overflow_add-a c).Start, (rd (goal.at.overflow_add-a c).Start).size, c.requires.in_range, begins c.args.words.now c.args.l c.args.j c.args.part c.start_of-s.result c.part_start-a.result c.start_of-s.ensures.0 c.part_start-a.ensures)

pub write_at-requires : goal.write_at-requires
write_at-requires c =
    let s = c in let a = s.args in
    let w = a.words.now in
    let g = gd (goal.at.write_at-requires c).Start in
    let r = rd (goal.at.write_at-requires c).Start in
    let u = c.all_used-m.ensures in
    let e = begins s.args.words.now s.args.l s.args.j s.args.part c.start_of-s.result c.part_start-a.result c.start_of-s.ensures.0 c.part_start-a.ensures in
    let hm : used_of w (links w) ≤ length a.list.now = omega (arith, r.close.fits, g.listed) in
    let ch : chain_ok (blocks_in w) (take c.all_used-m.result a.list.now) ≡ true = ap (λ (m : ℕ). chain_ok (blocks_in w) (take m a.list.now)) u ∙ homed-chain a.home.now a.list.now (blocks_in w) (used_of w (links w)) g.chain hm in
    (omega (arith, r.close.fits, u), omega (arith, hm, u), ch, g.room, omega (arith, r.inside, r.filled, u, e, s.requires.in_range))

pub returns : goal.returns
returns c =
    let s = c in let a = s.args in
    let p = s.requires.in_range in
    let w = a.words.now in
    let list = a.list.now in
    let bs' = c.write_at.new.blocks in
    let u = c.all_used-m.ensures in
    let e = begins s.args.words.now s.args.l s.args.j s.args.part c.start_of-s.result c.part_start-a.result c.start_of-s.ensures.0 c.part_start-a.ensures in
    let wr : flat bs' (take (used_of w (links w)) list) ≡ put (octets w list a.blocks.now) (64 * (start_of w a.l a.j + part_at w (8 * a.l + a.j) a.part) + a.o) a.src.now =
    ap (λ (m : ℕ). flat bs' (take m list)) (sym u) ∙ c.write_at.ensures ∙ ap₂ (λ (m q : ℕ). put (flat a.blocks.now (take m list)) (64 * q + a.o) a.src.now) u e in record {
      stays_sound = good_of _ _ _ _ _ (written-good w a.times.now list a.home.now a.blocks.now a.l a.j a.part a.o a.src.now (gd (goal.at.returns c).Start) p.0 p.1 p.2 p.3 bs' c.write_at.auto.blocks wr);
      pending = written-pend w a.times.now list a.home.now a.blocks.now a.l a.j a.part a.o a.src.now (gd (goal.at.returns c).Start) p.0 p.1 p.2 p.3 bs' c.write_at.auto.blocks wr;
    }
