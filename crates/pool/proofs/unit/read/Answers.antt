use Prim.Native.Nat.{ℕ, ◌+◌, ◌*◌, ◌≤◌}
use mathlib.Core.Path.{◌≡◌, sym, ap, ◌∙◌}
use mathlib.Core.Bool.{true}
use native.Mathlib.Omega.{arith}
use lib.ListN.{length, take, drop}
use Rattle.octets.specs.Emit.{put}
use Rattle.chain.specs.Chain.{chain_ok, flat}
use Rattle.chain.proofs.Home.{homed-chain}
use Rattle.tables.specs.Tables.{links, blocks_in, word, used_of}
use Rattle.tables.proofs.Laws.{tables_of}
use Rattle.pool.specs.View.{pend, unit_of, part_of, octets}
use Rattle.pool.proofs.Good.{Good, good}
use Rattle.pool.proofs.Near.{Ready, ready, begins}
use Rattle.pool.proofs.Read.{part-is, part-long}
use Rattle.pool.proofs.unit.read.Goals.{Start}
use Rattle.pool.proofs.unit.read.Goals as goal

gd : (c : Start) → Good c.args.words.now c.args.times.now c.args.list.now c.args.home.now c.args.blocks.now
gd c = good c.args.words.now c.args.times.now c.args.list.now c.args.home.now c.args.blocks.now c.requires.is_sound

rd : (c : Start) → Ready c.args.words.now c.args.l c.args.j c.args.part
rd c = ready c.args.words.now c.args.l c.args.j c.args.part (gd c).tab c.requires.in_range.0 c.requires.in_range.1 c.requires.in_range.2

pub start_of-s-requires : goal.start_of-s-requires
start_of-s-requires c =
    (tables_of c.args.words.now (gd (goal.at.start_of-s-requires c).Start).tab, c.requires.in_range.0, omega (arith, c.requires.in_range))

pub overflow_add-l : goal.overflow_add-l
overflow_add-l c = omega (arith, rd (goal.at.overflow_add-l c).Start)

pub part_start-a-requires : goal.part_start-a-requires
part_start-a-requires c =
    let r = rd (goal.at.part_start-a-requires c).Start in
    (omega (arith, r), r.close.long, c.start_of-s.ensures.1, r.top-at)

pub overflow_add-d : goal.overflow_add-d
overflow_add-d c = omega (arith, rd (goal.at.overflow_add-d c).Start)

pub overflow_mul-d-2 : goal.overflow_mul-d-2
overflow_mul-d-2 c = omega (arith, rd (goal.at.overflow_mul-d-2 c).Start)

pub overflow_add-d-2 : goal.overflow_add-d-2
overflow_add-d-2 c = omega (arith, rd (goal.at.overflow_add-d-2 c).Start)

pub overflow_add-d-4 : goal.overflow_add-d-4
overflow_add-d-4 c = omega (arith, rd (goal.at.overflow_add-d-4 c).Start)

pub offset_bounds-words-l : goal.offset_bounds-words-l
offset_bounds-words-l c = omega (arith, rd (goal.at.offset_bounds-words-l c).Start)

pub bounds-words-l : goal.bounds-words-l
bounds-words-l c = omega (arith, rd (goal.at.bounds-words-l c).Start)

pub overflow_mul-a : goal.overflow_mul-a
overflow_mul-a c =
    omega (arith, rd (goal.at.overflow_mul-a c).Start, begins c.args.words.now c.args.l c.args.j c.args.part c.start_of-s.result c.part_start-a.result c.start_of-s.ensures.0 c.part_start-a.ensures)

pub read_at-requires : goal.read_at-requires
read_at-requires c =
    let s = c in let a = s.args in
    let w = a.words.now in
    let g = gd (goal.at.read_at-requires c).Start in
    let r = rd (goal.at.read_at-requires c).Start in
    let u = c.all_used-m.ensures in
    let e = begins s.args.words.now s.args.l s.args.j s.args.part c.start_of-s.result c.part_start-a.result c.start_of-s.ensures.0 c.part_start-a.ensures in
    let hm : used_of w (links w) ≤ length a.list.now = omega (arith, r.close.fits, g.listed) in
    let ch : chain_ok (blocks_in w) (take c.all_used-m.result a.list.now) ≡ true = ap (λ (m : ℕ). chain_ok (blocks_in w) (take m a.list.now)) u ∙ homed-chain a.home.now a.list.now (blocks_in w) (used_of w (links w)) g.chain hm in
    (omega (arith, r.close.fits, u), omega (arith, hm, u), ch, g.room, omega (arith, r.inside, r.filled, u, e), omega (arith, s.requires.in_range))

pub returns : goal.returns
returns c =
    let s = c in let a = s.args in
    let p = s.requires.in_range in
    let w = a.words.now in
    let list = a.list.now in
    let bs = a.blocks.now in
    let u = c.all_used-m.ensures in
    let e = begins s.args.words.now s.args.l s.args.j s.args.part c.start_of-s.result c.part_start-a.result c.start_of-s.ensures.0 c.part_start-a.ensures in
    let d = word w (8 * a.l + a.j) (7 + a.part) in
    let x : take d (drop (64 * c.part_start-a.result) (flat bs (take c.all_used-m.result list))) ≡ part_of a.part (unit_of (pend w a.times.now list bs) a.l a.j) =
    ap (λ (m : ℕ). take d (drop (64 * c.part_start-a.result) (flat bs (take m list)))) u
    ∙ ap (λ (o : ℕ). take d (drop (64 * o) (octets w list bs))) e
    ∙ sym (part-is w a.times.now list a.home.now bs a.l a.j a.part (gd (goal.at.returns c).Start) p.0 p.1 p.2) in
    record {
      length_read = sym (part-long w a.times.now list a.home.now bs a.l a.j a.part (gd (goal.at.returns c).Start) p.0 p.1 p.2);
      copied = c.read_at.ensures ∙ ap (put a.out.now a.at) x;
    }
