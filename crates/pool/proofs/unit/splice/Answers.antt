use Prim.Native.Nat.{ℕ, ◌+◌, ◌*◌, ◌-◌}
use mathlib.Core.Path.{◌≡◌, sym, ap, ◌∙◌, subst}
use mathlib.Core.Bool.{true}
use mathlib.Core.List.{List}
use native.Mathlib.Omega.{arith}
use lib.ListN.{length, take}
use Rattle.model.specs.Cost.{blocks as blocksFor}
use Rattle.chain.specs.Chain.{homed, flat, Spliced}
use Rattle.tables.specs.Tables.{links, blocks_in, word, used_of}
use Rattle.tables.proofs.Laws.{tables_of}
use Rattle.pool.specs.View.{sound, pend, start_of, part_at, splice_words, SameSettings}
use Rattle.pool.proofs.Good.{Good, good, good_of}
use Rattle.pool.proofs.Near.{Ready, ready, room_fits, begins}
use Rattle.pool.proofs.Parts.{settings-kept, spliced-good, spliced-pend}
use Rattle.pool.proofs.unit.splice.Goals.{Start}
use Rattle.pool.proofs.unit.splice.Given.{Over}
use Rattle.pool.proofs.unit.splice.Goals as goal

gd : (g : Over) (c : Start g) → Good c.args.words.now c.args.times.now c.args.list.now c.args.home.now c.args.blocks.now
gd g c = good c.args.words.now c.args.times.now c.args.list.now c.args.home.now c.args.blocks.now c.requires.is_sound

rd : (g : Over) (c : Start g) → Ready c.args.words.now c.args.l c.args.j c.args.part
rd g c = ready c.args.words.now c.args.l c.args.j c.args.part (gd g c).tab c.requires.in_range.0 c.requires.in_range.1 c.requires.in_range.2

pub start_of-s-requires : goal.start_of-s-requires
start_of-s-requires g c =
    let s = c in (tables_of s.args.words.now (gd g (goal.at.start_of-s-requires g c).Start).tab, s.requires.in_range.0, omega (arith, s.requires.in_range))

pub splice-requires : goal.splice-requires
splice-requires g c =
    let s = c in let a = s.args in
    let w = a.words.now in
    let k₀ = gd g (goal.at.splice-requires g c).Start in
    let r = rd g (goal.at.splice-requires g c).Start in
    let u = c.all_used-m.ensures in
    let at = begins s.args.words.now s.args.l s.args.j s.args.part c.start_of-s.result c.part_start-a.result c.start_of-s.ensures.0 c.part_start-a.ensures in
    let f = room_fits w a.l (word w (8 * a.l + a.j) (9 + a.part)) (blocksFor (a.d + length (g.S.Source.octets a.src))) k₀.tab s.requires.in_range.0 r.counted s.requires.room in
    record {
      counts = (omega (arith, u, at, r.inside), omega (arith, u, f), omega (arith, u, r.close.fits), r.close.few-blocks, k₀.listed, k₀.homes, ap (homed a.home.now a.list.now (blocks_in w)) u ∙ k₀.chain);
      room = (k₀.room, omega (arith, r.filled, s.requires.in_range), omega arith);
    }

pub set_part-requires : goal.set_part-requires
set_part-requires g c =
    let s = c in let r = rd g (goal.at.set_part-requires g c).Start in
    (r.close.low-link, r.low, s.requires.in_range.2, r.close.long, r.counted, omega (arith, r.close.counted, r.filled, s.requires.in_range, r.counted))

pub returns : goal.returns
returns g c =
    let a = c.args in
    let w = a.words.now in
    let tm = a.times.now in
    let src = g.S.Source.octets a.src in
    let k₀ = gd g (goal.at.returns g c).Start in
    let u = c.all_used-m.ensures in
    let at = begins w a.l a.j a.part c.start_of-s.result c.part_start-a.result c.start_of-s.ensures.0 c.part_start-a.ensures in
    let k = word w (8 * a.l + a.j) (9 + a.part) in
    let n₀ = blocksFor (a.d + c.len.result) in
    let n = blocksFor (a.d + length src) in
    let nn : n₀ ≡ n = ap (λ (q : ℕ). blocksFor (a.d + q)) c.len.ensures in
    let list' = c.splice.new.list in
    let home' = c.splice.new.home in
    let bs' = c.splice.new.blocks in
    let ch : homed home' list' (blocks_in w) (used_of w (links w) + n - k) ≡ true = subst (λ (q : ℕ). homed home' list' (blocks_in w) (used_of w (links w) + q - k) ≡ true) nn
    (subst (λ (m : ℕ). homed home' list' (blocks_in w) (m + n₀ - k) ≡ true) u c.splice.ensures.homed) in
    let sp : Spliced (flat a.blocks.now (take (used_of w (links w)) a.list.now)) (flat bs' (take (used_of w (links w) + n - k) list')) (start_of w a.l a.j + part_at w (8 * a.l + a.j) a.part) k n a.d src =
    subst (λ (q : ℕ). Spliced (flat a.blocks.now (take (used_of w (links w)) a.list.now)) (flat bs' (take (used_of w (links w) + q - k) list')) (start_of w a.l a.j + part_at w (8 * a.l + a.j) a.part) k q a.d src) nn
    (subst (λ (q : ℕ). Spliced (flat a.blocks.now (take (used_of w (links w)) a.list.now)) (flat bs' (take (used_of w (links w) + n₀ - k) list')) q k n₀ a.d src) at
    (subst (λ (m : ℕ). Spliced (flat a.blocks.now (take m a.list.now)) (flat bs' (take (m + n₀ - k) list')) c.part_start-a.result k n₀ a.d src) u c.splice.ensures.spliced)) in
    let p = c.requires.in_range in
    let e = c.set_part.ensures ∙ ap (λ (q : ℕ). splice_words w a.l a.j a.part (a.d + q) (blocksFor (a.d + q))) c.len.ensures in record {
      stays_sound = ap (λ (v : List ℕ). sound v tm list' home' bs') e
          ∙ good_of _ _ _ _ _ (spliced-good w tm a.list.now a.home.now a.blocks.now list' home' bs' a.l a.j a.part a.d src k₀ p.0 p.1 p.2 p.3 c.requires.room c.splice.auto.list c.splice.auto.home c.splice.auto.blocks ch sp);
      pending = ap (λ (v : List ℕ). pend v tm list' bs') e
          ∙ spliced-pend w tm a.list.now a.home.now a.blocks.now list' home' bs' a.l a.j a.part a.d src k₀ p.0 p.1 p.2 p.3 c.requires.room c.splice.auto.list c.splice.auto.home c.splice.auto.blocks ch sp;
      same_settings = subst (λ (v : List ℕ). SameSettings w v) (sym e) (settings-kept w tm a.l a.j a.part (a.d + length src) n k₀.tab p.0 p.1 p.2);
    }
