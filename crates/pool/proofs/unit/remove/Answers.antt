use Prim.Native.Nat.{ℕ, ◌+◌, ◌*◌, ◌-◌}
use mathlib.Core.Path.{◌≡◌, sym, ap, ap₂, ◌∙◌, subst}
use mathlib.Core.Bool.{true}
use mathlib.Core.List.{List, ◌++◌}
use native.Mathlib.Omega.{arith}
use lib.ListN.{take, drop}
use lib.Ieee.{Float}
use Rattle.chain.specs.Chain.{homed}
use Rattle.tables.specs.Tables.{links, blocks_in, units, place_cost, used_of}
use Rattle.tables.proofs.Laws.{tables_of, place_of}
use Rattle.pool.specs.View.{sound, pend, start_of, SameSettings}
use Rattle.pool.proofs.Good.{Good, good, good_of}
use Rattle.pool.proofs.Near.{Ready, ready, inside}
use Rattle.pool.proofs.Dropped.{less-settings, less_settled, less-good, less-pend}
use Rattle.pool.proofs.unit.remove.Goals.{Start}
use Rattle.pool.proofs.unit.remove.Goals as goal

gd : (c : Start) → Good c.args.words.now c.args.times.now c.args.list.now c.args.home.now c.args.blocks.now
gd c = good c.args.words.now c.args.times.now c.args.list.now c.args.home.now c.args.blocks.now c.requires.is_sound

rd : (c : Start) → Ready c.args.words.now c.args.l c.args.j 0
rd c = ready c.args.words.now c.args.l c.args.j 0 (gd c).tab c.requires.in_range.0 c.requires.in_range.1 (omega arith)

-- the two runs that stay, by what the calls gave
parts : (list : List ℕ) (s s₀ k k₀ m m₀ : ℕ) → s ≡ s₀ → k ≡ k₀ → m ≡ m₀
    → take s list ++ take (m - (s + k)) (drop (s + k) list) ≡ take s₀ list ++ take (m₀ - (s₀ + k₀)) (drop (s₀ + k₀) list)
parts list s s₀ k k₀ m m₀ a b c = rw (a, b, c)

pub start_of-s-requires : goal.start_of-s-requires
start_of-s-requires c =
    let s = c in (tables_of s.args.words.now (gd (goal.at.start_of-s-requires c).Start).tab, s.requires.in_range.0, omega (arith, s.requires.in_range))

pub overflow_add-l : goal.overflow_add-l
overflow_add-l c = omega (arith, rd (goal.at.overflow_add-l c).Start)

pub place_cost-k-requires : goal.place_cost-k-requires
place_cost-k-requires c =
    let r = rd (goal.at.place_cost-k-requires c).Start in
    (omega (arith, r), r.close.long, place_of _ _ r.size.right)

pub release-requires : goal.release-requires
release-requires c =
    let s = c in let a = s.args in
    let g = gd (goal.at.release-requires c).Start in
    let r = rd (goal.at.release-requires c).Start in
    let u = c.all_used-m.ensures in
    (omega arith, omega (arith, u, c.start_of-s.ensures.0, c.place_cost-k.ensures.0, r.size.before), omega (arith, u, r.close.fits), r.close.few-blocks, g.listed, g.homes, ap (homed a.home.now a.list.now (blocks_in a.words.now)) u ∙ g.chain)

pub take_place-requires : goal.take_place-requires
take_place-requires c =
    let s = c in let a = s.args in
    let r = rd (goal.at.take_place-requires c).Start in
    let e = c.place_cost-k.ensures.0 in
    (r.close.low-link, s.requires.in_range.1, r.close.few, r.close.long, (gd (goal.at.take_place-requires c).Start).places, e, omega (arith, e, inside a.words.now a.l a.j (gd (goal.at.take_place-requires c).Start).tab s.requires.in_range.0 s.requires.in_range.1))

pub returns : goal.returns
returns c =
    let s = c in let a = s.args in
    let w = a.words.now in
    let tm = a.times.now in
    let list = a.list.now in
    let g = gd (goal.at.returns c).Start in
    let p = s.requires.in_range in
    let u = c.all_used-m.ensures in
    let st = c.start_of-s.ensures.0 in
    let kk = c.place_cost-k.ensures.0 in
    let list' = c.release.new.list in
    let home' = c.release.new.home in
    let k = place_cost w (8 * a.l + a.j) in
    let e = c.take_place.ensures in
    let n : c.all_used-m.result - (c.start_of-s.result + c.place_cost-k.result - c.start_of-s.result) ≡ used_of w (links w) - k = omega (arith, u, st, kk) in
    let rl : take (used_of w (links w) - k) list' ≡ take (start_of w a.l a.j) list ++ take (used_of w (links w) - (start_of w a.l a.j + k)) (drop (start_of w a.l a.j + k) list) =
    ap (λ (i : ℕ). take i list') (sym n) ∙ c.release.ensures.0
    ∙ parts list c.start_of-s.result (start_of w a.l a.j) c.place_cost-k.result k c.all_used-m.result (used_of w (links w)) st kk u in
    let ch : homed home' list' (blocks_in w) (used_of w (links w) - k) ≡ true = ap (homed home' list' (blocks_in w)) (sym n) ∙ c.release.ensures.1 in
    let good' = less-good w tm list a.home.now a.blocks.now list' home' a.l a.j g p.0 p.1 c.release.auto.list c.release.auto.home rl ch in
    let pend' = less-pend w tm list a.home.now a.blocks.now list' home' a.l a.j g p.0 p.1 c.release.auto.list c.release.auto.home rl ch in record {
      stays_sound = ap₂ (λ (v : List ℕ) (t : List Float). sound v t list' home' a.blocks.now) e.0 e.1 ∙ good_of _ _ _ _ _ good';
      pending = ap₂ (λ (v : List ℕ) (t : List Float). pend v t list' a.blocks.now) e.0 e.1 ∙ pend';
      same_settings = subst (λ (v : List ℕ). SameSettings w v) (sym e.0) (less-settings w tm a.l a.j g.tab g.places p.0 p.1);
      counted = ap (λ (v : List ℕ). units v a.l) e.0 ∙ less_settled w tm a.l a.j g.tab g.places p.0 p.1;
    }
