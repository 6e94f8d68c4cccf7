use Prim.Native.Nat.{ℕ, ◌*◌, ◌-◌, ◌≤◌}
use mathlib.Core.Path.{◌≡◌, sym, ap, ◌∙◌}
use mathlib.Core.Bool.{true, false}
use native.Mathlib.Omega.{arith}
use borrow.Author.Tests.{le-leb, lt-leb}
use lib.Dec.{leb}
use Rattle.std.proofs.Common.{Some}
use Rattle.octets.specs.Tests.{all}
use Rattle.octets.proofs.Tests.{all_more}
use Rattle.tables.specs.Tables.{links, blocks_in, reserve, count, link_ok, link_at, used_of, excess_of, tables_ok}
use Rattle.tables.proofs.Laws.{sum-next, settings, link, links_fail, links-hold, short, no_settings, no_links, common}
use Rattle.tables.proofs.checked_used.Goals.{After-past_ok, Else-not-link_ok, then-words-lt1576-via-then-words-lt1576, then-words-lt1576-via-else-words-lt1576+then-not-settings_ok, then-not-past_ok-via-then-not-past_ok, then-not-past_ok-via-else-not-past_ok+then-words-r}
use Rattle.tables.proofs.checked_used.Goals as goal

-- the count of a link that is sound
low : (c : Else-not-link_ok) → count c.args.words.now c.loop-l.l ≤ 1024
low c =
    let w = c.args.words.now in
    let q = settings w (sym c.settings_ok.ensures ∙ c.if-not-settings_ok.false) in
    omega (arith, (link w c.loop-l.l (sym c.link_ok.ensures ∙ c.if-not-link_ok.false)).within, q.capped, q.few-blocks)

each : (c : After-past_ok) → all (link_at c.args.words.now) 16 ≡ c.past_ok.result
each c =
    let w = c.args.words.now in
    let e : c.loop-l.l ≡ links w = omega arith in
    links-hold w (settings w (sym c.settings_ok.ensures ∙ c.if-not-settings_ok.false)).few-links (ap (all (link_ok w)) (sym e) ∙ c.loop-l.invariant.0) ∙ sym c.past_ok.ensures

last : (c : After-past_ok) → c.past_ok.result ≡ true → tables_ok c.args.words.now ≡ leb c.loop-l.over (blocks_in c.args.words.now - links c.args.words.now * reserve c.args.words.now)
last c h =
    let w = c.args.words.now in
    let e : c.loop-l.l ≡ links w = omega arith in
    common w c.if-words-lt1576.false (sym c.settings_ok.ensures ∙ c.if-not-settings_ok.false) (each c ∙ h)
    ∙ ap (λ (x : ℕ). leb x (blocks_in w - links w * reserve w)) (sym (c.loop-l.invariant.2 ∙ ap (excess_of w) e))

pub returns-then-words-lt1576 : goal.returns-then-words-lt1576
returns-then-words-lt1576 c =
    let w = c.args.words.now in
    let bad : tables_ok w ≡ false = elim c.then-words-lt1576.branch [
      | then-words-lt1576-via-then-words-lt1576 v ↦ short w v.if-words-lt1576.true
      | then-words-lt1576-via-else-words-lt1576+then-not-settings_ok v ↦ no_settings w v.if-words-lt1576.false (sym v.settings_ok.ensures ∙ v.if-not-settings_ok.true)
    ] in
    rw bad

pub returns-then-not-link_ok : goal.returns-then-not-link_ok
returns-then-not-link_ok c =
    let w = c.args.words.now in
    let s = sym c.settings_ok.ensures ∙ c.if-not-settings_ok.false in
    rw (no_links w c.if-words-lt1576.false s (links_fail w c.loop-l.l (settings w s).few-links c.loop-l-test.true (sym c.link_ok.ensures ∙ c.if-not-link_ok.true)))

pub overflow_add-used-in-loop-l : goal.overflow_add-used-in-loop-l
overflow_add-used-in-loop-l c =
    let q = settings c.args.words.now (sym c.settings_ok.ensures ∙ c.if-not-settings_ok.false) in
    omega (arith, low (goal.at.overflow_add-used-in-loop-l c).Else-not-link_ok, q.few-links)

pub overflow_add-over : goal.overflow_add-over
overflow_add-over c =
    let q = settings c.args.words.now (sym c.settings_ok.ensures ∙ c.if-not-settings_ok.false) in
    omega (arith, low (goal.at.overflow_add-over c).Else-not-link_ok, q.few-links)

pub loop-l-preserved : goal.loop-l-preserved
loop-l-preserved c =
    let w = c.args.words.now in
    let l = c.loop-l.l in
    let k = low (goal.at.loop-l-preserved c).Else-not-link_ok in (
      all_more (link_ok w) l c.loop-l.invariant.0 (sym c.link_ok.ensures ∙ c.if-not-link_ok.false),
      omega (arith, sum-next (count w) l),
      omega (arith, sum-next (λ l. count w l - reserve w) l),
      omega (arith, k),
      omega (arith, k),
    )

pub returns-then-not-past_ok : goal.returns-then-not-past_ok
returns-then-not-past_ok c =
    let w = c.args.words.now in
    let s = sym c.settings_ok.ensures ∙ c.if-not-settings_ok.false in
    let at = (goal.at.returns-then-not-past_ok c).After-past_ok in
    let bad : tables_ok w ≡ false = elim c.then-not-past_ok.branch [
      | then-not-past_ok-via-then-not-past_ok v ↦ no_links w c.if-words-lt1576.false s (each at ∙ v.if-not-past_ok.true)
      | then-not-past_ok-via-else-not-past_ok+then-words-r v ↦ last at v.if-not-past_ok.false ∙ lt-leb _ _ v.if-words-r.true
    ] in
    rw bad

pub returns : goal.returns
returns c =
    let w = c.args.words.now in
    let e : c.loop-l.l ≡ links w = omega arith in
    let good : tables_ok w ≡ true = last (goal.at.returns c).After-past_ok c.if-not-past_ok.false ∙ le-leb _ _ c.if-words-r.false in
    rw good (ap Some (c.loop-l.invariant.1 ∙ ap (used_of w) e))
