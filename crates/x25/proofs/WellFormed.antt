-- The cells of a readable packet read back as its record.
use Rattle.std.specs.Prelude.{Option, Some, None}
use Prim.Native.Nat.{ℕ, ◌+◌, ◌/◌, ◌%◌, ◌≤◌, ◌<◌}
use mathlib.Core.Path.{◌≡◌, refl, sym, ap, subst, ◌∙◌}
use mathlib.Core.List.{List}
use mathlib.Core.Bool.{true, false}
use mathlib.Core.Option.{some}
use native.Mathlib.Omega.{arith}
use lib.Dec.{eqb}
use lib.ListN.{length, get_or, take, drop, length-take, length-drop}
use Rattle.octets.proofs.Picks.{pick_elim}
use Rattle.names.specs.Numbers.{last_text, k_ps, k_pr, k_more, k_cause, k_cause_text, k_diagnostic, k_diagnostic_text, k_facilities, t_aca, t_deflate, t_lref, t_lref_can}
use Rattle.cells.specs.Items.{Items, none, leaf, flag, ◌⊕◌}
use Rattle.cells.specs.Read.{items_of}
use Rattle.cells.specs.Good.{Key, GoodRow, Good}
use Rattle.cells.specs.Walk.{step_of}
use Rattle.cells.specs.declared.entry.Body.{Body}
use Rattle.cells.proofs.Rows.{good-⊕, good_in_list}
use Rattle.cells.proofs.Walks.{Each, all}
use Rattle.cells.proofs.WellFormed.{reads-back}
use Rattle.fields.specs.Member.{opt_text}
use Rattle.fields.proofs.Goods.{text-good, take-small, drop-small}
use Rattle.x25.specs.Facility.{fac_at, facility, fac_step, fac_items}
use Rattle.x25.specs.Sndcf.{algorithm, algorithms, version_member, sndcf_member}
use Rattle.x25.specs.Packet.{opt_number, opt_sndcf, fac_member, members_of, packet_of, x25_cells}
use Rattle.x25.specs.declared.packet.Packet.{Packet}
use Rattle.x25.proofs.Facilities.{Within, fac_within}
use Rattle.x25.proofs.Members.{head_of, causes_of, calls_of, members_are}
use Rattle.x25.proofs.Cells.{cells_are}
use Rattle.x25.proofs.Cases.{fits}
use Rattle.x25.proofs.Numbers.{Low, numbers}

-- ---- rows are good, for an input of n octets
module _ (n : ℕ) where
  abbrev good : Items → Type 0
  good c = GoodRow n false 2 c

  module _ (base : ℕ) (s : List ℕ) (h : base + length s ≤ n) (small : (i : ℕ) → get_or s i 0 < 256) where
    each : (i : ℕ) (e : Option Body) → Within (length s) i e
        → Each (fac_step base s) (λ k. none) ◌⊕◌ (length s) good good (λ k. tt) (λ c r q g. good-⊕ n false 2 c r q g) (step_of (λ start len. facility (get_or s i 0) (base + start) len) e)
    each i None w = tt
    each i (Some b) w =
        let k : Key true 46 = (omega arith, omega arith) in
        let l : Key true 47 = (omega arith, omega arith) in
        let m : base + b.start + b.len ≤ n = omega (arith, w.1) in
        (omega arith, refl, (omega arith, k, small i, (omega arith, l, m, tt)), tt)

    fac_good : GoodRow n false 2 (fac_items base s)
    fac_good = all (fac_step base s) (λ k. none) ◌⊕◌ (length s) good good (λ k. tt) (λ c r q g. good-⊕ n false 2 c r q g) (λ i l. each i (fac_at s i) (fac_within s i))

  number-good : (f : ℕ) (o : Option ℕ) → Key true f → Low o → GoodRow n true 1 (opt_number f o)
  number-good f None k h = tt
  number-good f (Some v) k h = (omega arith, k, h, tt)

  algorithm-good : (bit t : ℕ) → 0 < t → t ≤ last_text → GoodRow n false 3 (algorithm bit t)
  algorithm-good bit t p h = pick_elim (GoodRow n false 3) (eqb bit 1) (λ e. (omega arith, refl, (p, h), tt)) (λ e. tt)

  algorithms-good : (o : ℕ) → GoodRow n false 3 (algorithms o)
  algorithms-good o =
      let a : Items = algorithm (o / 64 % 2) t_aca in
      let b : Items = algorithm (o / 32 % 2) t_deflate in
      let c : Items = algorithm (o / 2 % 2) t_lref in
      let d : Items = algorithm (o % 2) t_lref_can in
      good-⊕ n false 3 a (b ⊕ (c ⊕ d)) (algorithm-good (o / 64 % 2) t_aca (omega arith) (omega arith))
      (good-⊕ n false 3 b (c ⊕ d) (algorithm-good (o / 32 % 2) t_deflate (omega arith) (omega arith))
      (good-⊕ n false 3 c d (algorithm-good (o / 2 % 2) t_lref (omega arith) (omega arith)) (algorithm-good (o % 2) t_lref_can (omega arith) (omega arith))))

  version-good : (v : ℕ) → v < 4294967296 → GoodRow n true 2 (version_member v)
  version-good v h = pick_elim (GoodRow n true 2) (eqb v 0) (λ e. tt) (λ e. (omega arith, (omega arith, omega arith), h, tt))

  sndcf-good : (o v : ℕ) → o < 4294967296 → v < 4294967296 → GoodRow n true 1 (sndcf_member o v)
  sndcf-good o v h g =
      let flagged : o / 16 % 2 < 2 = omega arith in (
        omega arith,
        (omega arith, omega arith),
        (omega arith, (omega arith, omega arith), h, (omega arith, (omega arith, omega arith), algorithms-good o, (omega arith, (omega arith, omega arith), flagged, version-good v g))),
        tt,
      )

  negotiated_good : (o : Option ℕ) (v : ℕ) → Low o → v < 4294967296 → GoodRow n true 1 (opt_sndcf o v)
  negotiated_good None v h g = tt
  negotiated_good (Some o) v h g = sndcf-good o v h g

module _ (s : List ℕ) (small : (i : ℕ) → get_or s i 0 < 256) (readable : (packet_of s).kind ≡ 0 → ⊥) where
  abbrev x : Packet
  x = packet_of s

  fac_member_good : GoodRow (length s) true 1 (fac_member s x)
  fac_member_good =
      let p : List ℕ = take x.faclen (drop x.facat s) in
      let h : x.facat + length p ≤ length s = omega (arith, (fits s).0, length-take x.faclen (drop x.facat s), length-drop x.facat s) in
      good_in_list (length s) true 1 k_facilities (fac_items x.facat p) (omega arith) (omega arith, omega arith)
      (fac_good (length s) x.facat p h (take-small x.faclen (drop x.facat s) (drop-small x.facat s small)))

  head-good : GoodRow (length s) true 1 (head_of x)
  head-good =
      let w = numbers s small in
      let named : 0 < x.kind = omega (arith, readable) in
      let l : Items = opt_number k_ps x.ps in
      let r : Items = opt_number k_pr x.pr in
      let m : Items = leaf k_more (flag x.more) none in (
        omega arith,
        (omega arith, omega arith),
        w.lcn-low,
        (
          omega arith,
          (omega arith, omega arith),
          (named, w.named),
          good-⊕ (length s) true 1 l (r ⊕ m) (number-good (length s) k_ps x.ps (omega arith, omega arith) w.ps-low)
              (good-⊕ (length s) true 1 r m (number-good (length s) k_pr x.pr (omega arith, omega arith) w.pr-low) (omega arith, (omega arith, omega arith), w.more-low, tt)),
        ),
      )

  causes_good : GoodRow (length s) true 1 (causes_of x)
  causes_good =
      let w = numbers s small in
      let a : Items = opt_number k_cause x.cause in
      let b : Items = opt_text k_cause_text x.causetext in
      let c : Items = opt_number k_diagnostic x.diagnostic in
      let d : Items = opt_text k_diagnostic_text x.diagtext in
      good-⊕ (length s) true 1 a (b ⊕ (c ⊕ d)) (number-good (length s) k_cause x.cause (omega arith, omega arith) w.cause-fits)
      (good-⊕ (length s) true 1 b (c ⊕ d) (text-good (length s) 1 k_cause_text x.causetext (omega arith) (omega arith, omega arith) w.causetext-low)
      (good-⊕ (length s) true 1 c d (number-good (length s) k_diagnostic x.diagnostic (omega arith, omega arith) w.diagnostic-low) (text-good (length s) 1 k_diagnostic_text x.diagtext (omega arith) (omega arith, omega arith) w.diagtext-low)))

  pub good_members : Good (length s) (members_of s x)
  good_members =
      let w = numbers s small in
      let calls : Items = calls_of s x in
      subst (GoodRow (length s) true 1) (sym (members_are s x))
      (good-⊕ (length s) true 1 (head_of x) (causes_of x ⊕ calls) head-good
      (good-⊕ (length s) true 1 (causes_of x) calls causes_good
      (good-⊕ (length s) true 1 (fac_member s x) (opt_sndcf x.sndcf x.version) fac_member_good (negotiated_good (length s) x.sndcf x.version w.sndcf-low w.version_low))))

  -- for every input of at most 65535 octets
  pub x25_reads-back : length s ≤ 65535 → items_of (length s) (x25_cells s) ≡ some (members_of s x)
  x25_reads-back h = ap (items_of (length s)) (sym (cells_are s x refl readable)) ∙ reads-back (length s) (members_of s x) (omega arith) good_members
