-- Reachability that is laid out as ISO/IEC 10747 draws it is read as what was laid out.
use Rattle.std.specs.Prelude.{None}
use Prim.Native.Nat.{ℕ, ◌+◌, ◌/◌, ◌≤◌, ◌<◌}
use mathlib.Core.Bool.{Bool, true, false, ◌&&◌}
use mathlib.Core.List.{List, [], ◌∷◌, ◌++◌, append_assoc}
use mathlib.Core.Path.{◌≡◌, refl, sym, ap, ◌∙◌}
use native.Mathlib.Omega.{arith}
use borrow.Author.Tests.{lt-leb, le-leb, eqb-true, ltb-true, ltb-false}
use lib.Dec.{eqb, ltb, leb}
use lib.ListN.{length, get_or, take, drop, length-append}
use Rattle.octets.specs.Text.{pick}
use Rattle.octets.specs.Read.{octets_of}
use Rattle.octets.proofs.Picks.{pick_elim}
use Rattle.names.specs.Numbers.{k_proto_type, k_clnp, k_prefixes}
use Rattle.cells.specs.Items.{Items, none, leaf, group, number, flag, prefix, ◌⊕◌}
use Rattle.cells.specs.Walk.{body, stop, entry, step_of, items_from}
use Rattle.cells.proofs.Walks.{turn, done, over}
use Rattle.idrp.specs.Update.{at16, prefix_step, prefix_items, nlri_addresses, nlri_len, nlri_at, is_clnp, nlri, nlri_step}
use Rattle.idrp.specs.Layout.{Prefix, prefixes_laid, prefixes_read, PrefixesRight, PrefixesStand, Reach, reach_laid, reaches_laid, clnp_reach, reach_read, reaches_read, ReachesRight, ReachesStand, reaches_given}
use Rattle.idrp.proofs.Stands.{From, long, octet, first, next, part-at, two_at}
use Rattle.idrp.proofs.UpdateLaid.{head_of}

-- ---- prefixes
abbrev prefix_laid : Prefix → List ℕ
prefix_laid p = p.bits ∷ p.octets

module _ (base : ℕ) (s : List ℕ) (p : Prefix) (rest : List ℕ) (i : ℕ) (w : From s i (prefix_laid p ++ rest)) (h : length p.octets ≡ (p.bits + 7) / 8) where
  abbrev m : ℕ
  m = length p.octets

  prefix-step : prefix_step base s i ≡ entry (i + 1 + m) (leaf 0 (prefix (base + i + 1) m p.bits) none)
  prefix-step =
      let d : get_or s i 0 ≡ p.bits = first s (prefix_laid p ++ rest) i w in
      let c : (get_or s i 0 + 7) / 8 ≡ m = ap (λ (b : ℕ). (b + 7) / 8) d ∙ sym h in
      let l : length s ≡ i + (1 + m + length rest) = omega (arith, long s (prefix_laid p ++ rest) i w, length-append p.octets rest) in
      let t : leb (i + 1 + (get_or s i 0 + 7) / 8) (length s) ≡ true = le-leb (i + 1 + (get_or s i 0 + 7) / 8) (length s) (omega (arith, c, l)) in
      let e : base + (i + 1) ≡ base + i + 1 = omega arith in
      (λ j. step_of (λ start n. leaf 0 (prefix (base + start) n (d j)) none) (pick (t j) (body (i + 1) (c j)) None))
      ∙ ap (λ (k : ℕ). entry (i + 1 + m) (leaf 0 (prefix k m p.bits) none)) e

  prefix-turn : items_from (prefix_step base s) (length s) i ≡ leaf 0 (prefix (base + i + 1) m p.bits) none ⊕ items_from (prefix_step base s) (length s) (i + 1 + m)
  prefix-turn =
      let l : i < length s = omega (arith, long s (prefix_laid p ++ rest) i w) in
      turn (prefix_step base s) (λ n. none) ◌⊕◌ (length s) i (i + 1 + m) (leaf 0 (prefix (base + i + 1) m p.bits) none) l (omega arith) prefix-step

prefixes-at : (base : ℕ) (s : List ℕ) (ps : List Prefix) (i : ℕ) → PrefixesRight ps → From s i (prefixes_laid ps) → items_from (prefix_step base s) (length s) i ≡ prefixes_read (base + i) ps
unfolding prefixes_laid PrefixesRight prefixes_read
prefixes-at base s [] i r w = over (prefix_step base s) (λ n. none) ◌⊕◌ (length s) i (omega (arith, long s [] i w))
prefixes-at base s (p ∷ ps) i r w =
    let m : ℕ = length p.octets in
    let e : base + (i + 1 + m) ≡ base + i + 1 + m = omega arith in
    prefix-turn base s p (prefixes_laid ps) i w r.0
    ∙ ap (λ (x : Items). leaf 0 (prefix (base + i + 1) m p.bits) none ⊕ x)
    (prefixes-at base s ps (i + 1 + m) r.1 (next s (prefix_laid p) (prefixes_laid ps) i (i + 1 + m) (omega arith) w) ∙ ap (λ (k : ℕ). prefixes_read k ps) e)

pub prefixes-back : (base : ℕ) (ps : List Prefix) → PrefixesRight ps → prefix_items base (prefixes_laid ps) ≡ prefixes_read base ps
prefixes-back base ps r =
    let e : base + 0 ≡ base = omega arith in
    prefixes-at base (prefixes_laid ps) ps 0 r (omega arith, refl) ∙ ap (λ (k : ℕ). prefixes_read k ps) e

prefixes_stand : (s : List ℕ) (ps : List Prefix) (rest : List ℕ) (i : ℕ) → From s i (prefixes_laid ps ++ rest) → PrefixesStand s i ps
unfolding prefixes_laid PrefixesStand
prefixes_stand s [] rest i w = tt
prefixes_stand s (p ∷ ps) rest i w =
    let m : ℕ = length p.octets in
    let later : List ℕ = prefixes_laid ps ++ rest in
    let w₂ : From s i (prefix_laid p ++ later) = (w.0, w.1 ∙ append_assoc (prefix_laid p) (prefixes_laid ps) rest) in
    (part-at s p.octets later (i + 1) (next s (p.bits ∷ []) (p.octets ++ later) i (i + 1) refl w₂), prefixes_stand s ps rest (i + 1 + m) (next s (prefix_laid p) later i (i + 1 + m) (omega arith) w₂))

-- ---- an entry
-- a second test counts only where the first holds
and_as : (b x y : Bool) → (b ≡ true → x ≡ y) → (b && x) ≡ (b && y)
and_as true x y f = f refl
and_as false x y f = refl

pub reach-long : (e : Reach) → length (reach_laid e) ≡ 4 + length e.id + length (prefixes_laid e.prefixes)
reach-long e = omega (arith, length-append e.id (octets_of 2 (length (prefixes_laid e.prefixes)) ++ prefixes_laid e.prefixes))

module _ (base : ℕ) (s : List ℕ) (e : Reach) (rest : List ℕ) (i : ℕ) (w : From s i (reach_laid e ++ rest)) where
  abbrev d : ℕ
  d = length e.id

  abbrev laid : List ℕ
  laid = prefixes_laid e.prefixes

  abbrev k : ℕ
  k = length laid

  abbrev two : List ℕ
  two = octets_of 2 k

  entry-long : length s ≡ i + 4 + d + k + length rest
  entry-long = omega (arith, long s (reach_laid e ++ rest) i w, length-append (reach_laid e) rest, reach-long e)

  -- from its protocol's id, from its length, and from its prefixes on
  from-id : From s (i + 2) (e.id ++ (two ++ (laid ++ rest)))
  from-id =
      let a : From s (i + 2) ((e.id ++ (two ++ laid)) ++ rest) = next s (e.proto ∷ d ∷ []) ((e.id ++ (two ++ laid)) ++ rest) i (i + 2) refl w in
      (a.0, a.1 ∙ append_assoc e.id (two ++ laid) rest)

  from-len : From s (i + 2 + d) (two ++ (laid ++ rest))
  from-len = next s e.id (two ++ (laid ++ rest)) (i + 2) (i + 2 + d) refl from-id

  pub from-prefixes : From s (i + 4 + d) (laid ++ rest)
  from-prefixes = next s two (laid ++ rest) (i + 2 + d) (i + 4 + d) (omega arith) from-len

  id-len : get_or s (i + 1) 0 ≡ d
  id-len = octet s (reach_laid e ++ rest) i 1 w

  proto-is : get_or s i 0 ≡ e.proto
  proto-is = first s (reach_laid e ++ rest) i w

  addresses-is : nlri_addresses s i ≡ i + 4 + d
  addresses-is = ap (λ (n : ℕ). i + 4 + n) id-len

  len_is : k < 65536 → nlri_len s i ≡ k
  len_is h = ap (λ (n : ℕ). at16 s (i + 2 + n)) id-len ∙ two_at s (i + 2 + d) k (laid ++ rest) h from-len

  found : k < 65536 → i + 7 ≤ length s → nlri_at s i ≡ body (i + 4 + d) k
  unfolding nlri_at
  found h l =
      let a : nlri_addresses s i ≡ i + 4 + d = addresses-is in
      let c : nlri_len s i ≡ k = len_is h in
      let x : leb (i + 7) (length s) ≡ true = le-leb (i + 7) (length s) l in
      let y : leb (nlri_addresses s i) (length s) ≡ true = le-leb (nlri_addresses s i) (length s) (omega (arith, a, entry-long)) in
      let z : leb (nlri_addresses s i + nlri_len s i) (length s) ≡ true = le-leb (nlri_addresses s i + nlri_len s i) (length s) (omega (arith, a, c, entry-long)) in
      λ j. pick (x j) (pick (y j) (pick (z j) (body (a j) (c j)) None) None) None

  clnp_is : is_clnp s i ≡ clnp_reach e
  clnp_is =
      (λ j. eqb (proto-is j) 1 && (eqb (id-len j) 1 && eqb (get_or s (i + 2) 0) 0x81))
      ∙ ap (λ (b : Bool). eqb e.proto 1 && b)
      (and_as (eqb d 1) (eqb (get_or s (i + 2) 0) 0x81) (eqb (get_or e.id 0 0) 0x81)
      (λ t. let o : d ≡ 1 = eqb-true d 1 t in
      ap (λ (n : ℕ). eqb n 0x81) (first s (e.id ++ (two ++ (laid ++ rest))) (i + 2) from-id ∙ head_of e.id (two ++ (laid ++ rest)) (omega (arith, o)))))

  prefixes-is : PrefixesRight e.prefixes → prefix_items (base + (i + 4 + d)) (take k (drop (i + 4 + d) s)) ≡ prefixes_read (base + i + 4 + d) e.prefixes
  prefixes-is r =
      let q : base + (i + 4 + d) ≡ base + i + 4 + d = omega arith in
      ap (prefix_items (base + (i + 4 + d))) (part-at s laid rest (i + 4 + d) from-prefixes) ∙ prefixes-back (base + (i + 4 + d)) e.prefixes r ∙ ap (λ (n : ℕ). prefixes_read n e.prefixes) q

  nlri-is : PrefixesRight e.prefixes → nlri base s i (i + 4 + d) k ≡ reach_read (base + i) e
  nlri-is r =
      λ j. group true 0 (leaf k_proto_type (number (proto-is j)) none ⊕ (leaf k_clnp (flag (pick (clnp_is j) 1 0)) none ⊕ group false k_prefixes (prefixes-is r j) none)) none

  -- a walk goes over it
  pub reach-turn : k < 65536 → PrefixesRight e.prefixes → i + 7 ≤ length s
      → items_from (nlri_step base s) (length s) i ≡ reach_read (base + i) e ⊕ items_from (nlri_step base s) (length s) (i + length (reach_laid e))
  reach-turn h r l =
      let q : i + 4 + d + k ≡ i + length (reach_laid e) = omega (arith, reach-long e) in
      let step : nlri_step base s i ≡ entry (i + length (reach_laid e)) (reach_read (base + i) e) =
      ap (step_of (λ start n. nlri base s i start n)) (found h l) ∙ (λ j. entry (q j) (nlri-is r j)) in
      turn (nlri_step base s) (λ n. none) ◌⊕◌ (length s) i (i + length (reach_laid e)) (reach_read (base + i) e) (omega arith) (omega (arith, reach-long e)) step

-- ---- entries, up to a last one of under seven octets
short-stop : (base : ℕ) (s : List ℕ) (i : ℕ) → length s < i + 7 → nlri_step base s i ≡ stop
unfolding nlri_at
short-stop base s i h =
    ap (λ (b : Bool). step_of (λ start n. nlri base s i start n) (pick b (pick (leb (nlri_addresses s i) (length s)) (pick (leb (nlri_addresses s i + nlri_len s i) (length s)) (body (nlri_addresses s i) (nlri_len s i)) None) None) None)) (lt-leb (i + 7) (length s) h)

module _ (base : ℕ) (s : List ℕ) where
  abbrev walk : ℕ → Items
  walk i = items_from (nlri_step base s) (length s) i

  ended : (i : ℕ) → From s i [] → walk i ≡ none
  ended i w = over (nlri_step base s) (λ n. none) ◌⊕◌ (length s) i (omega (arith, long s [] i w))

  pub reaches_at : (es : List Reach) (i : ℕ) → ReachesRight es → From s i (reaches_laid es) → walk i ≡ reaches_read (base + i) (reaches_given es)
  unfolding reaches_laid ReachesRight reaches_read reaches_given
  reaches_at [] i r w = ended i w
  reaches_at (e ∷ []) i r w =
      let n : ℕ = length (reach_laid e) in
      let l : length s ≡ i + n = omega (arith, long s (reach_laid e ++ []) i w, length-append (reach_laid e) []) in
      pick_elim (λ (es : List Reach). walk i ≡ reaches_read (base + i) es) (ltb n 7)
      (λ t. done (nlri_step base s) (λ n. none) ◌⊕◌ (length s) i (omega (arith, l, reach-long e)) (short-stop base s i (omega (arith, l, ltb-true n 7 t))))
      (λ t. reach-turn base s e [] i w r.0 r.1.0 (omega (arith, l, ltb-false n 7 t)) ∙ ap (λ (x : Items). reach_read (base + i) e ⊕ x) (ended (i + n) (next s (reach_laid e) [] i (i + n) refl w)))
  reaches_at (e ∷ (f ∷ fs)) i r w =
      let n : ℕ = length (reach_laid e) in
      let later : List ℕ = reaches_laid (f ∷ fs) in
      let l : length s ≡ i + (n + length later) = omega (arith, long s (reach_laid e ++ later) i w, length-append (reach_laid e) later) in
      let m : 4 ≤ length later = omega (arith, length-append (reach_laid f) (reaches_laid fs), reach-long f) in
      let q : base + (i + n) ≡ base + i + n = omega arith in
      reach-turn base s e later i w r.0 r.1.0 (omega (arith, l, m, reach-long e))
      ∙ ap (λ (x : Items). reach_read (base + i) e ⊕ x) (reaches_at (f ∷ fs) (i + n) r.1.1 (next s (reach_laid e) later i (i + n) refl w) ∙ ap (λ (k : ℕ). reaches_read k (reaches_given (f ∷ fs))) q)

pub reaches_stand : (s : List ℕ) (es : List Reach) (i : ℕ) → From s i (reaches_laid es) → ReachesStand s i es
unfolding reaches_laid ReachesStand
reaches_stand s [] i w = tt
reaches_stand s (e ∷ es) i w =
    let n : ℕ = length (reach_laid e) in
    (prefixes_stand s e.prefixes (reaches_laid es) (i + 4 + length e.id) (from-prefixes 0 s e (reaches_laid es) i w), reaches_stand s es (i + n) (next s (reach_laid e) (reaches_laid es) i (i + n) refl w))
