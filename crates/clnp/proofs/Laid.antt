-- PDUs that are laid out as ISO 8473 draws them are read as what was laid out.
use Prim.Native.Nat.{ℕ, ◌+◌, ◌*◌, ◌-◌, ◌%◌, ◌≤◌, ◌<◌}
use mathlib.Core.Bool.{Bool, true, false, not, ◌&&◌, ◌||◌}
use mathlib.Core.List.{List, [], ◌∷◌, ◌++◌, append_assoc}
use mathlib.Core.Path.{◌≡◌, refl, sym, ap, ap₂, ◌∙◌}
use native.Mathlib.Omega.{arith}
use borrow.Author.Tests.{lt-ltb, le-leb, lt-leb, eq-eqb, ne_eqb, eqb-true, eqb-false}
use lib.Dec.{leb, eqb}
use lib.ListN.{length, get_or, take, drop, length-append}
use lib.Seq.{take_at, drop_at}
use Rattle.octets.specs.Text.{pick}
use Rattle.octets.specs.Read.{be16, octets_of}
use Rattle.octets.proofs.Stands.{two_back, next, octet_of, first_of}
use Rattle.std.specs.Prelude.{Some, None}
use Rattle.cells.specs.Items.{none}
use Rattle.cotp.specs.Tpdu.{head_of}
use Rattle.clnp.specs.Segment.{headed, sp, more, report, behind, seg_at, fields_at, segment_of, address_ok, addresses_of, is_piece, tpdu_of}
use Rattle.clnp.specs.Pdu.{offset_of, segmented, options_at, option_part, cotp_member, data_member}
use Rattle.clnp.specs.Layout.{Fields, Right, address_laid, segment_laid, behind_fixed, header_len, fixed_laid, laid}
use Rattle.clnp.specs.declared.segment.Segment.{Segment}
use Rattle.clnp.proofs.Headers.{addresses, is-full, no_sp, is-there, two, a_piece, whole}

-- ---- lengths
long : (f : Fields) → length (laid f) ≡ header_len f + length f.body
long f = omega (arith, length-append (behind_fixed f) f.body)

-- ---- the fixed part
-- the flags' octet
abbrev flags : Fields → ℕ
flags f = f.sp * 128 + f.ms * 64 + f.er * 32 + f.type

sp-by : (n rest : ℕ) → n < 2 → rest < 128 → (b : Bool) → eqb n 1 ≡ b → leb 128 (n * 128 + rest) ≡ b
sp-by n rest h l true e = le-leb 128 (n * 128 + rest) (omega (arith, eqb-true n 1 e))
sp-by n rest h l false e = lt-leb 128 (n * 128 + rest) (omega (arith, h, l, eqb-false n 1 e))

pub record HeadRead (s : List ℕ) (f : Fields) : Type 0 where
  pub full : headed s ≡ true
  pub header : get_or s 1 0 ≡ header_len f
  pub version : get_or s 2 0 ≡ f.version
  pub lifetime : get_or s 3 0 ≡ f.lifetime
  pub seg_len : be16 (get_or s 5 0) (get_or s 6 0) ≡ f.seg_len
  pub type : get_or s 4 0 % 32 ≡ f.type
  pub permitted : sp s ≡ eqb f.sp 1
  pub more-back : more s ≡ f.ms
  pub report-back : report s ≡ f.er

module _ (f : Fields) (r : Right f) where
  full_back : headed (laid f) ≡ true
  full_back =
      let n : length (laid f) ≡ header_len f + length f.body = long f in
      is-full (laid f) (omega arith) refl (omega arith) (omega arith)

  sp_back : sp (laid f) ≡ eqb f.sp 1
  sp_back =
      let rest : ℕ = f.ms * 64 + f.er * 32 + f.type in
      let e : flags f ≡ f.sp * 128 + rest = omega arith in
      ap (leb 128) e ∙ sp-by f.sp rest r.flags.0 (omega (arith, r.flags.1, r.flags.2, r.flags.3)) (eqb f.sp 1) refl

  pub head-back : HeadRead (laid f) f
  head-back = record {
    full = full_back;
    header = refl;
    version = refl;
    lifetime = refl;
    seg_len = two_back f.seg_len [] r.numbers.0;
    type = omega (arith, r.flags.3);
    permitted = sp_back;
    more-back = omega (arith, r.flags.1, r.flags.2, r.flags.3);
    report-back = omega (arith, r.flags.2, r.flags.3);
  }

-- ---- the parts of the header, each at its place
behind-all : (a b c d e : List ℕ) → (a ++ (b ++ (c ++ d))) ++ e ≡ a ++ (b ++ (c ++ (d ++ e)))
behind-all a b c d e =
    append_assoc a (b ++ (c ++ d)) e ∙ ap (λ (z : List ℕ). a ++ z) (append_assoc b (c ++ d) e ∙ ap (λ (z : List ℕ). b ++ z) (append_assoc c d e))

abbrev pub src_at : Fields → ℕ
src_at f = 10 + length f.dst

abbrev pub part_at : Fields → ℕ
part_at f = 11 + length f.dst + length f.src

module _ (f : Fields) where
  -- from the segmentation part on, and from the source address on
  abbrev from_part : List ℕ
  from_part = segment_laid f ++ (f.options ++ f.body)

  abbrev from_src : List ℕ
  from_src = address_laid f.src ++ from_part

  drop-dst : drop 10 (laid f) ≡ f.dst ++ from_src
  drop-dst = behind-all f.dst (address_laid f.src) (segment_laid f) f.options f.body

  drop-src : drop (src_at f) (laid f) ≡ from_src
  drop-src = next (laid f) f.dst from_src 10 drop-dst

  drop-src-value : drop (src_at f + 1) (laid f) ≡ f.src ++ from_part
  drop-src-value = next (laid f) (length f.src ∷ []) (f.src ++ from_part) (src_at f) drop-src

  drop-part : drop (part_at f) (laid f) ≡ from_part
  drop-part =
      let m : part_at f ≡ src_at f + 1 + length f.src = omega arith in
      ap (λ (n : ℕ). drop n (laid f)) m ∙ next (laid f) f.src from_part (src_at f + 1) drop-src-value

  -- the header's length, part by part
  header-long : header_len f ≡ part_at f + (length (segment_laid f) + length f.options)
  header-long =
      let c : List ℕ = segment_laid f ++ f.options in
      omega (arith, length-append f.dst (address_laid f.src ++ c), length-append f.src c, length-append (segment_laid f) f.options)

  src-len : get_or (laid f) (src_at f) 0 ≡ length f.src
  src-len = first_of (laid f) from_src (src_at f) drop-src

  pub part-at : seg_at (laid f) ≡ part_at f
  part-at = omega (arith, src-len)

-- ---- addresses
pub record AddressesRead (s : List ℕ) (f : Fields) : Type 0 where
  pub both : addresses_of s ≡ addresses 10 (length f.dst) (11 + length f.dst) (length f.src)
  pub dst : take (length f.dst) (drop 10 s) ≡ f.dst
  pub src : take (length f.src) (drop (11 + length f.dst) s) ≡ f.src
  pub behind-dst : behind s 9 ≡ 10 + length f.dst
  pub behind-src : seg_at s ≡ 11 + length f.dst + length f.src

module _ (f : Fields) (r : Right f) where
  dst-ok : address_ok (laid f) 9 ≡ true
  dst-ok =
      let s : List ℕ = laid f in
      let d : ℕ = length f.dst in
      let n : 11 + d ≤ length s = omega (arith, long f, header-long f) in
      simp (lt-ltb 9 (length s) (omega arith), le-leb (10 + d) (length s) (omega arith), le-leb d 20 r.addresses.0)

  src-ok : address_ok (laid f) (src_at f) ≡ true
  src-ok =
      let s : List ℕ = laid f in
      let e : get_or s (src_at f) 0 ≡ length f.src = src-len f in
      let n : part_at f ≤ length s = omega (arith, long f, header-long f) in
      simp (e, lt-ltb (src_at f) (length s) (omega arith), le-leb (src_at f + 1 + length f.src) (length s) (omega arith), le-leb (length f.src) 20 r.addresses.1)

  pub addresses-back : AddressesRead (laid f) f
  addresses-back =
      let d : ℕ = length f.dst in
      let m : src_at f + 1 ≡ 11 + d = omega arith in
      record {
        both = two (laid f) dst-ok src-ok ∙ (λ i. addresses 10 d (m i) (src-len f i));
        dst = ap (take d) (drop-dst f) ∙ take_at f.dst (from_src f) d refl;
        src = ap (λ (n : ℕ). take (length f.src) (drop n (laid f))) (sym m) ∙ ap (take (length f.src)) (drop-src-value f) ∙ take_at f.src (from_part f) (length f.src) refl;
        behind-dst = refl;
        behind-src = part-at f;
      }

-- ---- the segmentation part
abbrev pub fields : ℕ → ℕ → ℕ → ℕ → ℕ → Segment
fields id offset total more header = record { id = id; offset = offset; total = total; more = more; header = header }

segment_laid_lem : (f : Fields) → f.sp ≡ 1 → segment_laid f ≡ octets_of 2 f.id ++ (octets_of 2 f.offset ++ octets_of 2 f.total)
segment_laid_lem f h = ap (λ (b : Bool). pick b (octets_of 2 f.id ++ (octets_of 2 f.offset ++ octets_of 2 f.total)) []) (eq-eqb f.sp 1 h)

module _ (f : Fields) (r : Right f) where
  fields_back : f.sp ≡ 1 → fields_at (laid f) (part_at f) ≡ fields f.id f.offset f.total f.ms (header_len f)
  fields_back h =
      let s : List ℕ = laid f in
      let p : ℕ = part_at f in
      let tail : List ℕ = f.options ++ f.body in
      let all : List ℕ = octets_of 2 f.id ++ (octets_of 2 f.offset ++ (octets_of 2 f.total ++ tail)) in
      let w : drop p s ≡ all = drop-part f ∙ ap (λ (z : List ℕ). z ++ tail) (segment_laid_lem f h) in
      let at : (k : ℕ) → get_or s (p + k) 0 ≡ get_or all k 0 = λ k. octet_of s all p k w in
      let a : be16 (get_or s p 0) (get_or s (p + 1) 0) ≡ f.id = ap₂ be16 (first_of s all p w) (at 1) ∙ two_back f.id [] r.numbers.1 in
      let b : be16 (get_or s (p + 2) 0) (get_or s (p + 3) 0) ≡ f.offset = ap₂ be16 (at 2) (at 3) ∙ two_back f.offset [] r.numbers.2 in
      let c : be16 (get_or s (p + 4) 0) (get_or s (p + 5) 0) ≡ f.total = ap₂ be16 (at 4) (at 5) ∙ two_back f.total [] r.numbers.3 in
      λ i. fields (a i) (b i) (c i) ((head-back f r).more-back i) (header_len f)

  pub segment_back : f.sp ≡ 1 → segment_of (laid f) ≡ Some (fields f.id f.offset f.total f.ms (header_len f))
  segment_back h =
      let s : List ℕ = laid f in
      let n : length s ≡ part_at f + (6 + length f.options) + length f.body = omega (arith, long f, header-long f, ap length (segment_laid_lem f h)) in
      let at : seg_at s ≡ part_at f = part-at f in
      is-there s (full_back f r) (omega (arith, h)) (omega (arith, n)) (omega (arith, n, at)) ∙ ap (λ (p : ℕ). Some (fields_at s p)) at ∙ ap Some (fields_back h)

  pub segment_absent : f.sp ≡ 0 → segment_of (laid f) ≡ None
  segment_absent h = no_sp (laid f) (full_back f r) (omega (arith, h, r.flags.1, r.flags.2, r.flags.3))

-- ---- options and data
pick-long : (b : Bool) (a : List ℕ) → length (pick b a []) ≡ pick b (length a) 0
pick-long true a = refl
pick-long false a = refl

pub record DataRead (s : List ℕ) (f : Fields) : Type 0 where
  pub body : drop (header_len f) s ≡ f.body
  pub options-at : options_at s ≡ 11 + length f.dst + length f.src + pick (eqb f.sp 1) 6 0
  pub options : option_part s ≡ f.options

module _ (f : Fields) (r : Right f) where
  place : options_at (laid f) ≡ part_at f + pick (eqb f.sp 1) 6 0
  place = λ i. part-at f i + pick (sp_back f r i) 6 0

  pub data_back : DataRead (laid f) f
  data_back =
      let s : List ℕ = laid f in
      let l : length (segment_laid f) ≡ pick (eqb f.sp 1) 6 0 = pick-long (eqb f.sp 1) (octets_of 2 f.id ++ (octets_of 2 f.offset ++ octets_of 2 f.total)) in
      let p : options_at s ≡ part_at f + length (segment_laid f) = place ∙ ap (λ (n : ℕ). part_at f + n) (sym l) in
      let d : drop (options_at s) s ≡ f.options ++ f.body =
      ap (λ (n : ℕ). drop n s) p ∙ next s (segment_laid f) (f.options ++ f.body) (part_at f) (drop-part f) in
      let n : length f.options ≡ header_len f - options_at s = omega (arith, p, header-long f) in
      record {
        body = drop_at (fixed_laid f ++ behind_fixed f) f.body (header_len f) (omega arith);
        options-at = place;
        options = ap (take (header_len f - options_at s)) d ∙ take_at f.options f.body (header_len f - options_at s) n;
      }

-- ---- the TPDU
-- a PDU that is no piece of a unit
pub data Whole (f : Fields) : Type 0 where
  unpermitted : f.sp ≡ 0 → Whole f
  alone : f.ms ≡ 0 → f.offset ≡ 0 → Whole f

module _ (f : Fields) (r : Right f) where
  -- with SP, by the segmentation part
  piece_is : f.sp ≡ 1 → (sp (laid f) && is_piece (segment_of (laid f))) ≡ (eqb f.ms 1 || not (eqb f.offset 0))
  piece_is h = ap (λ (b : Bool). b && is_piece (segment_of (laid f))) (sp_back f r ∙ eq-eqb f.sp 1 h) ∙ ap is_piece (segment_back f r h)

  no_piece_lem : f.sp ≡ 0 → (sp (laid f) && is_piece (segment_of (laid f))) ≡ false
  no_piece_lem h = ap (λ (b : Bool). b && is_piece (segment_of (laid f))) (sp_back f r ∙ ne_eqb f.sp 1 (λ q. omega arith))

  not_piece : Whole f → (b : Bool) → eqb f.sp 1 ≡ b → (sp (laid f) && is_piece (segment_of (laid f))) ≡ false
  not_piece (unpermitted h) b e = no_piece_lem h
  not_piece (alone m o) true e = piece_is (eqb-true f.sp 1 e) ∙ ap₂ (λ (x y : ℕ). eqb x 1 || not (eqb y 0)) m o
  not_piece (alone m o) false e = no_piece_lem (omega (arith, r.flags.0, eqb-false f.sp 1 e))

  dt-back : f.type ≡ 0x1C → get_or (laid f) 4 0 % 32 ≡ 0x1C
  dt-back t = (head-back f r).type ∙ t

  pub tpdu_back : f.type ≡ 0x1C → Whole f → tpdu_of (laid f) ≡ Some (header_len f)
  tpdu_back t w = whole (laid f) (full_back f r) (dt-back t) (not_piece w (eqb f.sp 1) refl)

  -- none of a piece
  pub tpdu_absent : f.type ≡ 0x1C → f.sp ≡ 1 → (eqb f.ms 1 || not (eqb f.offset 0)) ≡ true → tpdu_of (laid f) ≡ None
  tpdu_absent t h p = a_piece (laid f) (full_back f r) (dt-back t) (piece_is h ∙ p)

  -- the record has no TPDU where the more bit is set, also without SP, where the TPDU alone is still given
  pub more-segmented : f.ms ≡ 1 → segmented (laid f) ≡ true
  more-segmented m = ap (λ (n : ℕ). eqb n 1 || not (eqb (offset_of (laid f)) 0)) ((head-back f r).more-back ∙ m)

  pub more-none : f.ms ≡ 1 → data_member (laid f) ≡ none
  more-none m =
      let n : ℕ = get_or (laid f) 1 0 in
      ap (λ (b : Bool). pick b none (cotp_member n (drop n (laid f)) (head_of (drop n (laid f))))) (more-segmented m)

  pub unpermitted-more : f.type ≡ 0x1C → f.sp ≡ 0 → f.ms ≡ 1 → (tpdu_of (laid f) ≡ Some (header_len f)) × (data_member (laid f) ≡ none)
  unpermitted-more t h m = (tpdu_back t (unpermitted h), more-none m)
