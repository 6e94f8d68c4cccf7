-- TPDUs with numbers that are laid out as X.224 draws them are read as what was laid out, where LI is odd in the extended format alone, which is
-- where their parameters have an even count of octets; and what is read where it is not.
use Prim.Native.Nat.{ℕ, ◌+◌, ◌*◌, ◌/◌, ◌%◌, ◌≤◌, ◌<◌}
use mathlib.Core.Bool.{Bool, true, false, not, ◌&&◌}
use mathlib.Core.List.{List, [], ◌∷◌, ◌++◌}
use mathlib.Core.Path.{◌≡◌, refl, sym, ap, subst, ◌∙◌}
use native.Mathlib.Omega.{arith}
use borrow.Author.Tests.{lt-ltb, ne_eqb, eq-eqb}
use lib.Dec.{eqb}
use lib.ListN.{length, get_or, take, drop, length-append}
use Rattle.std.specs.Prelude.{Option, Some, None}
use Rattle.octets.specs.Text.{pick}
use Rattle.octets.specs.Read.{be16, be32, big_endian}
use Rattle.octets.proofs.Numbers.{be32-is}
use Rattle.octets.proofs.Stands.{two_back, four-back}
use Rattle.names.specs.Numbers.{k_roa, k_eot, k_tpdu_seq, k_credit}
use Rattle.cells.specs.Items.{Items, none, leaf, number, flag, ◌⊕◌}
use Rattle.cotp.specs.Tpdu.{kind_of, numbered, fixed_len, head_of, seq_of, credit_members, fixed_members}
use Rattle.cotp.specs.Segment.{segment_of, user_from}
use Rattle.cotp.specs.Layout.{laid, two, number_laid, data_laid, expedited_laid, credit_laid}
use Rattle.cotp.specs.declared.tpdu.Head.{Head}
use Rattle.cotp.specs.declared.tpdu.Kind.{Kind}
use Rattle.cotp.specs.declared.tpdu.Kind.TheVariants.{Dt, Ed, Ak, Ea, Rj}
use Rattle.cotp.specs.declared.segment.Segment.{Segment}
use Rattle.cotp.proofs.Segments.{piece as piece_of, is-piece}
use Rattle.cotp.proofs.Laid.{head-is, Read, read_by}

-- ---- a number under an end mark
abbrev pub limit : Bool → ℕ
limit extended = pick extended 2147483648 128

-- with parameters and user data behind it
module _ (a b c d mark n : ℕ) (params user : List ℕ) (hm : mark < 2) where
  pub seq_back : (extended : Bool) → n < limit extended → seq_of (a ∷ b ∷ c ∷ d ∷ ((number_laid extended mark n ++ params) ++ user)) extended ≡ n
  seq_back true h = ap (λ (z : ℕ). z % 2147483648) (four-back (mark * 2147483648 + n) (params ++ user) (omega arith)) ∙ omega arith
  seq_back false h = omega arith

  pub mark_back : (extended : Bool) → n < limit extended → get_or (a ∷ b ∷ c ∷ d ∷ ((number_laid extended mark n ++ params) ++ user)) 4 0 / 128 ≡ mark
  mark_back true h = omega arith
  mark_back false h = omega arith

-- ---- heads: the high half of the code octet, the name, and the octets of the fixed part in the extended format, with LI
pub data Numbered : ℕ → Kind → ℕ → Type 0 where
  dt : Numbered 0xF Dt 8
  ed : Numbered 0x1 Ed 8
  ea : Numbered 0x2 Ea 8
  ak : Numbered 0x6 Ak 10
  rj : Numbered 0x5 Rj 10

abbrev pub numbered_head : ℕ → Kind → Bool → ℕ → Head
numbered_head li kind extended long = record { li = li; kind = kind; extended = extended; fixed = pick extended long 5 }

module _ (s : List ℕ) (li : ℕ) (e : get_or s 0 0 ≡ li) (p : 0 < li) (l : li < 255) (extended : Bool) (x : eqb (li % 2) 1 ≡ extended) (n : 5 ≤ length s) where
  numbered-head : {code : ℕ} {kind : Kind} {long : ℕ} → Numbered code kind long → get_or s 1 0 / 16 ≡ code → pick extended long 5 ≤ length s
      → head_of s ≡ Some (numbered_head li kind extended long)
  unfolding kind_of
  numbered-head dt c h = head-is s li Dt extended e p l (omega arith) (ap kind_of c) x h
  numbered-head ed c h = head-is s li Ed extended e p l (omega arith) (ap kind_of c) x h
  numbered-head ea c h = head-is s li Ea extended e p l (omega arith) (ap kind_of c) x h
  numbered-head ak c h = head-is s li Ak extended e p l (omega arith) (ap kind_of c) x h
  numbered-head rj c h = head-is s li Rj extended e p l (omega arith) (ap kind_of c) x h

pick_same : {A : Type 0} (b : Bool) (x : A) → pick b x x ≡ x
pick_same true x = refl
pick_same false x = refl

-- with fewer octets than the fixed part has, none is read
head-none : (s : List ℕ) (kind : Kind) (extended : Bool) → kind_of (get_or s 1 0 / 16) ≡ Some kind
    → (numbered kind && eqb (get_or s 0 0 % 2) 1) ≡ extended → length s < fixed_len kind extended → head_of s ≡ None
unfolding head_of
head-none s kind extended t x h = simp (t, x, lt-ltb (length s) (fixed_len kind extended) h, pick_same)

no_head_lem : (s : List ℕ) {code : ℕ} {kind : Kind} {long : ℕ} → Numbered code kind long → get_or s 1 0 / 16 ≡ code → eqb (get_or s 0 0 % 2) 1 ≡ true → length s < long
    → head_of s ≡ None
unfolding kind_of
no_head_lem s dt c x h = head-none s Dt true (ap kind_of c) x h
no_head_lem s ed c x h = head-none s Ed true (ap kind_of c) x h
no_head_lem s ea c x h = head-none s Ea true (ap kind_of c) x h
no_head_lem s ak c x h = head-none s Ak true (ap kind_of c) x h
no_head_lem s rj c x h = head-none s Rj true (ap kind_of c) x h

numbered-long : {code : ℕ} {kind : Kind} {long : ℕ} → Numbered code kind long → (8 ≤ long) × (long % 2 ≡ 0)
numbered-long dt = (omega arith, refl)
numbered-long ed = (omega arith, refl)
numbered-long ea = (omega arith, refl)
numbered-long ak = (omega arith, refl)
numbered-long rj = (omega arith, refl)

-- LI behind a fixed part with numbers, where the parameters have an even count of octets, and where they have an odd one
even_parity : (extended : Bool) (long p li : ℕ) → long % 2 ≡ 0 → p % 2 ≡ 0 → li + 1 ≡ pick extended long 5 + p → eqb (li % 2) 1 ≡ extended
even_parity true long p li h q e = eq-eqb (li % 2) 1 (omega arith)
even_parity false long p li h q e = ne_eqb (li % 2) 1 (λ z. omega arith)

odd_parity : (extended : Bool) (long p li : ℕ) → long % 2 ≡ 0 → p % 2 ≡ 1 → li + 1 ≡ pick extended long 5 + p → eqb (li % 2) 1 ≡ not extended
odd_parity true long p li h q e = ne_eqb (li % 2) 1 (λ z. omega arith)
odd_parity false long p li h q e = eq-eqb (li % 2) 1 (omega arith)

least : (extended : Bool) (long : ℕ) → 8 ≤ long → 5 ≤ pick extended long 5
least true long h = omega arith
least false long h = omega arith

numbered-read : {code : ℕ} {kind : Kind} {long : ℕ} → Numbered code kind long → (extended : Bool) (front params user : List ℕ) (li dst : ℕ) (fields : Items)
    → length front + 1 ≡ pick extended long 5 → li ≡ length front + length params → li < 255 → length params % 2 ≡ 0 → get_or (laid (front ++ params) user) 1 0 / 16 ≡ code
    → be16 (get_or (laid (front ++ params) user) 2 0) (get_or (laid (front ++ params) user) 3 0) ≡ dst → fixed_members (laid (front ++ params) user) kind extended ≡ fields
    → Read (laid (front ++ params) user) (numbered_head li kind extended long) dst fields params user
numbered-read {code} {kind} {long} k extended front params user li dst fields f l h q c r m =
    let s : List ℕ = laid (front ++ params) user in
    let w : 8 ≤ long = (numbered-long k).0 in
    let b : 5 ≤ pick extended long 5 = least extended long w in
    let z : length (front ++ params) ≡ length front + length params = length-append front params in
    let n : length s ≡ li + 1 + length user = omega (arith, length-append (front ++ params) user, z, l) in
    let x : eqb (li % 2) 1 ≡ extended = even_parity extended long (length params) li (numbered-long k).1 q (omega (arith, f, l)) in
    read_by front params user (numbered_head li kind extended long) dst fields l (sym f)
    (numbered-head s li (z ∙ sym l) (omega (arith, b, f, l)) h extended x (omega (arith, b, f, l, n)) k c (omega (arith, f, l, n))) r m

-- ---- data and expedited data: the code octet, the name, and what is told before the end mark
pub data Data : ℕ → Kind → Items → Type 0 where
  plain : Data 0xF0 Dt (leaf k_roa (flag 0) none)
  asking : Data 0xF1 Dt (leaf k_roa (flag 1) none)
  expedited : Data 0x10 Ed none

data_numbered : {code : ℕ} {kind : Kind} {before : Items} → Data code kind before → Numbered (code / 16) kind 8
data_numbered plain = dt
data_numbered asking = dt
data_numbered expedited = ed

abbrev pub sequenced : ℕ → Items
sequenced n = leaf k_tpdu_seq (number n) none

abbrev pub marked : ℕ → ℕ → Items
marked eot n = leaf k_eot (flag eot) none ⊕ sequenced n

data_fixed : {code : ℕ} {kind : Kind} {before : Items} → Data code kind before → (li : ℕ) (rest : List ℕ) (extended : Bool)
    → fixed_members (li ∷ code ∷ rest) kind extended ≡ before ⊕ marked (get_or (li ∷ code ∷ rest) 4 0 / 128) (seq_of (li ∷ code ∷ rest) extended)
data_fixed plain li rest extended = refl
data_fixed asking li rest extended = refl
data_fixed expedited li rest extended = refl

-- LI, with p octets of parameters
abbrev pub data_li : Bool → ℕ → ℕ
data_li extended p = pick extended 7 4 + p

number-long : (extended : Bool) (mark n : ℕ) → length (number_laid extended mark n) + 3 ≡ pick extended 7 4
number-long true mark n = refl
number-long false mark n = refl

-- the fixed part of data, of expedited data and of expedited acknowledgements
abbrev front : ℕ → Bool → ℕ → ℕ → ℕ → List ℕ
front code extended dst mark n = code ∷ (two dst ++ number_laid extended mark n)

front_long : (code : ℕ) (extended : Bool) (dst mark n : ℕ) → length (front code extended dst mark n) ≡ pick extended 7 4
front_long code extended dst mark n = omega (arith, number-long extended mark n)

front_ends : (extended : Bool) → pick extended 7 4 + 1 ≡ pick extended 8 5
front_ends true = refl
front_ends false = refl

module _ (extended : Bool) (dst n : ℕ) (params : List ℕ) (hd : dst < 65536) (hn : n < limit extended) (even : length params % 2 ≡ 0)
    (hl : data_li extended (length params) < 255) where
  front_read : {code : ℕ} {kind : Kind} → Numbered (code / 16) kind 8 → (mark : ℕ) (user : List ℕ) (fields : Items)
      → fixed_members (data_laid code extended dst mark n params user) kind extended ≡ fields
      → Read (data_laid code extended dst mark n params user) (numbered_head (data_li extended (length params)) kind extended 8) dst fields params user
  front_read {code} k mark user fields m =
      let f = front_long code extended dst mark n in
      numbered-read k extended (front code extended dst mark n) params user (data_li extended (length params)) dst fields
      (ap (λ (z : ℕ). z + 1) f ∙ front_ends extended) (ap (λ (z : ℕ). z + length params) (sym f)) hl even refl (two_back dst [] hd) m

  pub data_read : {code : ℕ} {kind : Kind} {before : Items} → Data code kind before → (eot : ℕ) (user : List ℕ) → eot < 2
      → Read (data_laid code extended dst eot n params user) (numbered_head (data_li extended (length params)) kind extended 8) dst (before ⊕ marked eot n) params user
  data_read {code} {kind} {before} k eot user hm =
      let li : ℕ = length (front code extended dst eot n ++ params) in
      let m = mark_back li code (dst / 256 % 256) (dst % 256) eot n params user hm extended hn in
      let q = seq_back li code (dst / 256 % 256) (dst % 256) eot n params user hm extended hn in
      front_read (data_numbered k) eot user (before ⊕ marked eot n) (data_fixed k li (two dst ++ ((number_laid extended eot n ++ params) ++ user)) extended ∙ (λ i. before ⊕ marked (m i) (q i)))

  -- expedited acknowledgement
  pub expedited-read : Read (expedited_laid extended dst n params) (numbered_head (data_li extended (length params)) Ea extended 8) dst (sequenced n) params []
  expedited-read =
      let li : ℕ = length (front 0x20 extended dst 0 n ++ params) in
      front_read ea 0 [] (sequenced n) (ap sequenced (seq_back li 0x20 (dst / 256 % 256) (dst % 256) 0 n params [] (omega arith) extended hn))

-- ---- acknowledgement and reject: the high half of the code octet, and the name
pub data Credit : ℕ → Kind → Type 0 where
  acknowledge : Credit 6 Ak
  reject : Credit 5 Rj

credit_numbered : {code : ℕ} {kind : Kind} → Credit code kind → Numbered code kind 10
credit_numbered acknowledge = ak
credit_numbered reject = rj

credit_fixed : {code : ℕ} {kind : Kind} → Credit code kind → (s : List ℕ) (extended : Bool) → fixed_members s kind extended ≡ credit_members s extended
credit_fixed acknowledge s extended = refl
credit_fixed reject s extended = refl

abbrev pub credited : Bool → ℕ → ℕ → Items
credited extended n credit = pick extended (sequenced n ⊕ leaf k_credit (number credit) none) (leaf k_credit (number credit) none ⊕ sequenced n)

abbrev pub credit_li : Bool → ℕ → ℕ
credit_li extended p = pick extended 9 4 + p

pub credit_read : {code : ℕ} {kind : Kind} → Credit code kind → (extended : Bool) (dst n credit : ℕ) (params : List ℕ)
    → dst < 65536 → n < limit extended → credit < pick extended 65536 16 → length params % 2 ≡ 0 → credit_li extended (length params) < 255
    → Read (credit_laid code extended dst n credit params) (numbered_head (credit_li extended (length params)) kind extended 10) dst (credited extended n credit) params []
credit_read {code} k true dst n credit params hd hn hc even hl =
    let behind : List ℕ = two credit ++ params in
    let q = seq_back (length params) (code * 16) (dst / 256 % 256) (dst % 256) 0 n behind [] (omega arith) true hn in
    numbered-read (credit_numbered k) true ((code * 16) ∷ (two dst ++ (number_laid true 0 n ++ two credit))) params [] (9 + length params) dst (credited true n credit)
    refl (omega arith) hl even (omega arith) (two_back dst [] hd) (credit_fixed k (credit_laid code true dst n credit params) true ∙ (λ i. credited true (q i) (two_back credit [] hc i)))
credit_read {code} k false dst n credit params hd hn hc even hl =
    let q = seq_back (length params) (code * 16 + credit) (dst / 256 % 256) (dst % 256) 0 n params [] (omega arith) false hn in
    let c : (code * 16 + credit) % 16 ≡ credit = omega arith in
    numbered-read (credit_numbered k) false ((code * 16 + credit) ∷ (two dst ++ number_laid false 0 n)) params [] (4 + length params) dst (credited false n credit)
    refl (omega arith) hl even (omega arith) (two_back dst [] hd) (credit_fixed k (credit_laid code false dst n credit params) false ∙ (λ i. credited false (q i) (c i)))

-- ---- data as a piece of a unit
pub segment_other : (s : List ℕ) → (get_or s 1 0 / 16 ≡ 15 → ⊥) → segment_of s ≡ None
unfolding segment_of
segment_other s h = simp (ne_eqb (get_or s 1 0 / 16) 15 h, pick_same)

-- how long a TPDU with the fixed part of data is
front-size : (code : ℕ) (extended : Bool) (dst mark n : ℕ) (params : List ℕ) → length (front code extended dst mark n ++ params) ≡ data_li extended (length params)
front-size code extended dst mark n params =
    length-append (front code extended dst mark n) params ∙ ap (λ (z : ℕ). z + length params) (front_long code extended dst mark n)

data_size : (code : ℕ) (extended : Bool) (dst mark n : ℕ) (params user : List ℕ)
    → length (data_laid code extended dst mark n params user) ≡ data_li extended (length params) + 1 + length user
data_size code extended dst mark n params user =
    let header : List ℕ = front code extended dst mark n ++ params in
    omega (arith, length-append header user, front-size code extended dst mark n params)

module _ (code : ℕ) (extended : Bool) (dst eot n : ℕ) (params user : List ℕ) (hc : code / 16 ≡ 15) (hd : dst < 65536) (hm : eot < 2) (hn : n < limit extended)
    (even : length params % 2 ≡ 0) (hl : data_li extended (length params) < 255) where
  abbrev piece : List ℕ
  piece = data_laid code extended dst eot n params user

  abbrev count : ℕ
  count = data_li extended (length params)

  piece-read : Read piece (numbered_head count Dt extended 8) dst (fixed_members piece Dt extended) params user
  piece-read = front_read extended dst n params hd hn even hl (subst (λ (z : ℕ). Numbered z Dt 8) (sym hc) dt) eot user (fixed_members piece Dt extended) refl

  pub data_segment : segment_of piece ≡ piece_of dst eot n (count + 1)
  data_segment =
      let k = data_size code extended dst eot n params user in
      let z = front-size code extended dst eot n params in
      let f = front_ends extended in
      let b : 5 ≤ pick extended 8 5 = least extended 8 (omega arith) in
      let x : eqb (count % 2) 1 ≡ extended = even_parity extended 8 (length params) count refl even (omega (arith, f)) in
      let m : get_or piece 4 0 / 128 ≡ eot = mark_back (get_or piece 0 0) code (dst / 256 % 256) (dst % 256) eot n params user hm extended hn in
      let q : seq_of piece (eqb (count % 2) 1) ≡ n = ap (seq_of piece) x ∙ seq_back (get_or piece 0 0) code (dst / 256 % 256) (dst % 256) eot n params user hm extended hn in
      is-piece piece count z (omega (arith, k)) (λ e. omega (arith, e, f, b)) (λ e. omega (arith, e, hl)) hc (rw x (omega (arith, k, f)))
      ∙ (λ i. piece_of (piece-read.ref i) (m i) (q i) (count + 1))

  pub segment_user : drop (user_from piece (segment_of piece)) piece ≡ user
  segment_user = ap (λ (g : Option Segment). drop (user_from piece g) piece) data_segment ∙ piece-read.behind

-- the first four of octets as a number
four-front : (a : ℕ) (xs : List ℕ) → 3 ≤ length xs → be32 a (get_or xs 0 0) (get_or xs 1 0) (get_or xs 2 0) ≡ big_endian (take 4 (a ∷ xs))
four-front a [] h = absurd (omega arith)
four-front a (b ∷ []) h = absurd (omega arith)
four-front a (b ∷ (c ∷ [])) h = absurd (omega arith)
four-front a (b ∷ (c ∷ (d ∷ xs))) h = sym (be32-is a b c d)

-- ---- the other parity: the one format is read as the other
module _ {code : ℕ} {kind : Kind} {before : Items} (k : Data code kind before) (dst eot n : ℕ) (params user : List ℕ) (odd : length params % 2 ≡ 1) where
  abbrev other : Bool → List ℕ
  other extended = data_laid code extended dst eot n params user

  odd_head : (extended : Bool) → data_li extended (length params) < 255 → pick (not extended) 8 5 ≤ length (other extended)
      → head_of (other extended) ≡ Some (numbered_head (data_li extended (length params)) kind (not extended) 8)
  odd_head extended hl h =
      let li : ℕ = data_li extended (length params) in
      let f = front_ends extended in
      let b : 5 ≤ pick extended 8 5 = least extended 8 (omega arith) in
      let x : eqb (li % 2) 1 ≡ not extended = odd_parity extended 8 (length params) li refl odd (omega (arith, f)) in
      numbered-head (other extended) li (front-size code extended dst eot n params) (omega (arith, f, b)) hl (not extended) x
      (omega (arith, f, b, data_size code extended dst eot n params user)) (data_numbered k) refl h

  -- the normal format as the extended one: the number of the four octets behind the reference, if there are four
  pub normal_odd_head : data_li false (length params) < 255 → 8 ≤ length (other false) → head_of (other false) ≡ Some (numbered_head (4 + length params) kind true 8)
  normal_odd_head hl h = odd_head false hl h

  pub normal_odd_seq : 8 ≤ length (other false) → seq_of (other false) true ≡ big_endian (take 4 (drop 4 (other false))) % 2147483648
  normal_odd_seq h =
      ap (λ (z : ℕ). z % 2147483648) (four-front (eot * 128 + n) (params ++ user) (omega (arith, h, length-append params user, data_size code false dst eot n params user)))

  -- else it is unreadable
  pub normal_odd_short : length (other false) < 8 → head_of (other false) ≡ None
  normal_odd_short h =
      let li : ℕ = get_or (other false) 0 0 in
      let x : eqb (li % 2) 1 ≡ true = odd_parity false 8 (length params) li refl odd (omega (arith, front-size code false dst eot n params)) in
      no_head_lem (other false) (data_numbered k) refl x h

  -- the extended format as the normal one: the first octet of the number, modulo 128
  pub extended_even_head : data_li true (length params) < 255 → head_of (other true) ≡ Some (numbered_head (7 + length params) kind false 8)
  extended_even_head hl = odd_head true hl (omega (arith, data_size code true dst eot n params user))

  pub extended_even_seq : seq_of (other true) false ≡ get_or (number_laid true eot n) 0 0 % 128
  extended_even_seq = refl

  pub extended_even_high : n < 2147483648 → seq_of (other true) false ≡ n / 16777216
  extended_even_high h = omega arith
