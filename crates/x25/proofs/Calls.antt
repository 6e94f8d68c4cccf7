-- Calls that are laid out as X.25 draws them are read as what was laid out.
use Rattle.std.specs.Prelude.{Option, Some, None}
use Prim.Native.Nat.{ℕ, suc, ◌+◌, ◌*◌, ◌-◌, ◌/◌, ◌≤◌, ◌<◌, min}
use mathlib.Core.Bool.{Bool, true, false}
use mathlib.Core.List.{List, [], ◌∷◌, ◌++◌, append_assoc}
use mathlib.Core.Path.{◌≡◌, refl, sym, ap, ap₂, ◌∙◌}
use native.Mathlib.Nat.{add_assoc, add-zero}
use native.Mathlib.Omega.{arith}
use borrow.Author.Tests.{lt-ltb, le-ltb, le-leb, lt-leb, ne_eqb, ltb-true, ltb-false}
use lib.Dec.{ltb}
use lib.ListN.{length, get_or, take, drop, length-append}
use lib.Seq.{drop-append-add, get_or_at, get_or-append-add, take_at, drop_at, get_or-drop, drop-drop}
use Rattle.octets.specs.Text.{pick}
use Rattle.names.specs.Numbers.{k_facilities, t_call_request, t_call_accepted}
use Rattle.cells.specs.Items.{Items, none, ◌⊕◌, in_list}
use Rattle.cells.specs.Walk.{body, walk_from}
use Rattle.cells.proofs.Walks.{turn, over}
use Rattle.x25.specs.Facility.{fac_at, facility, fac_step, fac_items, fac_left}
use Rattle.x25.specs.Sndcf.{field_at}
use Rattle.x25.specs.declared.sndcf.Field.{Field}
use Rattle.x25.specs.Packet.{octet_at, lcn_of, fac_pos, fac_len, fac_end, fac_read, has_facilities, call_with, with_field, by_type, packet_of, fac_member}
use Rattle.x25.specs.Layout.{head, packed, addresses_laid, Facility, facility_laid, facilities_laid, Right, AllRight, call_laid, facilities_at, facilities_read}
use Rattle.x25.specs.declared.packet.Packet.{Packet}
use Rattle.x25.proofs.Laid.{by-type, lcn-back}

-- ---- addresses
pub packed-long : (ds : List ℕ) → length (packed ds) ≡ (length ds + 1) / 2
unfolding packed
packed-long [] = refl
packed-long (d ∷ []) = refl
packed-long (d ∷ (e ∷ ds)) = omega (arith, packed-long ds)

-- ---- facilities
-- where its parameters begin
abbrev behind : Facility → ℕ
behind f = pick (ltb (f.code / 64) 3) 1 2

-- what is found of one that is laid out at a place
abbrev found : ℕ → Facility → Items
found at f = facility f.code (at + behind f) (length f.params)

-- by the outcome of a test
on_test : (P : Bool → Type 0) (b : Bool) → (b ≡ true → P true) → (b ≡ false → P false) → P b
on_test P true x y = x refl
on_test P false x y = y refl

facility-long : (f : Facility) → length (facility_laid f) ≡ behind f + length f.params
facility-long f =
    on_test (λ (b : Bool). length (pick b (f.code ∷ f.params) (f.code ∷ length f.params ∷ f.params)) ≡ pick b 1 2 + length f.params)
    (ltb (f.code / 64) 3) (λ e. omega arith) (λ e. omega arith)

-- the walk finds a facility, of each of the two forms
classed-at : (code : ℕ) (params pre rest : List ℕ) (i : ℕ) → length pre ≡ i → code / 64 < 3 → length params ≡ code / 64 + 1
    → fac_at (pre ++ (code ∷ (params ++ rest))) i ≡ body (i + 1) (length params)
unfolding fac_at
classed-at code params pre rest i q h l =
    let s : List ℕ = pre ++ (code ∷ (params ++ rest)) in
    let e : get_or s i 0 ≡ code = get_or_at pre code (params ++ rest) 0 i q in
    let n : length s ≡ i + 1 + (length params + length rest) = simp (length-append, q) (omega arith) in
    simp (e, le-leb (code / 64) 2 (omega arith), ← l, le-leb (i + 1 + length params) (length s) (omega arith))

counted-at : (code : ℕ) (params pre rest : List ℕ) (i : ℕ) → length pre ≡ i → 3 ≤ code / 64
    → fac_at (pre ++ (code ∷ length params ∷ (params ++ rest))) i ≡ body (i + 2) (length params)
unfolding fac_at
counted-at code params pre rest i q h =
    let s : List ℕ = pre ++ (code ∷ length params ∷ (params ++ rest)) in
    let e : get_or s i 0 ≡ code = get_or_at pre code (length params ∷ (params ++ rest)) 0 i q in
    let d : get_or s (i + 1) 0 ≡ length params = rw (← q) (get_or-append-add pre (code ∷ length params ∷ (params ++ rest)) 1 0) in
    let n : length s ≡ i + 2 + (length params + length rest) = simp (length-append, q) (omega arith) in
    simp (e, d, lt-leb (code / 64) 2 (omega arith), lt-ltb (i + 1) (length s) (omega arith), le-leb (i + 2 + length params) (length s) (omega arith))

facility-at : (f : Facility) → Right f → (pre rest : List ℕ) (i : ℕ) → length pre ≡ i
    → fac_at (pre ++ (facility_laid f ++ rest)) i ≡ body (i + behind f) (length f.params)
facility-at f r pre rest i q =
    on_test (λ (b : Bool). fac_at (pre ++ (pick b (f.code ∷ f.params) (f.code ∷ length f.params ∷ f.params) ++ rest)) i ≡ body (i + pick b 1 2) (length f.params))
    (ltb (f.code / 64) 3)
    (λ e. classed-at f.code f.params pre rest i q (ltb-true _ _ e) (r.classed (ltb-true _ _ e)))
    (λ e. counted-at f.code f.params pre rest i q (ltb-false _ _ e))

code_at : (f : Facility) (pre rest : List ℕ) (i : ℕ) → length pre ≡ i → get_or (pre ++ (facility_laid f ++ rest)) i 0 ≡ f.code
code_at f pre rest i q =
    on_test (λ (b : Bool). get_or (pre ++ (pick b (f.code ∷ f.params) (f.code ∷ length f.params ∷ f.params) ++ rest)) i 0 ≡ f.code)
    (ltb (f.code / 64) 3)
    (λ e. get_or_at pre f.code (f.params ++ rest) 0 i q)
    (λ e. get_or_at pre f.code (length f.params ∷ (f.params ++ rest)) 0 i q)

module _ (base : ℕ) (s : List ℕ) where
  -- a walk goes over it
  facility-turn : {R : Type 0} (ends : ℕ → R) (more : Items → R → R) (f : Facility) → Right f → (pre rest : List ℕ) (i : ℕ)
      → s ≡ pre ++ (facility_laid f ++ rest) → length pre ≡ i
      → walk_from (fac_step base s) ends more (length s) i
      ≡ more (found (base + i) f) (walk_from (fac_step base s) ends more (length s) (i + length (facility_laid f)))
  facility-turn ends more f r pre rest i e q =
      let l = facility-long f in
      let n : length s ≡ i + (length (facility_laid f) + length rest) = ap length e ∙ simp (length-append, q) in
      let b : 1 ≤ behind f = on_test (λ (b : Bool). 1 ≤ pick b 1 2) (ltb (f.code / 64) 3) (λ e. omega arith) (λ e. omega arith) in
      let k : i + behind f + length f.params ≡ i + length (facility_laid f) = omega arith in
      let c : fac_at s i ≡ body (i + behind f) (length f.params) = rw e (facility-at f r pre rest i q) in
      let d : get_or s i 0 ≡ f.code = rw e (code_at f pre rest i q) in
      turn (fac_step base s) ends more (length s) i (i + length (facility_laid f)) (found (base + i) f)
      (omega arith) (omega arith) (simp (c, d, k, ← add_assoc base i (behind f)))

  -- a walk from where facilities are laid out on to the end of the part, by what it makes of them
  module _ {R : Type 0} (ends : ℕ → R) (more : Items → R → R) (P : ℕ → List Facility → R) (he : (i : ℕ) → ends 0 ≡ P i [])
      (hm : (i : ℕ) (f : Facility) (fs : List Facility) → more (found (base + i) f) (P (i + length (facility_laid f)) fs) ≡ P i (f ∷ fs)) where
    pub walk-laid : (fs : List Facility) → AllRight fs → (pre : List ℕ) (i : ℕ) → s ≡ pre ++ facilities_laid fs → length pre ≡ i
        → walk_from (fac_step base s) ends more (length s) i ≡ P i fs
    unfolding facilities_laid AllRight
    walk-laid [] r pre i e q = over (fac_step base s) ends more (length s) i (omega (arith, simp length-append at (ap length e))) ∙ he i
    walk-laid (f ∷ fs) r pre i e q =
        let rest = facilities_laid fs in
        facility-turn ends more f r.0 pre rest i e q
        ∙ ap (more (found (base + i) f)) (walk-laid fs r.1 (pre ++ facility_laid f) (i + length (facility_laid f)) (e ∙ sym (append_assoc pre (facility_laid f) rest)) (simp (length-append, q)))
        ∙ hm i f fs

-- a walk over facilities that are laid out finds each of them, and its place, and leaves nothing unread
pub facilities-walk : (at : ℕ) (fs : List Facility) → AllRight fs → fac_items at (facilities_laid fs) ≡ facilities_read at fs
unfolding facilities_read
facilities-walk at fs r =
    walk-laid at (facilities_laid fs) (λ n. none) ◌⊕◌ (λ i fs. facilities_read (at + i) fs) (λ i. refl) (λ i f fs. simp add_assoc) fs r [] 0 refl refl ∙ simp add-zero

pub facilities-left : (fs : List Facility) → AllRight fs → fac_left (facilities_laid fs) ≡ 0
facilities-left fs r = walk-laid 0 (facilities_laid fs) (λ n. n) (λ c r. r) (λ i fs. 0) (λ i. refl) (λ i f fs. refl) fs r [] 0 refl refl

-- ---- the parts of a call
-- the facilities F stand at place at, behind their length, and user is what follows them
pub record Parted (s : List ℕ) (at : ℕ) (F user : List ℕ) : Type 0 where
  pub pos : fac_pos s + 1 ≡ at
  pub len : fac_len s ≡ length F
  pub end : fac_end s ≡ at + length F
  pub size : length s ≡ fac_end s + length user
  pub has : has_facilities s ≡ true
  pub read : fac_read s ≡ length F
  pub part : take (fac_read s) (drop (fac_pos s + 1) s) ≡ F
  pub rest : drop (fac_end s) s ≡ user

parted : (s pre F user : List ℕ) (at : ℕ) → s ≡ pre ++ (length F ∷ (F ++ user)) → fac_pos s ≡ length pre → length pre + 1 ≡ at → Parted s at F user
parted s pre F user at e q w =
    let all : List ℕ = length F ∷ (F ++ user) in
    let n : length s ≡ length pre + 1 + (length F + length user) = ap length e ∙ simp length-append (omega arith) in
    let l : fac_len s ≡ length F = ap (λ (z : List ℕ). get_or z (fac_pos s) 0) e ∙ get_or_at pre (length F) (F ++ user) 0 (fac_pos s) (sym q) in
    let r : fac_read s ≡ length F = simp (le-leb (fac_end s) (length s) (omega arith)) l in
    let d : drop (fac_pos s + 1) s ≡ F ++ user = ap (drop (fac_pos s + 1)) e ∙ ap (λ (k : ℕ). drop (k + 1) (pre ++ all)) q ∙ drop-append-add pre all 1 in
    record {
      pos = omega arith;
      len = l;
      end = omega arith;
      size = omega arith;
      has = simp (lt-ltb 3 (length s) (omega arith), lt-ltb (fac_pos s) (length s) (omega arith));
      read = r;
      part = ap (take (fac_read s)) d ∙ take_at F user (fac_read s) (sym r);
      rest = sym (drop-drop (fac_len s) (fac_pos s + 1) s) ∙ ap (drop (fac_len s)) d ∙ drop_at F user (fac_len s) (sym l);
    }

module _ (t qd g n : ℕ) (called calling : List ℕ) (fs : List Facility) (user : List ℕ) (h : length called < 16) where
  pub call-place : fac_pos (call_laid t qd g n called calling fs user) ≡ 4 + length (packed (called ++ calling))
  call-place = omega (arith, packed-long (called ++ calling), length-append called calling)

  pub call-facilities : Parted (call_laid t qd g n called calling fs user) (facilities_at called calling) (facilities_laid fs) user
  call-facilities =
      let s : List ℕ = call_laid t qd g n called calling fs user in
      let pre : List ℕ = head qd 1 g n (t ∷ (length calling * 16 + length called) ∷ packed (called ++ calling)) in
      parted s pre (facilities_laid fs) user (facilities_at called calling) refl (omega (arith, call-place)) (omega arith)

-- ---- the compression field of a call request, by what stands behind the facilities
-- what is none
pub data NoField (user : List ℕ) : Type 0 where
  short : length user < 2 → NoField user
  other : (get_or user 0 0 ≡ 0xC1 → ⊥) → NoField user
  low : get_or user 1 0 < 4 → NoField user
  past : length user < 2 + get_or user 1 0 → NoField user
  unknown : (get_or user 2 0 ≡ 1 → ⊥) → NoField user

absent : (b : Bool) → pick {A = Option Field} b None None ≡ None
absent true = refl
absent false = refl

module _ (s : List ℕ) (p : ℕ) (user : List ℕ) (d : drop p s ≡ user) (n : length s ≡ p + length user) where
  octet-at : (k : ℕ) → get_or s (p + k) 0 ≡ get_or user k 0
  octet-at k = sym (get_or-drop p s k 0) ∙ ap (λ (z : List ℕ). get_or z k 0) d

  first-at : get_or s p 0 ≡ get_or user 0 0
  first-at = rw add-zero at (octet-at 0)

  pub no_field : NoField user → field_at s p ≡ None
  unfolding field_at
  no_field (short h) = simp (lt-ltb (length s) (p + 2) (omega arith))
  no_field (other h) = simp (first-at, ne_eqb (get_or user 0 0) 0xC1 h, absent)
  no_field (low h) = simp (octet-at 1, lt-ltb (get_or user 1 0) 4 h, absent)
  no_field (past h) = simp (octet-at 1, lt-ltb (length s) (p + 2 + get_or user 1 0) (omega arith), absent)
  no_field (unknown h) = simp (octet-at 2, ne_eqb (get_or user 2 0) 1 h, absent)

  pub field_found : (len a b o : ℕ) (more : List ℕ) → user ≡ 0xC1 ∷ len ∷ 1 ∷ a ∷ b ∷ o ∷ more → 4 ≤ len → len ≤ length more + 4
      → field_at s p ≡ Some (record { octet = o; end = p + 2 + len })
  unfolding field_at
  field_found len a b o more e h l =
      let u : (k : ℕ) → get_or user k 0 ≡ get_or (0xC1 ∷ len ∷ 1 ∷ a ∷ b ∷ o ∷ more) k 0 = λ k. ap (λ (z : List ℕ). get_or z k 0) e in
      let m : length user ≡ 6 + length more = ap length e ∙ omega arith in
      let e0 : get_or s p 0 ≡ 0xC1 = first-at ∙ u 0 in
      let e1 : get_or s (p + 1) 0 ≡ len = octet-at 1 ∙ u 1 in
      let e2 : get_or s (p + 2) 0 ≡ 1 = octet-at 2 ∙ u 2 in
      let e5 : get_or s (p + 5) 0 ≡ o = octet-at 5 ∙ u 5 in
      simp (e0, e1, e2, e5, le-ltb (length s) (p + 2) (omega arith), le-ltb len 4 h, le-ltb (length s) (p + 2 + len) (omega arith))

  -- the octet there, for a call accept
  octet-none : user ≡ [] → octet_at s p ≡ None
  octet-none e = simp (le-ltb p (length s) (omega (arith, ap length e)))

  octet-some : (o : ℕ) (rest : List ℕ) → user ≡ o ∷ rest → octet_at s p ≡ Some o
  octet-some o rest e = simp (lt-ltb p (length s) (omega (arith, ap length e)), first-at ∙ ap (λ (z : List ℕ). get_or z 0 0) e)

-- ---- calls
-- a call's packet, field by field
abbrev pub call_of : ℕ → ℕ → ℕ → ℕ → Option ℕ → ℕ → ℕ → Packet
call_of kind lcn at len sndcf version pos = record {
  kind = kind;
  lcn = lcn;
  ps = None;
  pr = None;
  more = 0;
  cause = None;
  causetext = 0;
  diagnostic = None;
  diagtext = 0;
  facat = at;
  faclen = len;
  sndcf = sndcf;
  version = version;
  payload = pos;
}

-- the octets s are read as a call with the facilities fs at place at, whose payload is user, from place pos on
pub record CallRead (s : List ℕ) (kind lcn at : ℕ) (fs : List Facility) (sndcf : Option ℕ) (version pos : ℕ) (user : List ℕ) : Type 0 where
  pub packet : packet_of s ≡ call_of kind lcn at (length (facilities_laid fs)) sndcf version pos
  pub payload : drop (packet_of s).payload s ≡ user
  pub facilities : fac_member s (packet_of s) ≡ in_list k_facilities (facilities_read at fs)

call-read : {s : List ℕ} {lcn at : ℕ} {fs : List Facility} {all : List ℕ} → Parted s at (facilities_laid fs) all → AllRight fs → lcn_of s ≡ lcn
    → (kind : ℕ) (sndcf : Option ℕ) (version from pos k : ℕ) (user : List ℕ) → packet_of s ≡ call_with kind s sndcf version from
    → min from (length s) ≡ pos → pos ≡ fac_end s + k → drop k all ≡ user → CallRead s kind lcn at fs sndcf version pos user
call-read {s} {lcn} {at} {fs} p r v kind sndcf version from pos k user e m q d =
    let c : call_with kind s sndcf version from ≡ call_of kind lcn at (length (facilities_laid fs)) sndcf version pos =
    λ i. call_of kind (v i) (p.pos i) (p.read i) sndcf version (m i) in
    let w : drop pos s ≡ user = ap (λ (x : ℕ). drop x s) q ∙ sym (drop-drop k (fac_end s) s) ∙ ap (drop k) p.rest ∙ d in
    let f : fac_items (fac_pos s + 1) (take (fac_read s) (drop (fac_pos s + 1) s)) ≡ facilities_read at fs = ap₂ fac_items p.pos p.part ∙ facilities-walk at fs r in
    record {
      packet = e ∙ c;
      payload = ap (λ (x : Packet). drop x.payload s) (e ∙ c) ∙ w;
      facilities = ap (fac_member s) e ∙ ap (in_list k_facilities) f;
    }

request-type : (s : List ℕ) → has_facilities s ≡ true → by_type s 0x0B ≡ with_field s (field_at s (fac_end s))
unfolding by_type
request-type s h = simp h

accepted-type : (s : List ℕ) → has_facilities s ≡ true → by_type s 0x0F ≡ call_with t_call_accepted s (octet_at s (fac_end s)) 0 (fac_end s + 1)
unfolding by_type
accepted-type s h = simp h

module _ (qd g n : ℕ) (called calling : List ℕ) (fs : List Facility) (hg : g < 16) (hc : length called < 16) (r : AllRight fs) where
  abbrev call : ℕ → List ℕ → List ℕ
  call t user = call_laid t qd g n called calling fs user

  -- the place behind the facilities
  abbrev user_at : ℕ
  user_at = facilities_at called calling + length (facilities_laid fs)

  abbrev Read : List ℕ → ℕ → Option ℕ → ℕ → ℕ → List ℕ → Type 0
  Read s kind sndcf version pos user = CallRead s kind (g * 256 + n) (facilities_at called calling) fs sndcf version pos user

  module _ (user : List ℕ) where
    parts : (t : ℕ) → Parted (call t user) (facilities_at called calling) (facilities_laid fs) user
    parts t = call-facilities t qd g n called calling fs user hc

    -- what follows the type octet
    abbrev rest : List ℕ
    rest = addresses_laid called calling ++ (length (facilities_laid fs) ∷ (facilities_laid fs ++ user))

    lcn-is : (t : ℕ) → lcn_of (call t user) ≡ g * 256 + n
    lcn-is t = lcn-back qd 1 g n (t ∷ rest) hg

    request-is : packet_of (call 0x0B user) ≡ with_field (call 0x0B user) (field_at (call 0x0B user) (fac_end (call 0x0B user)))
    request-is = by-type qd g n 0x0B rest hg ∙ request-type (call 0x0B user) (parts 0x0B).has

    accepted-is : packet_of (call 0x0F user) ≡ call_with t_call_accepted (call 0x0F user) (octet_at (call 0x0F user) (fac_end (call 0x0F user))) 0 (fac_end (call 0x0F user) + 1)
    accepted-is = by-type qd g n 0x0F rest hg ∙ accepted-type (call 0x0F user) (parts 0x0F).has

    pub call_no_field : NoField user → field_at (call 0x0B user) (fac_end (call 0x0B user)) ≡ None
    call_no_field f = no_field (call 0x0B user) (fac_end (call 0x0B user)) user (parts 0x0B).rest (parts 0x0B).size f

    module _ (absent : field_at (call 0x0B user) (fac_end (call 0x0B user)) ≡ None) where
      pub call-request-with : packet_of (call 0x0B user) ≡ call_with t_call_request (call 0x0B user) None 0 (fac_end (call 0x0B user))
      call-request-with = request-is ∙ ap (with_field (call 0x0B user)) absent

      pub call-request-read : Read (call 0x0B user) t_call_request None 0 user_at user
      call-request-read =
          let p = parts 0x0B in
          call-read p r (lcn-is 0x0B) t_call_request None 0 (fac_end (call 0x0B user)) user_at 0 user
          call-request-with (omega (arith, p.size, p.end)) (omega (arith, p.end)) refl

  -- user data that look like a compression field are taken for one
  pub call-field-read : (len a b o : ℕ) (more : List ℕ) → 4 ≤ len → len ≤ length more + 4
      → Read (call 0x0B (0xC1 ∷ len ∷ 1 ∷ a ∷ b ∷ o ∷ more)) t_call_request (Some o) 1 (user_at + 2 + len) (drop (len - 4) more)
  call-field-read len a b o more h l =
      let user : List ℕ = 0xC1 ∷ len ∷ 1 ∷ a ∷ b ∷ o ∷ more in
      let s : List ℕ = call 0x0B user in
      let p = parts user 0x0B in
      call-read p r (lcn-is user 0x0B) t_call_request (Some o) 1 (fac_end s + 2 + len) (user_at + 2 + len) (suc (suc (suc (suc (suc (suc (len - 4))))))) (drop (len - 4) more)
      (request-is user ∙ ap (with_field s) (field_found s (fac_end s) user p.rest p.size len a b o more refl h l))
      (omega (arith, p.size, p.end)) (omega (arith, p.end)) refl

  pub call_accept_read : Read (call 0x0F []) t_call_accepted None 0 user_at []
  call_accept_read =
      let s : List ℕ = call 0x0F [] in
      let p = parts [] 0x0F in
      call-read p r (lcn-is [] 0x0F) t_call_accepted None 0 (fac_end s + 1) user_at 0 []
      (accepted-is [] ∙ ap (λ (x : Option ℕ). call_with t_call_accepted s x 0 (fac_end s + 1)) (octet-none s (fac_end s) [] p.rest p.size refl))
      (omega (arith, p.size, p.end)) (omega (arith, p.end)) refl

  -- the first octet of user data is taken for the compression octet
  pub call_accept_octet : (o : ℕ) (rest : List ℕ) → Read (call 0x0F (o ∷ rest)) t_call_accepted (Some o) 0 (user_at + 1) rest
  call_accept_octet o rest =
      let s : List ℕ = call 0x0F (o ∷ rest) in
      let p = parts (o ∷ rest) 0x0F in
      call-read p r (lcn-is (o ∷ rest) 0x0F) t_call_accepted (Some o) 0 (fac_end s + 1) (user_at + 1) 1 rest
      (accepted-is (o ∷ rest) ∙ ap (λ (x : Option ℕ). call_with t_call_accepted s x 0 (fac_end s + 1)) (octet-some s (fac_end s) (o ∷ rest) p.rest p.size o rest refl))
      (omega (arith, p.size, p.end)) (omega (arith, p.end)) refl
