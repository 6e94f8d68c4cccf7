-- How many cells a packet's record has at most, so that an output with that many is never short.
use Rattle.std.specs.Prelude.{Option, Some, None}
use Prim.Native.Nat.{ℕ, ◌+◌, ◌*◌, ◌/◌, ◌%◌, ◌≤◌}
use mathlib.Core.Path.{◌≡◌, ap}
use mathlib.Core.List.{List}
use mathlib.Core.Bool.{true, false}
use native.Mathlib.Omega.{arith}
use lib.Dec.{eqb}
use lib.ListN.{length, take, drop}
use Rattle.octets.proofs.Picks.{pick_elim}
use Rattle.names.specs.Numbers.{k_sndcf, k_compression_options, k_compression_algos, k_maintenance, k_version, k_facilities, k_lcn, k_kind, k_ps, k_pr, k_more, k_cause, k_cause_text, k_diagnostic, k_diagnostic_text, t_aca, t_deflate, t_lref, t_lref_can}
use Rattle.cells.specs.Items.{Items, none, leaf, group, number, flag, text, record_of, ◌⊕◌, flat}
use Rattle.cells.specs.Answer.{number_of}
use Rattle.cells.proofs.Rows.{group-size, in_list_thin}
use Rattle.cells.proofs.Answers.{enough}
use Rattle.fields.specs.Member.{opt_text}
use Rattle.fields.proofs.Sizes.{size, rows, empty, one, text-thin, part-thin}
use Rattle.x25.specs.Facility.{fac_items}
use Rattle.x25.specs.Sndcf.{algorithm, algorithms, version_member, sndcf_member}
use Rattle.x25.specs.Packet.{opt_number, opt_sndcf, fac_member, members_of, packet_of, x25_cells, x25_answer}
use Rattle.x25.specs.declared.packet.Packet.{Packet}
use Rattle.x25.proofs.Facilities.{fac_thin}
use Rattle.x25.proofs.Members.{head_of, causes_of, calls_of, members_are}

number-thin : (f : ℕ) (o : Option ℕ) → size 1 (opt_number f o) ≤ 1
number-thin f None = omega (arith, empty 1)
number-thin f (Some v) = omega (arith, one 1 f (number v))

algorithm-thin : (bit t : ℕ) → size 3 (algorithm bit t) ≤ 1
algorithm-thin bit t = pick_elim (λ (x : Items). size 3 x ≤ 1) (eqb bit 1) (λ h. omega (arith, one 3 0 (text t))) (λ h. omega (arith, empty 3))

version-thin : (v : ℕ) → size 2 (version_member v) ≤ 1
version-thin v = pick_elim (λ (x : Items). size 2 x ≤ 1) (eqb v 0) (λ h. omega (arith, empty 2)) (λ h. omega (arith, one 2 k_version (number v)))

algorithms-thin : (o : ℕ) → size 3 (algorithms o) ≤ 4
algorithms-thin o =
    let a : Items = algorithm (o / 64 % 2) t_aca in
    let b : Items = algorithm (o / 32 % 2) t_deflate in
    let c : Items = algorithm (o / 2 % 2) t_lref in
    let d : Items = algorithm (o % 2) t_lref_can in
    omega (arith, rows 3 a (b ⊕ (c ⊕ d)), rows 3 b (c ⊕ d), rows 3 c d, algorithm-thin (o / 64 % 2) t_aca, algorithm-thin (o / 32 % 2) t_deflate, algorithm-thin (o / 2 % 2) t_lref, algorithm-thin (o % 2) t_lref_can)

sndcf-thin : (o v : ℕ) → size 1 (sndcf_member o v) ≤ 11
sndcf-thin o v =
    let options : Items = leaf k_compression_options (number o) none in
    let algos : Items = group false k_compression_algos (algorithms o) none in
    let flagged : Items = leaf k_maintenance (flag (o / 16 % 2)) none in
    let last : Items = version_member v in
    omega (
      arith,
      group-size 1 true k_sndcf (options ⊕ (algos ⊕ (flagged ⊕ last))),
      rows 2 options (algos ⊕ (flagged ⊕ last)),
      rows 2 algos (flagged ⊕ last),
      rows 2 flagged last,
      one 2 k_compression_options (number o),
      group-size 2 false k_compression_algos (algorithms o),
      algorithms-thin o,
      one 2 k_maintenance (flag (o / 16 % 2)),
      version-thin v,
    )

negotiated_thin : (o : Option ℕ) (v : ℕ) → size 1 (opt_sndcf o v) ≤ 11
negotiated_thin None v = omega (arith, empty 1)
negotiated_thin (Some o) v = sndcf-thin o v

fac_member_thin : (s : List ℕ) (x : Packet) → size 1 (fac_member s x) ≤ 2 * length s + 2
fac_member_thin s x =
    let p : List ℕ = take x.faclen (drop x.facat s) in
    omega (arith, in_list_thin 1 k_facilities (fac_items x.facat p), fac_thin x.facat p, part-thin x.faclen x.facat s)

head-thin : (x : Packet) → size 1 (head_of x) ≤ 5
head-thin x =
    let l : Items = leaf k_lcn (number x.lcn) none in
    let k : Items = leaf k_kind (text x.kind) none in
    let s : Items = opt_number k_ps x.ps in
    let r : Items = opt_number k_pr x.pr in
    let m : Items = leaf k_more (flag x.more) none in
    omega (
      arith,
      rows 1 l (k ⊕ (s ⊕ (r ⊕ m))),
      rows 1 k (s ⊕ (r ⊕ m)),
      rows 1 s (r ⊕ m),
      rows 1 r m,
      one 1 k_lcn (number x.lcn),
      one 1 k_kind (text x.kind),
      number-thin k_ps x.ps,
      number-thin k_pr x.pr,
      one 1 k_more (flag x.more),
    )

causes_thin : (x : Packet) → size 1 (causes_of x) ≤ 4
causes_thin x =
    let a : Items = opt_number k_cause x.cause in
    let b : Items = opt_text k_cause_text x.causetext in
    let c : Items = opt_number k_diagnostic x.diagnostic in
    let d : Items = opt_text k_diagnostic_text x.diagtext in
    omega (arith, rows 1 a (b ⊕ (c ⊕ d)), rows 1 b (c ⊕ d), rows 1 c d, number-thin k_cause x.cause, text-thin 1 k_cause_text x.causetext, number-thin k_diagnostic x.diagnostic, text-thin 1 k_diagnostic_text x.diagtext)

pub record_thin : (s : List ℕ) (x : Packet) → length (flat 0 (record_of (members_of s x))) ≤ 2 * length s + 24
record_thin s x =
    let calls : Items = calls_of s x in
    omega (
      arith,
      group-size 0 true 0 (members_of s x),
      ap (size 1) (members_are s x),
      rows 1 (head_of x) (causes_of x ⊕ calls),
      rows 1 (causes_of x) calls,
      rows 1 (fac_member s x) (opt_sndcf x.sndcf x.version),
      head-thin x,
      causes_thin x,
      fac_member_thin s x,
      negotiated_thin x.sndcf x.version,
    )

pub x25_thin : (s : List ℕ) → length (x25_cells s) ≤ 4 * length s + 64
unfolding x25_cells
x25_thin s = pick_elim (λ (l : List ℕ). length l ≤ 4 * length s + 64) (eqb (packet_of s).kind 0) (λ h. omega arith) (λ h. omega (arith, record_thin s (packet_of s)))

-- with four cells for each octet and 64 more the answer is not 10
pub never_short : (s : List ℕ) (room : ℕ) → 4 * length s + 64 ≤ room → number_of (x25_answer s room) ≡ 10 → ⊥
never_short s room h e = enough (length s) (x25_cells s) room (omega (arith, x25_thin s)) e
