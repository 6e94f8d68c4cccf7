-- What is said of a line whose packet has a record, and of one that is bad.
use Prim.Native.Nat.{ℕ, zero, suc, ◌≤◌, ◌<◌}
use mathlib.Core.Path.{◌≡◌, refl, sym, ap, ◌∙◌}
use mathlib.Core.List.{List, [], ◌∷◌}
use native.Mathlib.Omega.{arith}
use borrow.Author.Tests.{le-leb, le-ltb, ne_eqb}
use lib.ListN.{length}
use Rattle.octets.specs.Text.{digits}
use Rattle.octets.specs.Tests.{all}
use Rattle.octets.proofs.Numbers.{Octets}
use Rattle.names.specs.Ascii.{octets}
use Rattle.cells.specs.Items.{Items, record_of, flat}
use Rattle.cells.specs.Good.{Good}
use Rattle.cells.specs.Walk.{walk_from, walk_by}
use Rattle.cells.specs.Answer.{Answer, answer_to, number_of}
use Rattle.std.specs.Prelude.{Ok, Err}
use Rattle.print.specs.Json.{json_of}
use Rattle.print.specs.Print.{printed}
use Rattle.print.proofs.Records.{printed_record, packet, packet-text}
use Rattle.fields.proofs.Goods as fields
use Rattle.x25.specs.Packet.{by_type, x25_cells, members_of}
use Rattle.x25.specs.Packet as x25
use Rattle.x25.proofs.Cells.{no_cells, cells_are}
use Rattle.x25.proofs.WellFormed.{good_members}
use Rattle.network.specs.Network.{network_cells, network_members}
use Rattle.std.specs.Prelude.{Some, None}
use Rattle.network.proofs.WellFormed.{network_record}
use Rattle.replay_line.specs.Line.{line_by, line_of, packet_of}
use Rattle.replay_line.specs.Word.{digit_of, pairs_of, is_packet, packet_in}
use Rattle.replay_line.specs.Said.{said_with, text_said}
use Rattle.replay_line.specs.declared.line.Line.TheVariants.{X25, Network}
use Rattle.replay_line.proofs.Grammar.{packet-short, packet-octets, long_bad}
use Rattle.reply.specs.Shown.{shown, shown_by, text_with}
use Rattle.reply.specs.Reply.{said_of, reply_to, reply_of}

-- ---- records
answer-whole : (n : ℕ) (xs : List ℕ) (room : ℕ) → n < 65536 → 0 < length xs → length xs ≤ room → answer_to n xs room ≡ Ok (length xs)
unfolding answer_to
answer-whole n xs room h some fit =
    let long : n ≤ 65535 = omega (arith, h) in
    let z : length xs ≡ 0 → ⊥ = λ e. omega (arith, e, some) in
    simp (le-ltb 65535 n long, ne_eqb (length xs) 0 z, le-leb (length xs) room fit)

json_some : (s : List ℕ) (kids : Items) → 0 < length (json_of s kids)
unfolding json_of
json_some s kids = omega arith

cells-some : (kids : Items) → 0 < length (flat 0 (record_of kids))
unfolding flat
cells-some kids = omega arith

-- the cells of a good record, with room for them and for its text: answer 0 and its JSON
pub says_json : (cells room n : ℕ) (s : List ℕ) (kids : Items) → length s < 65536 → Good (length s) kids → length (flat 0 (record_of kids)) ≤ cells → length (json_of s kids) ≤ room
    → said_of cells room n (flat 0 (record_of kids)) s ≡ text_said n 0 (json_of s kids)
unfolding shown
says_json cells room n s kids short good fit text-fit =
    let xs = flat 0 (record_of kids) in
    let e : printed xs s ≡ json_of s kids = printed_record s kids short good in
    let a : answer_to (length s) xs cells ≡ Ok (length xs) = answer-whole (length s) xs cells short (cells-some kids) fit in
    let b : answer_to (length s) (json_of s kids) room ≡ Ok (length (json_of s kids)) = answer-whole (length s) (json_of s kids) room short (json_some s kids) text-fit in
    ap (λ (q : Answer). text_said n (number_of (shown_by q xs s room)) (text_with (shown_by q xs s room) (printed xs s))) a
    ∙ ap (λ (t : List ℕ). text_said n (number_of (answer_to (length s) t room)) (text_with (answer_to (length s) t room) t)) e
    ∙ ap (λ (q : Answer). text_said n (number_of q) (text_with q (json_of s kids))) b

all-octets : (s : List ℕ) → Octets s → fields.Octets s
all-octets [] p i = omega arith
all-octets (x ∷ s) p zero = p 0 (omega arith)
all-octets (x ∷ s) p (suc i) = all-octets s (λ j h. p (suc j) (omega arith)) i

-- ---- lines
module _ (cells room n size : ℕ) (l : List ℕ) where
  abbrev s : List ℕ
  s = packet_of l

  pub network_json : line_of l ≡ Some (Network size) → 0 < length (network_cells s) → length (network_cells s) ≤ cells → length (json_of s (network_members s)) ≤ room
      → reply_of cells room n l ≡ text_said n 0 (json_of s (network_members s))
  unfolding reply_of
  network_json e some fit text-fit =
      let short = packet-short l in
      let r = network_record s (all-octets s (packet-octets l)) (omega (arith, short)) some in
      ap (reply_to cells room n s) e ∙ ap (λ (xs : List ℕ). said_of cells room n xs s) r.0
      ∙ says_json cells room n s (network_members s) (omega (arith, short)) r.1 (omega (arith, fit, ap length r.0)) text-fit

  pub x25_json : line_of l ≡ Some (X25 size) → 0 < length (x25_cells s) → length (x25_cells s) ≤ cells → length (json_of s (members_of s (x25.packet_of s))) ≤ room
      → reply_of cells room n l ≡ text_said n 0 (json_of s (members_of s (x25.packet_of s)))
  unfolding reply_of
  x25_json e some fit text-fit =
      let readable : (x25.packet_of s).kind ≡ 0 → ⊥ = λ z. omega (arith, some, ap length (no_cells s (x25.packet_of s) refl z)) in
      let k = cells_are s (x25.packet_of s) refl readable in
      ap (reply_to cells room n s) e ∙ ap (λ (xs : List ℕ). said_of cells room n xs s) (sym k)
      ∙ says_json cells room n s (members_of s (x25.packet_of s)) (omega (arith, packet-short l)) (good_members s (all-octets s (packet-octets l)) readable) (omega (arith, fit, ap length k)) text-fit

module _ (cells room n : ℕ) (l : List ℕ) where
  pub bad_said_lem : line_of l ≡ None → reply_of cells room n l ≡ text_said n 17 []
  unfolding reply_of
  bad_said_lem e = ap (reply_to cells room n (packet_of l)) e

  pub long-said : 4120 < length l → reply_of cells room n l ≡ text_said n 17 []
  long-said h = bad_said_lem (long_bad l h)

-- ---- document 01's own line: P 10020043
abbrev line : List ℕ
line = octets "P 10020043"

abbrev said : List ℕ
said = 16 ∷ 2 ∷ 0 ∷ 67 ∷ []

line-kind : line_of line ≡ Some (X25 4)
unfolding line_of line_by is_packet packet_in pairs_of digit_of all
line-kind = refl

line-packet : packet_of line ≡ said
unfolding line_of line_by is_packet packet_of packet_in pairs_of digit_of all
line-packet = refl

said-cells : x25_cells said ≡ flat 0 (record_of packet)
unfolding x25_cells x25.packet_of by_type members_of walk_from walk_by
said-cells = refl

packet-fits : length (flat 0 (record_of packet)) ≤ 8192
unfolding flat
packet-fits = omega arith

text-fits : length (json_of said packet) ≤ 8192
text-fits = rw packet-text (omega arith)

good-packet : Good 4 packet
good-packet = (omega arith, (omega arith, omega arith), omega arith, (omega arith, (omega arith, omega arith), (omega arith, omega arith), (omega arith, (omega arith, omega arith), omega arith, (omega arith, (omega arith, omega arith), omega arith, (omega arith, (omega arith, omega arith), omega arith, tt)))))

text-said : text_said 4 0 (octets "{\"lcn\":2,\"kind\":\"data\",\"ps\":0,\"pr\":0,\"more\":false}") ≡ octets "4 0 50 {\"lcn\":2,\"kind\":\"data\",\"ps\":0,\"pr\":0,\"more\":false}\n"
unfolding said_with digits
text-said = refl

pub example : reply_of 8192 8192 4 (octets "P 10020043") ≡ octets "4 0 50 {\"lcn\":2,\"kind\":\"data\",\"ps\":0,\"pr\":0,\"more\":false}\n"
unfolding reply_of
example =
    ap (reply_to 8192 8192 4 (packet_of line)) line-kind
    ∙ ap (λ (s : List ℕ). said_of 8192 8192 4 (x25_cells s) s) line-packet
    ∙ ap (λ (xs : List ℕ). said_of 8192 8192 4 xs said) said-cells
    ∙ says_json 8192 8192 4 said packet (omega arith) good-packet packet-fits text-fits
    ∙ ap (text_said 4 0) packet-text
    ∙ text-said
