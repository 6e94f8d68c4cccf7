-- A line's packet, where it was read to, and what is said of the line.
use Prim.Native.Nat.{ℕ, ◌+◌, ◌≤◌}
use mathlib.Core.Path.{◌≡◌, refl, sym, ap, ◌∙◌}
use mathlib.Core.Bool.{true}
use mathlib.Core.List.{List}
use native.Mathlib.Omega.{arith}
use lib.ListN.{length, take, drop}
use lib.Seq.{take_at}
use Rattle.std.specs.Prelude.{Option, Some, None}
use Rattle.octets.specs.Emit.{put}
use Rattle.octets.proofs.Put.{put_is, length-put}
use Rattle.x25.specs.Packet.{x25_cells}
use Rattle.network.specs.Network.{network_cells}
use Rattle.replay_line.specs.Line.{line_of, packet_of, has_packet}
use Rattle.replay_line.specs.declared.line.Line.{Line}
use Rattle.replay_line.specs.declared.line.Line.TheVariants.{X25, Network, Ordered}
use Rattle.replay_line.specs.declared.line.Order.{Order}
use Rattle.replay_line.proofs.Grammar.{size_of, packet-size, packet-short}
use Rattle.reply.specs.Reply.{said_of, bad_said, reply_to, reply_of}

-- what read_line leaves
abbrev pub Read : List ℕ → List ℕ → Option Line → List ℕ → Type 0
Read l old line new = (line ≡ line_of l) × (new ≡ put old 0 (packet_of l))

-- the packet of l is the first size octets of p
abbrev pub Carries : List ℕ → ℕ → List ℕ → Type 0
Carries l size p = (size ≤ length p) × (take size p ≡ packet_of l)

module _ (l old : List ℕ) {p : List ℕ} {line : Option Line} where
  carries : (x : Option Line) → Read l old line p → line ≡ x → has_packet x ≡ true → 2048 ≤ length old → Carries l (size_of x) p
  carries x r e h room =
      let k : line_of l ≡ x = sym r.0 ∙ e in
      let size : size_of x ≡ length (packet_of l) = ap size_of (sym k) ∙ packet-size l (ap has_packet k ∙ h) in
      let short = packet-short l in
      let long : length p ≡ length old = ap length r.1 ∙ length-put old 0 (packet_of l) in
      (omega (arith, size, short, long, room), ap (take (size_of x)) (r.1 ∙ put_is old 0 (packet_of l) (omega (arith, short, room))) ∙ take_at (packet_of l) (drop (0 + length (packet_of l)) old) (size_of x) (sym size))

  module _ {size : ℕ} where
    pub x25_carries : Read l old line p → line ≡ Some (X25 size) → 2048 ≤ length old → Carries l size p
    x25_carries r e room = carries (Some (X25 size)) r e refl room

    pub network_carries : Read l old line p → line ≡ Some (Network size) → 2048 ≤ length old → Carries l size p
    network_carries r e room = carries (Some (Network size)) r e refl room

    module _ (cells room n : ℕ) where
      pub x25_said : Read l old line p → line ≡ Some (X25 size) → 2048 ≤ length old → said_of cells room n (x25_cells (take size p)) (take size p) ≡ reply_of cells room n l
      unfolding reply_of
      x25_said r e h = ap (λ (s : List ℕ). said_of cells room n (x25_cells s) s) (x25_carries r e h).1 ∙ ap (reply_to cells room n (packet_of l)) (sym e ∙ r.0)

      pub network_said : Read l old line p → line ≡ Some (Network size) → 2048 ≤ length old → said_of cells room n (network_cells (take size p)) (take size p) ≡ reply_of cells room n l
      unfolding reply_of
      network_said r e h = ap (λ (s : List ℕ). said_of cells room n (network_cells s) s) (network_carries r e h).1 ∙ ap (reply_to cells room n (packet_of l)) (sym e ∙ r.0)

-- lines that are answered 17
module _ (cells room n : ℕ) (l : List ℕ) {line : Option Line} where
  pub bad_reply : line ≡ line_of l → line ≡ None → bad_said n ≡ reply_of cells room n l
  unfolding reply_of
  bad_reply r e = ap (reply_to cells room n (packet_of l)) (sym e ∙ r)

  pub ordered_reply : {x : Line} {o : Order} → line ≡ line_of l → line ≡ Some x → x ≡ Ordered o → bad_said n ≡ reply_of cells room n l
  unfolding reply_of
  ordered_reply r e f = ap (reply_to cells room n (packet_of l)) (ap Some (sym f) ∙ sym e ∙ r)
