-- How long an answer line is at most.
use Prim.Native.Nat.{ℕ, zero, suc, ◌+◌, ◌/◌, ◌%◌, ◌≤◌}
use mathlib.Core.Path.{◌≡◌, refl}
use mathlib.Core.Bool.{Bool, true, false}
use mathlib.Core.List.{List, [], ◌∷◌, ◌++◌}
use native.Mathlib.Omega.{arith}
use borrow.Author.Tests.{leb-true}
use lib.Dec.{ltb, leb, eqb}
use lib.ListN.{length, length-append}
use Rattle.octets.specs.Text.{pick, digits, decimal}
use Rattle.cells.specs.Answer.{Answer, answer_to, number_of}
use Rattle.std.specs.Prelude.{Ok, Err}
use Rattle.cells.specs.declared.answer.Refusal.TheVariants.{TooLong, Unreadable, Short}
use Rattle.print.specs.Print.{printed}
use Rattle.x25.specs.Packet.{x25_cells}
use Rattle.network.specs.Network.{network_cells}
use Rattle.std.specs.Prelude.{Option, Some, None}
use Rattle.replay_line.specs.Line.{line_of, packet_of}
use Rattle.replay_line.specs.Said.{or_dash, said_with}
use Rattle.replay_line.specs.declared.line.Line.{Line}
use Rattle.replay_line.specs.declared.line.Line.TheVariants.{X25, Network, Ordered}
use Rattle.reply.specs.Shown.{shown_by, shown, text_with}
use Rattle.reply.specs.Reply.{said_of, reply_to, reply_of}

-- ---- the words of a line
front-short : (t : Bool) (k : ℕ) (xs : List ℕ) → length xs ≤ k → length (pick t xs []) ≤ k
front-short true k xs h = h
front-short false k xs h = omega arith

digits-short : (k n : ℕ) → length (digits k n) ≤ k
unfolding digits
digits-short zero n = omega arith
digits-short (suc k) n =
    let f : List ℕ = pick (leb 10 n) (digits k (n / 10)) [] in
    omega (arith, length-append f ((48 + n % 10) ∷ []), front-short (leb 10 n) k (digits k (n / 10)) (digits-short k (n / 10)))

either-short : (b : Bool) (t : List ℕ) → length (pick b (45 ∷ []) t) ≤ length t + 1
either-short true t = omega arith
either-short false t = omega arith

dash_short : (t : List ℕ) → length (or_dash t) ≤ length t + 1
dash_short t = either-short (eqb (length t) 0) t

said-short : (number answer len : ℕ) (t : List ℕ) → length (said_with number answer len t) ≤ length t + 45
unfolding said_with
said-short number answer len t =
    let a : List ℕ = digits 20 number in
    let b : List ℕ = 32 ∷ decimal answer in
    let c : List ℕ = 32 ∷ decimal len in
    let d : List ℕ = 32 ∷ or_dash t in
    omega (
      arith,
      length-append (a ++ b ++ c ++ d) (10 ∷ []),
      length-append (a ++ b ++ c) d,
      length-append (a ++ b) c,
      length-append a b,
      digits-short 20 number,
      digits-short 10 answer,
      digits-short 10 len,
      dash_short t,
    )

-- ---- its text, for which there was room
fits-room : (n : ℕ) (xs : List ℕ) (room : ℕ) → length (text_with (answer_to n xs room) xs) ≤ room
unfolding answer_to
fits-room n xs room = by (ltb 65535 n) (eqb (length xs) 0) (leb (length xs) room) refl
  where
    by : (p q r : Bool) → leb (length xs) room ≡ r → length (text_with (pick p (Err TooLong) (pick q (Err Unreadable) (pick r (Ok (length xs)) (Err Short)))) xs) ≤ room
    by true q r e = omega arith
    by false true r e = omega arith
    by false false true e = leb-true (length xs) room e
    by false false false e = omega arith

shown-short : (xs s : List ℕ) (room : ℕ) (a : Answer) → length (text_with (shown_by a xs s room) (printed xs s)) ≤ room
shown-short xs s room (Ok n) = fits-room (length s) (printed xs s) room
shown-short xs s room (Err r) = omega arith

of_short : (cells room n : ℕ) (xs s : List ℕ) → length (said_of cells room n xs s) ≤ room + 45
unfolding shown
of_short cells room n xs s =
    let a : Answer = shown xs s cells room in
    let t : List ℕ = text_with a (printed xs s) in
    omega (arith, said-short n (number_of a) (length t) t, shown-short xs s room (answer_to (length s) xs cells))

to_short : (cells room n : ℕ) (s : List ℕ) (line : Option Line) → length (reply_to cells room n s line) ≤ room + 45
to_short cells room n s None = omega (arith, said-short n 17 0 [])
to_short cells room n s (Some (X25 size)) = of_short cells room n (x25_cells s) s
to_short cells room n s (Some (Network size)) = of_short cells room n (network_cells s) s
to_short cells room n s (Some (Ordered o)) = omega (arith, said-short n 17 0 [])

-- so an output with that much room left keeps all of it
pub reply_short : (cells room n : ℕ) (l : List ℕ) → length (reply_of cells room n l) ≤ room + 45
unfolding reply_of
reply_short cells room n l = to_short cells room n (packet_of l) (line_of l)
