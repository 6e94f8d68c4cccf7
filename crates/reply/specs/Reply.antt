-- What replay answers to a line: document 01, 'Replay'. Pushes, tidying and closing are answered 17 until there are stores.
use Rattle.std.specs.Prelude.{ℕ, List, [], Option, Some, None}
use Rattle.cells.specs.Answer.{number_of}
use Rattle.print.specs.Print.{printed}
use Rattle.x25.specs.Packet.{x25_cells}
use Rattle.network.specs.Network.{network_cells}
use Rattle.replay_line.specs.Line.{line_of, packet_of}
use Rattle.replay_line.specs.Said.{text_said}
use Rattle.replay_line.specs.declared.line.Line.{Line}
use Rattle.replay_line.specs.declared.line.Line.TheVariants.{X25, Network, Ordered}
use Rattle.reply.specs.Shown.{shown, text_with}

-- with room for so many cells and so much text: line number n, on octets s that have the cells xs
abbrev pub said_of : ℕ → ℕ → ℕ → List ℕ → List ℕ → List ℕ
said_of cells room n xs s =
    let a = shown xs s cells room in
    text_said n (number_of a) (text_with a (printed xs s))

abbrev pub bad_said : ℕ → List ℕ
bad_said n = text_said n 17 []

abbrev pub reply_to : ℕ → ℕ → ℕ → List ℕ → Option Line → List ℕ
reply_to cells room n s None = bad_said n
reply_to cells room n s (Some (X25 size)) = said_of cells room n (x25_cells s) s
reply_to cells room n s (Some (Network size)) = said_of cells room n (network_cells s) s
reply_to cells room n s (Some (Ordered o)) = bad_said n

unfoldable pub reply_of : ℕ → ℕ → ℕ → List ℕ → List ℕ
reply_of cells room n l = reply_to cells room n (packet_of l) (line_of l)
