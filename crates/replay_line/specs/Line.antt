-- The lines of replay's input: document 01, 'Replay'.
use Rattle.std.specs.Prelude.{ℕ, Bool, true, false, ◌&&◌, ◌||◌, List, [], Option, Some, None, leb, eqb, pos, length, get_or, drop, Float}
use Rattle.std.specs.Float.{fin, binary64}
use Rattle.std.specs.Float.Ieee.{div, of_int}
use Rattle.octets.specs.Text.{pick}
use Rattle.replay_line.specs.Word.{word_of, behind_word, is_number, value_of, is_packet, packet_in}
use Rattle.replay_line.specs.declared.line.Store.{Store}
use Rattle.replay_line.specs.declared.line.Store.TheVariants as store
use Rattle.replay_line.specs.declared.line.Order.TheVariants as order
use Rattle.replay_line.specs.declared.line.Line.{Line}
use Rattle.replay_line.specs.declared.line.Line.TheVariants as line

-- 1000.0 = 125 * 2 ^ 3
abbrev pub thousand : Float
thousand = fin false 125 (pos 3)

-- milliseconds as f64 divided by 1000.0
unfoldable pub seconds_of : ℕ → Float
seconds_of ms = div binary64 (of_int binary64 (pos ms)) thousand

-- ---- what follows a letter and its space; None for a bad line
-- a packet's octets
abbrev pub size_in : List ℕ → Option ℕ
size_in w = pick (is_packet w) (Some (length (packet_in w))) None

-- P, N: a packet
abbrev pub shown : (ℕ → Line) → List ℕ → Option Line
shown give r = pick (is_packet r) (Some (give (length (packet_in r)))) None

-- Q: a link
abbrev pub close_of : List ℕ → Option Line
close_of r = pick (is_number r) (Some (line.Ordered (order.Close (value_of r)))) None

-- E: milliseconds, a link
abbrev pub tidy_of : List ℕ → Option Line
tidy_of r =
    pick (is_number (word_of r) && is_number (behind_word r)) (Some (line.Ordered (order.Tidy (seconds_of (value_of (word_of r))) (value_of (behind_word r))))) None

-- X, C, T: milliseconds, a link, a packet
abbrev pub packet_word : List ℕ → List ℕ
packet_word r = behind_word (behind_word r)

abbrev pub push_at : Store → ℕ → List ℕ → Option Line
push_at s ms r =
    pick (is_number (word_of r) && is_packet (behind_word r)) (Some (line.Ordered (order.Push s (seconds_of ms) (value_of (word_of r)) (length (packet_in (behind_word r)))))) None

abbrev pub push_of : Store → List ℕ → Option Line
push_of s r = pick (is_number (word_of r)) (push_at s (value_of (word_of r)) (behind_word r)) None

-- ---- a whole line, without its line feed: a letter, a space, and what follows
unfoldable pub line_by : ℕ → List ℕ → Option Line
line_by letter r =
    pick (eqb letter 88) (push_of store.X25 r)
    (pick (eqb letter 67) (push_of store.Clnp r)
    (pick (eqb letter 84) (push_of store.Cotp r)
    (pick (eqb letter 69) (tidy_of r)
    (pick (eqb letter 81) (close_of r)
    (pick (eqb letter 80) (shown line.X25 r)
    (pick (eqb letter 78) (shown line.Network r) None))))))

unfoldable pub line_of : List ℕ → Option Line
line_of l = pick (leb 2 (length l) && eqb (get_or l 1 0) 32) (line_by (get_or l 0 0) (drop 2 l)) None

-- the octets of its packet; none where it has none or is bad
abbrev pub has_packet : Option Line → Bool
has_packet None = false
has_packet (Some (line.X25 n)) = true
has_packet (Some (line.Network n)) = true
has_packet (Some (line.Ordered (order.Push s at link n))) = true
has_packet (Some (line.Ordered (order.Tidy at link))) = false
has_packet (Some (line.Ordered (order.Close link))) = false

-- P and N have their packet behind the letter, the others behind two numbers
abbrev pub word_at : ℕ → List ℕ → List ℕ
word_at letter r = pick (eqb letter 80 || eqb letter 78) r (packet_word r)

unfoldable pub packet_of : List ℕ → List ℕ
packet_of l = pick (has_packet (line_of l)) (packet_in (word_at (get_or l 0 0) (drop 2 l))) []
