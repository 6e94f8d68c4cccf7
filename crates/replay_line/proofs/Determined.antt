-- Any two results of reading a line are equal.
use mathlib.Core.Path.{◌≡◌, sym, ◌∙◌}
use mathlib.Core.List.{List}
use Prim.Native.Nat.{ℕ}
use Rattle.std.specs.Prelude.{Option}
use Rattle.octets.specs.Emit.{put}
use Rattle.replay_line.specs.Line.{line_of, packet_of}
use Rattle.replay_line.specs.declared.line.Line.{Line}

pub determined : (l old : List ℕ) {new new' : List ℕ} {r r' : Option Line} → (r ≡ line_of l) × (new ≡ put old 0 (packet_of l)) → (r' ≡ line_of l) × (new' ≡ put old 0 (packet_of l)) → (r ≡ r') × (new ≡ new')
determined l old p q = (p.0 ∙ sym q.0, p.1 ∙ sym q.1)
