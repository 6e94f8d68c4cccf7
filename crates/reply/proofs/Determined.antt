-- Any two results of a reply are equal.
use Prim.Native.Nat.{ℕ}
use mathlib.Core.Path.{◌≡◌}
use mathlib.Core.List.{List}
use Rattle.octets.specs.Emit.{Emits}
use Rattle.octets.proofs.Emits as emits
use Rattle.reply.specs.Reply.{reply_of}

pub determined : (cells room n : ℕ) (l old : List ℕ) {new new' : List ℕ} {at next next' : ℕ} → Emits old at (reply_of cells room n l) new next → Emits old at (reply_of cells room n l) new' next' → (new ≡ new') × (next ≡ next')
determined cells room n l old e f = emits.determined e f
