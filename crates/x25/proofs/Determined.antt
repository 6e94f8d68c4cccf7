-- Any two results of the entry point are equal. Its contract says the part's place as an equation too.
use mathlib.Core.Path.{◌≡◌, sym, ◌∙◌}
use mathlib.Core.List.{List}
use Prim.Native.Nat.{ℕ}
use Rattle.cells.specs.Answer.{Answer}
use Rattle.x25.specs.Parse.{ParsedX25}

pub determined : {s old : List ℕ} {r r' : Answer} {new new' part part' : List ℕ} → ParsedX25 s old r new part → ParsedX25 s old r' new' part'
    → (r ≡ r') × (new ≡ new') × (part ≡ part')
determined p q = (p.answered ∙ sym q.answered, p.output ∙ sym q.output, p.payload ∙ sym q.payload)
