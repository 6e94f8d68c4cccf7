-- Cells are well formed for an input exactly where they are the cells of a good tree, and then they say that tree alone.
use mathlib.Core.Path.{◌≡◌, sym, ap, ◌∙◌}
use mathlib.Core.List.{List}
use mathlib.Core.Option.{some}
use Prim.Native.Nat.{ℕ, ◌<◌}
use Rattle.cells.specs.Items.{Items, record_of, flat}
use Rattle.cells.specs.Read.{items_of}
use Rattle.cells.specs.Good.{Good}
use Rattle.cells.proofs.Complete.{complete_record}
use Rattle.cells.proofs.Sound.{sound_record}

-- the cells of a good tree are read back as that tree
pub reads-back : (n : ℕ) (kids : Items) → n < 65536 → Good n kids → items_of n (flat 0 (record_of kids)) ≡ some kids
reads-back n kids small h = complete_record n kids small h

-- cells that are read back as a tree are the cells of that tree, and it is a good one
pub read-cells : (n : ℕ) (cells : List ℕ) (kids : Items) → items_of n cells ≡ some kids → (cells ≡ flat 0 (record_of kids)) × Good n kids
read-cells n cells kids e = sound_record n cells kids e

-- cells that are read back as one tree are the same cells, also for inputs of other lengths
pub one_reading : (n m : ℕ) (cs ds : List ℕ) (kids : Items) → items_of n cs ≡ some kids → items_of m ds ≡ some kids → cs ≡ ds
one_reading n m cs ds kids e f = (read-cells n cs kids e).0 ∙ sym (read-cells m ds kids f).0

-- good trees with the same cells are the same tree
pub one_tree : (n : ℕ) (kids other : Items) → n < 65536 → Good n kids → Good n other → flat 0 (record_of kids) ≡ flat 0 (record_of other) → kids ≡ other
one_tree n kids other small g h e =
    let z : some kids ≡ some other = sym (reads-back n kids small g) ∙ ap (items_of n) e ∙ reads-back n other small h in
    cc
