use borrow.Author.Rules.{rules}
use lib.ListN.{length}
use mathlib.Core.Path.{◌≡◌}
use Rattle.replay_line.proofs.Texts.{line_told, dashed, told}
use Rattle.replay_line.proofs.said.put_said.Goals as goal
use Rattle.replay_line.proofs.said.put_said.Goals.{then-is_empty, else-is_empty}

pub returns : goal.returns
returns g c t tells same =
    let s = c.args.s.now in
    elim c.if-is_empty.branch [
      | then-is_empty w ↦ line_told c.args.number c.args.answer (length s) (t s) _ (dashed (t s) (same.0 (search rules))) c.put_numbers-headed.ensures w.put_octet-told.ensures w.out-is w.told-is c.put_octet.ensures
      | else-is_empty w ↦ line_told c.args.number c.args.answer (length s) (t s) _ (told (t s) (λ e. let some : length s ≡ 0 → ⊥ = search rules in some (same.1 e))) c.put_numbers-headed.ensures (tells _ _ _ _ _ w.tell-told.ensures) w.out-is w.told-is c.put_octet.ensures
    ]
