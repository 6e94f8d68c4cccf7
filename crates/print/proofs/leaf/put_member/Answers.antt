use Rattle.octets.proofs.Emits.{then}
use Rattle.print.proofs.leaf.put_member.Goals as goal

pub put_leaf-requires : goal.put_leaf-requires
put_leaf-requires c = rw (c.form.ensures, c.len.ensures, c.value.ensures) c.requires

pub returns : goal.returns
returns c =
    then (rw c.field.ensures at c.put_lead-next.ensures) (rw (c.form.ensures, c.len.ensures, c.value.ensures) at c.put_leaf.ensures)
