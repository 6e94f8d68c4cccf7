use Rattle.cells.specs.Items.{◌⊕◌}
use Rattle.cells.proofs.Rows.{then_row}
use Rattle.clnp.specs.Pdu.{flag_members, data_member}
use Rattle.clnp.proofs.Records.{options_of}
use Rattle.clnp.proofs.record.put_rest.Goals as goal

pub returns : goal.returns
returns c =
    let s = c.args.p.octets.now in
    then_row 1 (flag_members s) (options_of s ⊕ data_member s) c.put_flags-flags.ensures (then_row 1 (options_of s) (data_member s) c.put_variable-options.ensures c.put_data.ensures)
