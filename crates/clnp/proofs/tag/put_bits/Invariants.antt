use Rattle.clnp.proofs.tag.put_bits.Given as goal

abbrev pub ghost-put_bit : goal.ghost-put_bit
ghost-put_bit g a = g.rows
