use borrow.Author.Rules.{rules}
use Rattle.replay_line.proofs.Words.{dash_none, hex-packet, hex-parts}
use Rattle.octets.proofs.Emits.{emits_as, nothing}
use mathlib.Core.Path.{sym, ◌∙◌}
use Rattle.replay_line.proofs.word.put_packet.Goals as goal

pub returns-then-is_dash : goal.returns-then-is_dash
returns-then-is_dash c =
    emits_as (sym (dash_none c.args.w.now (sym c.is_dash.ensures ∙ c.if-is_dash.true))) (nothing _ _ (search rules) (search rules))

pub put_pairs-requires : goal.put_pairs-requires
put_pairs-requires c = (hex-parts c.args.w.now c.requires (sym c.is_dash.ensures ∙ c.if-is_dash.false)).3

pub returns-else-is_dash : goal.returns-else-is_dash
returns-else-is_dash c = emits_as (sym (hex-packet c.args.w.now (sym c.is_dash.ensures ∙ c.if-is_dash.false))) c.put_pairs.ensures
