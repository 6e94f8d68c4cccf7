use Rattle.names.specs.Numbers.{k_lcn, k_kind, k_ps, k_pr, k_more}
use Rattle.cells.specs.Items.{Items, none, leaf, number, flag, text, ◌⊕◌}
use Rattle.cells.proofs.Rows.{then_row}
use Rattle.x25.specs.Packet.{opt_number}
use Rattle.x25.proofs.record.put_head.Goals as goal

pub returns : goal.returns
returns c =
    let x = c.args.x.now in
    let l : Items = leaf k_lcn (number x.lcn) none in
    let k : Items = leaf k_kind (text x.kind) none in
    let s = opt_number k_ps x.ps in
    let r = opt_number k_pr x.pr in
    let m : Items = leaf k_more (flag x.more) none in
    then_row 1 l (k ⊕ (s ⊕ (r ⊕ m))) c.put_number-lcn.ensures (then_row 1 k (s ⊕ (r ⊕ m)) c.put_text_number-kind.ensures
    (then_row 1 s (r ⊕ m) c.put_octet-ps.ensures (then_row 1 r m c.put_octet-pr.ensures c.put_flag.ensures)))
