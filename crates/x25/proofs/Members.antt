-- The members of a packet's record, in the three parts that are put one after the other.
use mathlib.Core.Path.{◌≡◌, sym, ap, ◌∙◌}
use mathlib.Core.List.{List}
use Prim.Native.Nat.{ℕ}
use Rattle.names.specs.Numbers.{k_lcn, k_kind, k_ps, k_pr, k_more, k_cause, k_cause_text, k_diagnostic, k_diagnostic_text}
use Rattle.cells.specs.Items.{Items, none, leaf, number, flag, text, ◌⊕◌}
use Rattle.cells.proofs.Rows.{⊕-assoc}
use Rattle.fields.specs.Member.{opt_text}
use Rattle.x25.specs.Packet.{opt_number, opt_sndcf, fac_member, members_of}
use Rattle.x25.specs.declared.packet.Packet.{Packet}

abbrev pub head_of : Packet → Items
head_of x = leaf k_lcn (number x.lcn) none ⊕ (leaf k_kind (text x.kind) none ⊕ (opt_number k_ps x.ps ⊕ (opt_number k_pr x.pr ⊕ leaf k_more (flag x.more) none)))

abbrev pub causes_of : Packet → Items
causes_of x = opt_number k_cause x.cause ⊕ (opt_text k_cause_text x.causetext ⊕ (opt_number k_diagnostic x.diagnostic ⊕ opt_text k_diagnostic_text x.diagtext))

abbrev pub calls_of : List ℕ → Packet → Items
calls_of s x = fac_member s x ⊕ opt_sndcf x.sndcf x.version

four : (a b c d e : Items) → (a ⊕ (b ⊕ (c ⊕ d))) ⊕ e ≡ a ⊕ (b ⊕ (c ⊕ (d ⊕ e)))
four a b c d e = ⊕-assoc a (b ⊕ (c ⊕ d)) e ∙ ap (λ (z : Items). a ⊕ z) (⊕-assoc b (c ⊕ d) e ∙ ap (λ (z : Items). b ⊕ z) (⊕-assoc c d e))

pub members_are : (s : List ℕ) (x : Packet) → members_of s x ≡ head_of x ⊕ (causes_of x ⊕ calls_of s x)
unfolding members_of
members_are s x =
    let rest : Items = calls_of s x in
    let told : Items = causes_of x ⊕ rest in
    let l : Items = leaf k_lcn (number x.lcn) none in
    let k : Items = leaf k_kind (text x.kind) none in
    let m : Items = leaf k_more (flag x.more) none in
    sym (
    ap (λ (z : Items). head_of x ⊕ z) (four (opt_number k_cause x.cause) (opt_text k_cause_text x.causetext) (opt_number k_diagnostic x.diagnostic) (opt_text k_diagnostic_text x.diagtext) rest)
    ∙ ap (λ (z : Items). l ⊕ (k ⊕ z)) (⊕-assoc (opt_number k_ps x.ps) (opt_number k_pr x.pr ⊕ m) _ ∙ ap (λ (z : Items). opt_number k_ps x.ps ⊕ z) (⊕-assoc (opt_number k_pr x.pr) m _))
    )
