-- The cells of a packet that was read.
use Rattle.std.specs.Prelude.{Some, None}
use mathlib.Core.Path.{◌≡◌, refl, sym, ap, ◌∙◌}
use mathlib.Core.Bool.{Bool, true, false}
use lib.Dec.{eqb}
use Rattle.octets.specs.Text.{pick}
use mathlib.Core.List.{List, []}
use Prim.Native.Nat.{ℕ}
use borrow.Author.Tests.{eq-eqb, ne_eqb, eqb-true, eqb-false}
use Rattle.cells.specs.Items.{record_of, flat}
use Rattle.x25.specs.Packet.{packet_of, read_of, members_of, x25_cells}
use Rattle.x25.specs.declared.packet.Packet.{Packet}

pub no_cells : (s : List ℕ) (x : Packet) → x ≡ packet_of s → x.kind ≡ 0 → x25_cells s ≡ []
unfolding x25_cells
no_cells s x e k = let z : (packet_of s).kind ≡ 0 = ap (λ (p : Packet). p.kind) (sym e) ∙ k in simp (eq-eqb (packet_of s).kind 0 z)

pub cells_are : (s : List ℕ) (x : Packet) → x ≡ packet_of s → (x.kind ≡ 0 → ⊥) → flat 0 (record_of (members_of s x)) ≡ x25_cells s
unfolding x25_cells
cells_are s x e k =
    let z : (packet_of s).kind ≡ 0 → ⊥ = λ h. k (ap (λ (p : Packet). p.kind) e ∙ h) in
    ap (λ (p : Packet). flat 0 (record_of (members_of s p))) e ∙ sym (simp (ne_eqb (packet_of s).kind 0 z))

-- what was read: nothing where the kind is 0, and else the packet
known-none : (x : Packet) (b : Bool) → eqb x.kind 0 ≡ b → pick b None (Some x) ≡ None → x.kind ≡ 0
known-none x true e h = eqb-true x.kind 0 e
known-none x false e h = absurd cc

known-some : (x y : Packet) (b : Bool) → eqb x.kind 0 ≡ b → pick b None (Some x) ≡ Some y → (y ≡ x) × (y.kind ≡ 0 → ⊥)
known-some x y true e h = absurd cc
known-some x y false e h = let q : y ≡ x = cc in (q, λ z. eqb-false x.kind 0 e (ap (λ (p : Packet). p.kind) (sym q) ∙ z))

pub unread : (s : List ℕ) → read_of s ≡ None → x25_cells s ≡ []
unread s h = no_cells s (packet_of s) refl (known-none (packet_of s) (eqb (packet_of s).kind 0) refl h)

pub was-read : (s : List ℕ) (x : Packet) → read_of s ≡ Some x → (x ≡ packet_of s) × (flat 0 (record_of (members_of s x)) ≡ x25_cells s)
was-read s x h = let k = known-some (packet_of s) x (eqb (packet_of s).kind 0) refl h in (k.0, cells_are s x k.0 k.1)
