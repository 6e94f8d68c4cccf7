-- What a head says of the octets that it was read from.
use Prim.Native.Nat.{ℕ, ◌/◌, ◌%◌, ◌≤◌}
use mathlib.Core.Path.{◌≡◌, refl, subst}
use mathlib.Core.List.{List}
use mathlib.Core.Bool.{Bool, true, false, ◌&&◌}
use native.Mathlib.Omega.{arith}
use borrow.Author.Tests.{ltb-false}
use lib.Dec.{ltb, eqb}
use lib.ListN.{length, get_or}
use Rattle.std.specs.Prelude.{Option, Some, None}
use Rattle.octets.specs.Text.{pick}
use Rattle.octets.proofs.Picks.{pick_elim, pick_yes, pick_no}
use Rattle.cotp.specs.Tpdu.{kind_of, numbered, fixed_len, head_at, head_of}
use Rattle.cotp.specs.declared.tpdu.Head.{Head}
use Rattle.cotp.specs.declared.tpdu.Kind.{Kind}

-- ---- a length by the format
pub long-format : (e : Bool) (n k : ℕ) → e ≡ true → pick e n 5 ≤ k → n ≤ k
long-format e n k h l = omega (arith, pick_yes n 5 h)

pub normal_format : (e : Bool) (n k : ℕ) → e ≡ false → pick e n 5 ≤ k → 5 ≤ k
normal_format e n k h l = omega (arith, pick_no n 5 h)

pub any-format : (e : Bool) (n k : ℕ) → 5 ≤ n → pick e n 5 ≤ k → 5 ≤ k
any-format true n k h l = omega arith
any-format false n k h l = l

-- ---- what was read
pub record Said (s : List ℕ) (h : Head) : Type 0 where
  pub four : 4 ≤ length s
  pub counts : h.li ≡ get_or s 0 0
  pub known : kind_of (get_or s 1 0 / 16) ≡ Some h.kind
  pub long : h.extended ≡ (numbered h.kind && eqb (h.li % 2) 1)
  pub front : h.fixed ≡ fixed_len h.kind h.extended
  pub whole : fixed_len h.kind h.extended ≤ length s

abbrev Says : List ℕ → Option Head → Type 0
Says s None = Unit
Says s (Some h) = Said s h

said-at : (s : List ℕ) → 4 ≤ length s → (k : Option Kind) → kind_of (get_or s 1 0 / 16) ≡ k → Says s (head_at s (get_or s 0 0) k)
said-at s l None e = tt
said-at s l (Some kind) e =
    let extended : Bool = numbered kind && eqb (get_or s 0 0 % 2) 1 in
    pick_elim (Says s) (ltb (length s) (fixed_len kind extended)) (λ g. tt)
    (λ g. record { four = l; counts = refl; known = e; long = refl; front = refl; whole = ltb-false (length s) (fixed_len kind extended) g })

says : (s : List ℕ) → Says s (head_of s)
unfolding head_of
says s =
    pick_elim (Says s) (ltb (length s) 4) (λ h. tt)
    (λ h. pick_elim (Says s) (eqb (get_or s 0 0) 0) (λ g. tt)
    (λ g. pick_elim (Says s) (eqb (get_or s 0 0) 255) (λ f. tt) (λ f. said-at s (ltb-false (length s) 4 h) (kind_of (get_or s 1 0 / 16)) refl)))

pub said : (s : List ℕ) (h : Head) → head_of s ≡ Some h → Said s h
said s h e = subst (Says s) e (says s)
