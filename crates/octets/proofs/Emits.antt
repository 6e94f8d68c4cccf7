-- The laws of `Emits`.
use mathlib.Core.Path.{◌≡◌, sym, ap, ◌∙◌, subst}
use mathlib.Core.List.{List, [], ◌++◌}
use native.Mathlib.Decide.{dec_le}
use Prim.Native.Nat.{ℕ, ◌+◌, ◌≤◌, ◌<◌}
use native.Mathlib.Nat.{lt_of_not-le}
use native.Mathlib.Omega.{arith}
use lib.ListN.{length, length-append}
use Rattle.octets.specs.Emit.{put, top, on_from, Emits}
use Rattle.octets.proofs.Put.{put_nil, put-put, put-past, length-put}

-- any two results are equal
pub determined : {A : Type 0} {old xs new new' : List A} {at next next' : ℕ} → Emits old at xs new next → Emits old at xs new' next' → (new ≡ new') × (next ≡ next')
determined e f = (e.held ∙ sym f.held, e.place ∙ sym f.place)

pub same_size : {A : Type 0} {old xs new : List A} {at next : ℕ} → Emits old at xs new next → length new ≡ length old
same_size {A} {old} {xs} {new} {at} e = ap length e.held ∙ length-put old at xs

pub nothing : {A : Type 0} (o : List A) (at : ℕ) → length o ≤ top → at ≤ top → Emits o at [] o at
unfolding on_from
nothing o at l h = record { held = sym (put_nil o at); place = omega arith; small = l }

-- what is put, spelt another way
pub emits_as : {A : Type 0} {o p xs ys : List A} {at n : ℕ} → xs ≡ ys → Emits o at xs p n → Emits o at ys p n
emits_as {A} {o} {p} {xs} {ys} {at} {n} k e = subst (λ (l : List A). Emits o at l p n) k e

-- two emits, one after the other
pub then : {A : Type 0} {o p q : List A} {at b c : ℕ} {xs ys : List A} → Emits o at xs p b → Emits p b ys q c → Emits o at (xs ++ ys) q c
unfolding on_from
then {A} {o} {p} {q} {at} {b} {c} {xs} {ys} e f = record {
  held = elim (dec_le (at + length xs) top) [
    | yes w ↦
        let k : b ≡ at + length xs = omega (arith, e.place) in
        f.held ∙ rw (e.held, k) (put-put o at xs ys)
    | no n ↦
        let w : top < at + length xs = lt_of_not-le n in
        let k : b ≡ top = omega (arith, e.place) in
        let l : length (put o at xs) ≤ top = rw length-put e.small in
        f.held ∙ rw (e.held, put-past (put o at xs) b ys (rw k l))
        (sym (sym (put-put o at xs ys) ∙ put-past (put o at xs) (at + length xs) ys (omega (arith, l))))
  ];
  place = rw length-append (omega (arith, e.place, f.place));
  small = e.small;
}

-- whoever puts ys from o at a has put xs from old at at₀
abbrev pub Toward : {A : Type 0} → List A → ℕ → List A → List A → ℕ → List A → Type 0
Toward {A} old at₀ xs o a ys = (p : List A) (n : ℕ) → Emits o a ys p n → Emits old at₀ xs p n

pub onward : {A : Type 0} {old o q : List A} {at₀ a b : ℕ} {xs ys c zs : List A} → Toward old at₀ xs o a ys → Emits o a c q b → ys ≡ c ++ zs → Toward old at₀ xs q b zs
onward {A} {old} {o} {q} {at₀} {a} {b} {xs} {ys} {c} {zs} t e k p n g = t p n (emits_as (sym k) (then e g))

pub finish : {A : Type 0} {old o : List A} {at₀ a : ℕ} {xs ys : List A} → Toward old at₀ xs o a ys → ys ≡ [] → length o ≤ top → a ≤ top → Emits old at₀ xs o a
finish {A} {old} {o} {at₀} {a} {xs} {ys} t k l h = t o a (emits_as (sym k) (nothing o a l h))
