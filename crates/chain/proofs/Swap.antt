-- Two runs of a list of blocks change places: the test says the same, and the octets' runs change places.
use Prim.Native.Nat.{ℕ, zero, suc, ◌+◌, ◌*◌, ◌-◌, ◌≤◌}
use mathlib.Core.Path.{◌≡◌, refl, sym, ap, ◌∙◌, subst}
use mathlib.Core.Bool.{Bool, true, false, not, ◌&&◌}
use mathlib.Core.List.Permᴰ
use mathlib.Core.List.{List, [], ◌∷◌, ◌++◌, append_assoc, Permᴰ}
use native.Mathlib.Omega.{arith}
use lib.Dec.{ltb, eqb}
use lib.ListN.{length, take, drop, length-drop, take-append-drop}
use lib.Seq.{take_at, drop_at, drop-drop, length-take-le}
use borrow.Author.Tests.{eqb-true, eqb-false, eq-eqb, ne_eqb}
use Rattle.octets.proofs.Tests.{and_right}
use Rattle.chain.specs.Chain.{fresh, chain_ok, flat, swapped}
use Rattle.chain.proofs.Flat.{flat_append, length-flat, front-ok}

eqb_sym : (a b : ℕ) → eqb a b ≡ eqb b a
eqb_sym a b = go (eqb a b) refl
  where
    go : (t : Bool) → eqb a b ≡ t → eqb a b ≡ eqb b a
    go true e = e ∙ sym (eq-eqb b a (sym (eqb-true a b e)))
    go false e = e ∙ sym (ne_eqb b a (λ q. eqb-false a b e (sym q)))

and_swap : (p q r : Bool) → (p && (q && r)) ≡ (q && (p && r))
and_swap true true r = refl
and_swap true false r = refl
and_swap false true r = refl
and_swap false false r = refl

shuffle : (p q n f g c : Bool) → (p && ((n && f) && (q && (g && c)))) ≡ (q && ((n && g) && (p && (f && c))))
shuffle true true true true true c = refl
shuffle true true true true false c = refl
shuffle true true true false true c = refl
shuffle true true true false false c = refl
shuffle true true false true true c = refl
shuffle true true false true false c = refl
shuffle true true false false true c = refl
shuffle true true false false false c = refl
shuffle true false true true true c = refl
shuffle true false true true false c = refl
shuffle true false true false true c = refl
shuffle true false true false false c = refl
shuffle true false false true true c = refl
shuffle true false false true false c = refl
shuffle true false false false true c = refl
shuffle true false false false false c = refl
shuffle false true true true true c = refl
shuffle false true true true false c = refl
shuffle false true true false true c = refl
shuffle false true true false false c = refl
shuffle false true false true true c = refl
shuffle false true false true false c = refl
shuffle false true false false true c = refl
shuffle false true false false false c = refl
shuffle false false true true true c = refl
shuffle false false true true false c = refl
shuffle false false true false true c = refl
shuffle false false true false false c = refl
shuffle false false false true true c = refl
shuffle false false false true false c = refl
shuffle false false false false true c = refl
shuffle false false false false false c = refl

fresh_perm : (x : ℕ) {l m : List ℕ} → Permᴰ l m → fresh x l ≡ fresh x m
unfolding fresh
fresh_perm x Permᴰ.nil = refl
fresh_perm x (Permᴰ.cons e r) = rw (e, fresh_perm x r)
fresh_perm x (Permᴰ.swap {a = a} {b = b} {l = l} e e') = rw (← e, ← e') (and_swap (not (eqb x a)) (not (eqb x b)) (fresh x l))
fresh_perm x (Permᴰ.trans r s) = fresh_perm x r ∙ fresh_perm x s

swap_ok : (k a b : ℕ) (l : List ℕ) → chain_ok k (a ∷ b ∷ l) ≡ chain_ok k (b ∷ a ∷ l)
unfolding fresh chain_ok
swap_ok k a b l = rw (eqb_sym b a) (shuffle (ltb a k) (ltb b k) (not (eqb a b)) (fresh a l) (fresh b l) (chain_ok k l))

pub ok_perm : (k : ℕ) {l m : List ℕ} → Permᴰ l m → chain_ok k l ≡ chain_ok k m
unfolding fresh chain_ok
ok_perm k Permᴰ.nil = refl
ok_perm k (Permᴰ.cons {b = b} e r) = rw (e, fresh_perm b r, ok_perm k r)
ok_perm k (Permᴰ.swap {a = a} {b = b} {b' = y} {l = l} e e') =
    subst (λ (x : ℕ). chain_ok k (a ∷ b ∷ l) ≡ chain_ok k (x ∷ y ∷ l)) e' (subst (λ (z : ℕ). chain_ok k (a ∷ b ∷ l) ≡ chain_ok k (b ∷ z ∷ l)) e (swap_ok k a b l))
ok_perm k (Permᴰ.trans r s) = ok_perm k r ∙ ok_perm k s

-- ---- the four parts
module _ (l : List ℕ) (p q e : ℕ) (hp : p ≤ q) (hq : q ≤ e) (he : e ≤ length l) where
  four : l ≡ take p l ++ (take (q - p) (drop p l) ++ (take (e - q) (drop q l) ++ drop e l))
  four =
      let a : drop q l ≡ take (e - q) (drop q l) ++ drop e l =
      sym (take-append-drop (e - q) (drop q l)) ∙ ap (λ (r : List ℕ). take (e - q) (drop q l) ++ r) (drop-drop (e - q) q l ∙ ap (λ (n : ℕ). drop n l) (at_e)) in
      let b : drop p l ≡ take (q - p) (drop p l) ++ drop q l =
      sym (take-append-drop (q - p) (drop p l)) ∙ ap (λ (r : List ℕ). take (q - p) (drop p l) ++ r) (drop-drop (q - p) p l ∙ ap (λ (n : ℕ). drop n l) (at-q)) in
      sym (take-append-drop p l) ∙ ap (λ (r : List ℕ). take p l ++ r) (b ∙ ap (λ (r : List ℕ). take (q - p) (drop p l) ++ r) a)
    where
      at_e : q + (e - q) ≡ e
      at_e = omega arith

      at-q : p + (q - p) ≡ q
      at-q = omega arith

  pub swapped-ok : (k : ℕ) → chain_ok k (swapped l p q e) ≡ chain_ok k l
  swapped-ok k =
      let x : List ℕ = take (q - p) (drop p l) in
      let y : List ℕ = take (e - q) (drop q l) in
      let s : List ℕ = drop e l in
      ap (λ (r : List ℕ). chain_ok k (take p l ++ r)) (sym (append_assoc y x s))
      ∙ ok_perm k (Permᴰ.append_left (take p l) (Permᴰ.append_right s (Permᴰ.append_comm y x)))
      ∙ ap (λ (r : List ℕ). chain_ok k (take p l ++ r)) (append_assoc x y s)
      ∙ ap (chain_ok k) (sym four)

-- ---- the octets of a part
module _ (k : ℕ) (bs l : List ℕ) (room : 64 * k ≤ length bs) (ok : chain_ok k l ≡ true) (i : ℕ) (hi : i ≤ length l) where
  whole : flat bs l ≡ flat bs (take i l) ++ flat bs (drop i l)
  whole = ap (flat bs) (sym (take-append-drop i l)) ∙ flat_append bs (take i l) (drop i l)

  front : length (flat bs (take i l)) ≡ 64 * i
  front =
      let li : length (take i l) ≡ i = length-take-le i l hi in
      length-flat k bs (take i l) room (front-ok k (take i l) (drop i l) (ap (chain_ok k) (take-append-drop i l) ∙ ok)) ∙ omega arith

  pub flat-take : flat bs (take i l) ≡ take (64 * i) (flat bs l)
  flat-take = sym (ap (take (64 * i)) whole ∙ take_at (flat bs (take i l)) (flat bs (drop i l)) (64 * i) front)

  pub flat-drop : flat bs (drop i l) ≡ drop (64 * i) (flat bs l)
  flat-drop = sym (ap (drop (64 * i)) whole ∙ drop_at (flat bs (take i l)) (flat bs (drop i l)) (64 * i) front)

pub drop-ok : (b k : ℕ) (l : List ℕ) → chain_ok b l ≡ true → chain_ok b (drop k l) ≡ true
unfolding chain_ok
drop-ok b zero l h = h
drop-ok b (suc k) [] h = h
drop-ok b (suc k) (x ∷ xs) h = drop-ok b k xs (and_right (fresh x xs) (chain_ok b xs) (and_right (ltb x b) _ h))

pub flat-part : (k : ℕ) (bs l : List ℕ) → 64 * k ≤ length bs → chain_ok k l ≡ true → (i j : ℕ) → i ≤ j → j ≤ length l
    → flat bs (take (j - i) (drop i l)) ≡ take (64 * j - 64 * i) (drop (64 * i) (flat bs l))
flat-part k bs l room ok i j hij hj =
    let n : 64 * (j - i) ≡ 64 * j - 64 * i = omega arith in
    flat-take k bs (drop i l) room (drop-ok k i l ok) (j - i) (simp length-drop (omega arith))
    ∙ ap (take (64 * (j - i))) (flat-drop k bs l room ok i (omega arith))
    ∙ ap (λ (m : ℕ). take m (drop (64 * i) (flat bs l))) n

pub flat-swapped : (k : ℕ) (bs l : List ℕ) → 64 * k ≤ length bs → chain_ok k l ≡ true → (p q e : ℕ) → p ≤ q → q ≤ e → e ≤ length l
    → flat bs (swapped l p q e) ≡ swapped (flat bs l) (64 * p) (64 * q) (64 * e)
flat-swapped k bs l room ok p q e hp hq he =
    flat_append bs (take p l) (take (e - q) (drop q l) ++ (take (q - p) (drop p l) ++ drop e l))
    ∙ rw (
      flat_append bs (take (e - q) (drop q l)) (take (q - p) (drop p l) ++ drop e l),
      flat_append bs (take (q - p) (drop p l)) (drop e l),
      flat-take k bs l room ok p (omega arith),
      flat-part k bs l room ok q e hq he,
      flat-part k bs l room ok p q hp (omega arith),
      flat-drop k bs l room ok e he,
    )
