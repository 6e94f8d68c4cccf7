-- Laws of `flat`: in a list in which none stands twice, a write into blocks that follow each other is a write into the octets
-- that the list spells.
use Prim.Native.Nat.{ℕ, zero, suc, ◌+◌, ◌*◌, ◌-◌, ◌/◌, ◌%◌, ◌≤◌, ◌<◌}
use mathlib.Core.Path.{◌≡◌, refl, sym, ap, ap₂, ◌∙◌}
use mathlib.Core.Logic.{⊎_elim}
use mathlib.Core.Bool.{Bool, true, false, not, ◌&&◌}
use mathlib.Core.List.{List, [], ◌∷◌, ◌++◌, append_assoc}
use native.Mathlib.Nat.{eq-zero-or-pos}
use native.Mathlib.Omega.{arith}
use lib.Dec.{ltb, eqb}
use lib.ListN.{length, get_or, take, drop, length-append, length-drop, take-append-drop}
use lib.Seq.{split_at, take_at, drop_at, take-append-add, drop-append-add, take-append-le, drop-append-le, drop-drop, length-take-le, take-add, get_or-take}
use borrow.Author.Tests.{ltb-true, ltb-false, eqb-false, ne_eqb, not-true}
use Rattle.octets.specs.Emit.{put}
use Rattle.octets.proofs.Tests.{and_left, and_right}
use Rattle.chain.specs.Chain.{block, flat, fresh, chain_ok, Stretch}
use Rattle.octets.proofs.Put.{put_is, put_nil, length-put, put-put}
use Rattle.chain.proofs.Step.{Rises}

-- ---- what the test says of one entry among the others

fresh_not : (z : ℕ) (xs : List ℕ) (x : ℕ) (ys : List ℕ) → fresh z (xs ++ x ∷ ys) ≡ true → eqb z x ≡ false
unfolding fresh
fresh_not z [] x ys h = not-true (eqb z x) (and_left (not (eqb z x)) (fresh z ys) h)
fresh_not z (w ∷ ws) x ys h = fresh_not z ws x ys (and_right (not (eqb z w)) (fresh z (ws ++ x ∷ ys)) h)

pub low : (b : ℕ) (xs : List ℕ) (x : ℕ) (ys : List ℕ) → chain_ok b (xs ++ x ∷ ys) ≡ true → x < b
unfolding chain_ok
low b [] x ys h = ltb-true x b (and_left (ltb x b) (fresh x ys && chain_ok b ys) h)
low b (z ∷ zs) x ys h = low b zs x ys (and_right (fresh z (zs ++ x ∷ ys)) (chain_ok b (zs ++ x ∷ ys)) (and_right (ltb z b) _ h))

pub fresh-behind : (b : ℕ) (xs : List ℕ) (x : ℕ) (ys : List ℕ) → chain_ok b (xs ++ x ∷ ys) ≡ true → fresh x ys ≡ true
unfolding chain_ok
fresh-behind b [] x ys h = and_left (fresh x ys) (chain_ok b ys) (and_right (ltb x b) _ h)
fresh-behind b (z ∷ zs) x ys h = fresh-behind b zs x ys (and_right (fresh z (zs ++ x ∷ ys)) (chain_ok b (zs ++ x ∷ ys)) (and_right (ltb z b) _ h))

pub fresh-before : (b : ℕ) (xs : List ℕ) (x : ℕ) (ys : List ℕ) → chain_ok b (xs ++ x ∷ ys) ≡ true → fresh x xs ≡ true
unfolding chain_ok fresh
fresh-before b [] x ys h = refl
fresh-before b (z ∷ zs) x ys h =
    let rest : (fresh z (zs ++ x ∷ ys) && chain_ok b (zs ++ x ∷ ys)) ≡ true = and_right (ltb z b) _ h in
    let apart : eqb z x ≡ false = fresh_not z zs x ys (and_left (fresh z (zs ++ x ∷ ys)) (chain_ok b (zs ++ x ∷ ys)) rest) in
    let back : eqb x z ≡ false = ne_eqb x z (λ e. eqb-false z x apart (sym e)) in
    rw (back, fresh-before b zs x ys (and_right (fresh z (zs ++ x ∷ ys)) (chain_ok b (zs ++ x ∷ ys)) rest))

fresh-front : (z : ℕ) (xs ys : List ℕ) → fresh z (xs ++ ys) ≡ true → fresh z xs ≡ true
unfolding fresh
fresh-front z [] ys h = refl
fresh-front z (x ∷ xs) ys h =
    rw (and_left (not (eqb z x)) (fresh z (xs ++ ys)) h, fresh-front z xs ys (and_right (not (eqb z x)) (fresh z (xs ++ ys)) h))

pub front-ok : (b : ℕ) (xs ys : List ℕ) → chain_ok b (xs ++ ys) ≡ true → chain_ok b xs ≡ true
unfolding chain_ok
front-ok b [] ys h = refl
front-ok b (x ∷ xs) ys h =
    let rest : (fresh x (xs ++ ys) && chain_ok b (xs ++ ys)) ≡ true = and_right (ltb x b) _ h in
    rw (and_left (ltb x b) _ h, fresh-front x xs ys (and_left (fresh x (xs ++ ys)) (chain_ok b (xs ++ ys)) rest), front-ok b xs ys (and_right (fresh x (xs ++ ys)) (chain_ok b (xs ++ ys)) rest))

-- ---- the octets

pub flat_append : (bs xs ys : List ℕ) → flat bs (xs ++ ys) ≡ flat bs xs ++ flat bs ys
unfolding flat
flat_append bs [] ys = refl
flat_append bs (x ∷ xs) ys = rw (flat_append bs xs ys) (sym (append_assoc (block bs x) (flat bs xs) (flat bs ys)))

pub flat_middle : (bs xs : List ℕ) (x : ℕ) (ys : List ℕ) → flat bs (xs ++ x ∷ ys) ≡ flat bs xs ++ (block bs x ++ flat bs ys)
unfolding flat
flat_middle bs xs x ys = flat_append bs xs (x ∷ ys)

length-block : (bs : List ℕ) (x : ℕ) → 64 * x + 64 ≤ length bs → length (block bs x) ≡ 64
length-block bs x h = length-take-le 64 (drop (64 * x) bs) (simp length-drop (omega arith))

pub length-flat : (b : ℕ) (bs l : List ℕ) → 64 * b ≤ length bs → chain_ok b l ≡ true → length (flat bs l) ≡ 64 * length l
unfolding flat chain_ok
length-flat b bs [] h ok = refl
length-flat b bs (x ∷ xs) h ok =
    let x< : x < b = ltb-true x b (and_left (ltb x b) (fresh x xs && chain_ok b xs) ok) in
    let ih : length (flat bs xs) ≡ 64 * length xs = length-flat b bs xs h (and_right (fresh x xs) (chain_ok b xs) (and_right (ltb x b) _ ok)) in
    let lb : length (block bs x) ≡ 64 = length-block bs x (omega arith) in
    length-append (block bs x) (flat bs xs) ∙ omega arith

-- a write into a part in the middle
pub put_mid : (a m z : List ℕ) (k : ℕ) (s : List ℕ) → k + length s ≤ length m → put (a ++ (m ++ z)) (length a + k) s ≡ a ++ (put m k s ++ z)
put_mid a m z k s h =
    let front : take (length a + k) (a ++ (m ++ z)) ≡ a ++ take k m =
    take-append-add a (m ++ z) k ∙ ap (λ (l : List ℕ). a ++ l) (take-append-le k m z (omega arith)) in
    let e : length a + k + length s ≡ length a + (k + length s) = omega arith in
    let behind : drop (length a + k + length s) (a ++ (m ++ z)) ≡ drop (k + length s) m ++ z =
    ap (λ (n : ℕ). drop n (a ++ (m ++ z))) e ∙ drop-append-add a (m ++ z) (k + length s) ∙ drop-append-le (k + length s) m z h in
    put_is (a ++ (m ++ z)) (length a + k) s (simp length-append (omega arith))
    ∙ rw (front, behind, put_is m k s h) (simp append_assoc)

-- ---- a write into one block

front-part : (a r : List ℕ) (n m : ℕ) → n + m ≤ length a → take m (drop n (a ++ r)) ≡ take m (drop n a)
front-part a r n m h =
    let room : m ≤ length (drop n a) = simp length-drop (omega arith) in
    ap (take m) (drop-append-le n a r (omega arith)) ∙ take-append-le m (drop n a) r room

back-part : (a m z : List ℕ) (n : ℕ) → length a + length m ≤ n → drop n (a ++ (m ++ z)) ≡ drop (n - (length a + length m)) z
back-part a m z n h =
    let e : n ≡ length (a ++ m) + (n - (length a + length m)) = simp length-append (omega arith) in
    ap (λ (l : List ℕ). drop n l) (sym (append_assoc a m z))
    ∙ ap (λ (k : ℕ). drop k ((a ++ m) ++ z)) e
    ∙ drop-append-add (a ++ m) z (n - (length a + length m))

module _ (bs : List ℕ) (x k : ℕ) (s : List ℕ) (inside : 64 * x + 64 ≤ length bs) (fit : k + length s ≤ 64) where
  pub parts : bs ≡ take (64 * x) bs ++ (block bs x ++ drop (64 * x + 64) bs)
  parts =
      sym (ap (λ (l : List ℕ). take (64 * x) bs ++ l)
      (ap (λ (l : List ℕ). block bs x ++ l) (sym (drop-drop 64 (64 * x) bs)) ∙ take-append-drop 64 (drop (64 * x) bs))
      ∙ take-append-drop (64 * x) bs)

  pub written : put bs (64 * x + k) s ≡ take (64 * x) bs ++ (put (block bs x) k s ++ drop (64 * x + 64) bs)
  written =
      let la : length (take (64 * x) bs) ≡ 64 * x = length-take-le (64 * x) bs (omega arith) in
      let lb : length (block bs x) ≡ 64 = length-block bs x inside in
      ap (λ (l : List ℕ). put l (64 * x + k) s) parts
      ∙ ap (λ (n : ℕ). put (take (64 * x) bs ++ (block bs x ++ drop (64 * x + 64) bs)) (n + k) s) (sym la)
      ∙ put_mid (take (64 * x) bs) (block bs x) (drop (64 * x + 64) bs) k s (omega arith)

  pub block_same : block (put bs (64 * x + k) s) x ≡ put (block bs x) k s
  block_same =
      let la : length (take (64 * x) bs) ≡ 64 * x = length-take-le (64 * x) bs (omega arith) in
      let lb : length (block bs x) ≡ 64 = length-block bs x inside in
      let lp : length (put (block bs x) k s) ≡ length (block bs x) = length-put (block bs x) k s in
      ap (λ (l : List ℕ). take 64 (drop (64 * x) l)) written
      ∙ ap (take 64) (drop_at (take (64 * x) bs) (put (block bs x) k s ++ drop (64 * x + 64) bs) (64 * x) la)
      ∙ take_at (put (block bs x) k s) (drop (64 * x + 64) bs) 64 (omega arith)

  pub block-other : (y : ℕ) → (y ≡ x → ⊥) → block (put bs (64 * x + k) s) y ≡ block bs y
  block-other y apart = go (ltb y x) refl
    where
      la : length (take (64 * x) bs) ≡ 64 * x
      la = length-take-le (64 * x) bs (omega arith)

      lb : length (block bs x) ≡ 64
      lb = length-block bs x inside

      lp : length (put (block bs x) k s) ≡ length (block bs x)
      lp = length-put (block bs x) k s

      go : (t : Bool) → ltb y x ≡ t → block (put bs (64 * x + k) s) y ≡ block bs y
      go true e =
          let y<x : y < x = ltb-true y x e in
          ap (λ (l : List ℕ). take 64 (drop (64 * y) l)) written
          ∙ front-part (take (64 * x) bs) (put (block bs x) k s ++ drop (64 * x + 64) bs) (64 * y) 64 (omega (arith, la, lb, lp))
          ∙ sym (front-part (take (64 * x) bs) (block bs x ++ drop (64 * x + 64) bs) (64 * y) 64 (omega (arith, la, lb, lp)))
          ∙ ap (λ (l : List ℕ). take 64 (drop (64 * y) l)) (sym parts)
      go false e =
          let x≤y : x ≤ y = ltb-false y x e in
          let x<y : x < y = omega (arith, apart) in
          let lens : 64 * y - (length (take (64 * x) bs) + length (put (block bs x) k s)) ≡ 64 * y - (length (take (64 * x) bs) + length (block bs x)) = omega (arith, la, lb, lp) in
          ap (λ (l : List ℕ). take 64 (drop (64 * y) l)) written
          ∙ ap (take 64) (back-part (take (64 * x) bs) (put (block bs x) k s) (drop (64 * x + 64) bs) (64 * y) (omega (arith, la, lb, lp)))
          ∙ ap (λ (n : ℕ). take 64 (drop n (drop (64 * x + 64) bs))) lens
          ∙ ap (take 64) (sym (back-part (take (64 * x) bs) (block bs x) (drop (64 * x + 64) bs) (64 * y) (omega (arith, la, lb, lp))))
          ∙ ap (λ (l : List ℕ). take 64 (drop (64 * y) l)) (sym parts)

  pub flat-other : (l : List ℕ) → fresh x l ≡ true → flat (put bs (64 * x + k) s) l ≡ flat bs l
  unfolding flat fresh
  flat-other [] h = refl
  flat-other (y ∷ ys) h =
      let apart : eqb x y ≡ false = not-true (eqb x y) (and_left (not (eqb x y)) (fresh x ys) h) in
      rw (block-other y (λ e. eqb-false x y apart (sym e)), flat-other ys (and_right (not (eqb x y)) (fresh x ys) h))

-- an entry of such a list is a block's number
pub below : (b : ℕ) (l : List ℕ) (i : ℕ) → chain_ok b l ≡ true → i < length l → get_or l i 0 < b
below b l i ok hi = low b (take i l) (get_or l i 0) (drop (suc i) l) (ap (chain_ok b) (sym (split_at l i 0 hi)) ∙ ok)

-- octets at place 64 i + k of what the list spells, in one block
flat_write : (b : ℕ) (bs l : List ℕ) (i k : ℕ) (s : List ℕ) → 64 * b ≤ length bs → chain_ok b l ≡ true → i < length l → k + length s ≤ 64
    → flat (put bs (64 * get_or l i 0 + k) s) l ≡ put (flat bs l) (64 * i + k) s
flat_write b bs l i k s room ok hi fit =
    let x = get_or l i 0 in
    let pre = take i l in
    let post = drop (suc i) l in
    let split : l ≡ pre ++ x ∷ post = split_at l i 0 hi in
    let ok' : chain_ok b (pre ++ x ∷ post) ≡ true = ap (chain_ok b) (sym split) ∙ ok in
    let x< : x < b = low b pre x post ok' in
    let inside : 64 * x + 64 ≤ length bs = omega arith in
    let lp : length pre ≡ i = length-take-le i l (omega arith) in
    let lf : length (flat bs pre) ≡ 64 * length pre = length-flat b bs pre room (front-ok b pre (x ∷ post) ok') in
    let lb : length (block bs x) ≡ 64 = length-block bs x inside in
    let at : 64 * i + k ≡ length (flat bs pre) + k = omega arith in
    let spelt : flat bs l ≡ flat bs pre ++ (block bs x ++ flat bs post) = ap (flat bs) split ∙ flat_middle bs pre x post in
    ap (flat (put bs (64 * x + k) s)) split
    ∙ flat_middle (put bs (64 * x + k) s) pre x post
    ∙ rw (
      flat-other bs x k s inside fit pre (fresh-before b pre x post ok'),
      flat-other bs x k s inside fit post (fresh-behind b pre x post ok'),
      block_same bs x k s inside fit,
    )
    (sym (put_mid (flat bs pre) (block bs x) (flat bs post) k s (omega arith)))
    ∙ ap (λ (n : ℕ). put (flat bs pre ++ (block bs x ++ flat bs post)) n s) (sym at)
    ∙ ap (λ (f : List ℕ). put f (64 * i + k) s) (sym spelt)

-- ---- reading one block

middle_part : (a m z : List ℕ) (k n : ℕ) → k + n ≤ length m → take n (drop (length a + k) (a ++ (m ++ z))) ≡ take n (drop k m)
middle_part a m z k n h =
    let room : n ≤ length (drop k m) = simp length-drop (omega arith) in
    ap (take n) (drop-append-add a (m ++ z) k ∙ drop-append-le k m z (omega arith)) ∙ take-append-le n (drop k m) z room

flat-read : (b : ℕ) (bs l : List ℕ) (i k n : ℕ) → 64 * b ≤ length bs → chain_ok b l ≡ true → i < length l → k + n ≤ 64
    → take n (drop (64 * get_or l i 0 + k) bs) ≡ take n (drop (64 * i + k) (flat bs l))
flat-read b bs l i k n room ok hi fit =
    let x = get_or l i 0 in
    let pre = take i l in
    let post = drop (suc i) l in
    let split : l ≡ pre ++ x ∷ post = split_at l i 0 hi in
    let ok' : chain_ok b (pre ++ x ∷ post) ≡ true = ap (chain_ok b) (sym split) ∙ ok in
    let x< : x < b = low b pre x post ok' in
    let inside : 64 * x + 64 ≤ length bs = omega arith in
    let lp : length pre ≡ i = length-take-le i l (omega arith) in
    let lf : length (flat bs pre) ≡ 64 * length pre = length-flat b bs pre room (front-ok b pre (x ∷ post) ok') in
    let lb : length (block bs x) ≡ 64 = length-block bs x inside in
    let la : length (take (64 * x) bs) ≡ 64 * x = length-take-le (64 * x) bs (omega arith) in
    let at : 64 * i + k ≡ length (flat bs pre) + k = omega arith in
    let at' : 64 * x + k ≡ length (take (64 * x) bs) + k = omega arith in
    let spelt : flat bs l ≡ flat bs pre ++ (block bs x ++ flat bs post) = ap (flat bs) split ∙ flat_middle bs pre x post in
    let left : take n (drop (64 * x + k) bs) ≡ take n (drop k (block bs x)) =
    ap (λ (w : List ℕ). take n (drop (64 * x + k) w)) (parts bs x 0 [] inside (omega arith))
    ∙ ap (λ (w : ℕ). take n (drop w (take (64 * x) bs ++ (block bs x ++ drop (64 * x + 64) bs)))) at'
    ∙ middle_part (take (64 * x) bs) (block bs x) (drop (64 * x + 64) bs) k n (omega arith) in
    let right : take n (drop (64 * i + k) (flat bs l)) ≡ take n (drop k (block bs x)) =
    ap (λ (w : List ℕ). take n (drop (64 * i + k) w)) spelt
    ∙ ap (λ (w : ℕ). take n (drop w (flat bs pre ++ (block bs x ++ flat bs post)))) at
    ∙ middle_part (flat bs pre) (block bs x) (flat bs post) k n (omega arith) in
    left ∙ sym right

-- ---- blocks that follow each other

run_later : (l : List ℕ) (i r : ℕ) → Rises l i (suc r) → Rises l (i + 1) r
run_later l i r up t q =
    let e : i + 1 + t ≡ i + (t + 1) = omega arith in
    ap (λ (k : ℕ). get_or l k 0) e ∙ up (t + 1) (omega (arith, q)) ∙ omega (arith, up 1 (omega (arith, q)))

pub run-below : (b : ℕ) (l : List ℕ) (i r : ℕ) → chain_ok b l ≡ true → 0 < r → i + r ≤ length l → Rises l i r → get_or l i 0 + r ≤ b
run-below b l i r ok h hi up = omega (arith, up (r - 1) (omega arith), below b l (i + (r - 1)) ok (omega arith))

pub run_take : (l : List ℕ) (n i r : ℕ) → i + r ≤ n → Rises l i r → Rises (take n l) i r
run_take l n i r h up t q = get_or-take n l (i + t) 0 (omega (arith, q)) ∙ up t q ∙ ap (λ (x : ℕ). x + t) (sym (get_or-take n l i 0 (omega (arith, q))))

put-parts : (d : List ℕ) (at p q : ℕ) (s : List ℕ) → p ≤ length s → at + p ≡ q → put d at s ≡ put (put d at (take p s)) q (drop p s)
put-parts d at p q s h e =
    let lp : length (take p s) ≡ p = length-take-le p s h in
    let w : at + length (take p s) ≡ q = omega arith in
    ap (put d at) (sym (take-append-drop p s)) ∙ sym (put-put d at (take p s) (drop p s)) ∙ ap (λ (k : ℕ). put (put d at (take p s)) k (drop p s)) w

take-parts : (d : List ℕ) (at p n q : ℕ) → p ≤ n → at + p ≡ q → take n (drop at d) ≡ take p (drop at d) ++ take (n - p) (drop q d)
take-parts d at p n q h e =
    let w : n ≡ p + (n - p) = omega arith in
    ap (λ (k : ℕ). take k (drop at d)) w
    ∙ take-add p (n - p) (drop at d)
    ∙ ap (λ (y : List ℕ). take p (drop at d) ++ take (n - p) y) (drop-drop p at d ∙ ap (λ (k : ℕ). drop k d) e)

-- the law that the writing loops cite: octets at place 64 i + k of what the list spells, in the r blocks from entry i on
run_write : (b : ℕ) (l : List ℕ) → chain_ok b l ≡ true → (r : ℕ) (bs : List ℕ) (i k : ℕ) (s : List ℕ) → 64 * b ≤ length bs → k ≤ 64
    → i + r ≤ length l → Rises l i r → k + length s ≤ 64 * r → flat (put bs (64 * get_or l i 0 + k) s) l ≡ put (flat bs l) (64 * i + k) s
run_write b l ok zero bs i k [] room hk hi up fit = ap (λ (z : List ℕ). flat z l) (put_nil bs (64 * get_or l i 0 + k)) ∙ sym (put_nil (flat bs l) (64 * i + k))
run_write b l ok zero bs i k (x ∷ s) room hk hi up fit = absurd (omega arith)
run_write b l ok (suc r) bs i k s room hk hi up fit =
    ⊎_elim (λ (h : k + length s - 64 ≡ 0). flat_write b bs l i k s room ok (omega arith) (omega arith))
    (λ (h : 0 < k + length s - 64).
    let x₁ : get_or l (i + 1) 0 ≡ get_or l i 0 + 1 = up 1 (omega arith) in
    let bs₁ : List ℕ = put bs (64 * get_or l i 0 + k) (take (64 - k) s) in
    let l₁ : length bs₁ ≡ length bs = length-put bs (64 * get_or l i 0 + k) (take (64 - k) s) in
    let ls : length (take (64 - k) s) ≡ 64 - k = length-take-le (64 - k) s (omega arith) in
    ap (λ (z : List ℕ). flat z l) (put-parts bs (64 * get_or l i 0 + k) (64 - k) (64 * get_or l (i + 1) 0 + 0) s (omega arith) (omega arith))
    ∙ run_write b l ok r bs₁ (i + 1) 0 (drop (64 - k) s) (omega arith) (omega arith) (omega arith) (run_later l i r up) (simp length-drop (omega arith))
    ∙ ap (λ (f : List ℕ). put f (64 * (i + 1) + 0) (drop (64 - k) s)) (flat_write b bs l i k (take (64 - k) s) room ok (omega arith) (omega arith))
    ∙ sym (put-parts (flat bs l) (64 * i + k) (64 - k) (64 * (i + 1) + 0) s (omega arith) (omega arith)))
    (eq-zero-or-pos (k + length s - 64))

-- and the reading loop
run-read : (b : ℕ) (bs l : List ℕ) → 64 * b ≤ length bs → chain_ok b l ≡ true → (r i k n : ℕ) → k ≤ 64 → i + r ≤ length l → Rises l i r → k + n ≤ 64 * r
    → take n (drop (64 * get_or l i 0 + k) bs) ≡ take n (drop (64 * i + k) (flat bs l))
run-read b bs l room ok zero i k zero hk hi up fit = refl
run-read b bs l room ok zero i k (suc n) hk hi up fit = absurd (omega arith)
run-read b bs l room ok (suc r) i k n hk hi up fit =
    ⊎_elim (λ (h : k + n - 64 ≡ 0). flat-read b bs l i k n room ok (omega arith) (omega arith))
    (λ (h : 0 < k + n - 64).
    let x₁ : get_or l (i + 1) 0 ≡ get_or l i 0 + 1 = up 1 (omega arith) in
    take-parts bs (64 * get_or l i 0 + k) (64 - k) n (64 * get_or l (i + 1) 0 + 0) (omega arith) (omega arith)
    ∙ ap₂ (λ (y z : List ℕ). y ++ z) (flat-read b bs l i k (64 - k) room ok (omega arith) (omega arith))
    (run-read b bs l room ok r (i + 1) 0 (n - (64 - k)) (omega arith) (omega arith) (run_later l i r up) (omega arith))
    ∙ sym (take-parts (flat bs l) (64 * i + k) (64 - k) n (64 * (i + 1) + 0) (omega arith) (omega arith)))
    (eq-zero-or-pos (k + n - 64))

-- ---- the loops

-- what the r blocks from entry v / 64 on give
pub stretches : (b : ℕ) (list : List ℕ) (v m n r : ℕ) → n ≤ length list → chain_ok b (take n list) ≡ true → 0 < r → v / 64 + r ≤ n → Rises list (v / 64) r → v % 64 + m ≤ 64 * r
    → Stretch b (take n list) v (64 * get_or list (v / 64) 0 + v % 64) m
stretches b list v m n r long ok hr hi up hk =
    let l : List ℕ = take n list in
    let i = v / 64 in
    let k = v % 64 in
    let ln : length l ≡ n = length-take-le n list long in
    let up' : Rises l i r = run_take list n i r hi up in
    let x= : get_or l i 0 ≡ get_or list i 0 = get_or-take n list i 0 (omega arith) in
    let place : 64 * i + k ≡ v = omega arith in
    let at : 64 * get_or l i 0 + k ≡ 64 * get_or list i 0 + k = omega arith in
    record {
      inside = omega (arith, run-below b l i r ok hr (omega arith) up');
      reads = λ bs room.
          ap (λ (w : ℕ). take m (drop w (flat bs l))) (sym place)
          ∙ sym (run-read b bs l room ok r i k m (omega arith) (omega arith) up' hk)
          ∙ ap (λ (w : ℕ). take m (drop w bs)) at;
      writes = λ bs s room ls.
          ap (λ (w : ℕ). flat (put bs w s) l) (sym at)
          ∙ run_write b l ok r bs i k s room (omega arith) (omega arith) up' (omega arith)
          ∙ ap (λ (w : ℕ). put (flat bs l) w s) place;
    }

-- n more of s, right behind the first of it
pub put_more : (d s : List ℕ) (at done n : ℕ) → done ≤ length s → put (put d at (take done s)) (at + done) (take n (drop done s)) ≡ put d at (take (done + n) s)
put_more d s at done n h =
    ap (λ (k : ℕ). put (put d at (take done s)) (at + k) (take n (drop done s))) (sym (length-take-le done s h))
    ∙ put-put d at (take done s) (take n (drop done s))
    ∙ ap (put d at) (sym (take-add done n s))
