-- A run of blocks becomes longer or shorter, and octets are written from one of its octets on.
use Prim.Native.Nat.{ℕ, ◌+◌, ◌*◌, ◌-◌, ◌≤◌, ◌<◌, min}
use mathlib.Core.Path.{◌≡◌, sym, ap, ◌∙◌, subst}
use mathlib.Core.Bool.{true}
use mathlib.Core.List.{List, [], ◌++◌, append_assoc}
use native.Mathlib.Omega.{arith}
use lib.ListN.{length, take, drop, length-append, length-drop, length-take}
use lib.Seq.{take-take, drop-drop, take-append-le, drop-append-le, drop-append-add, length-take-le, take-add, take_at, drop_at}
use Rattle.octets.specs.Emit.{put}
use Rattle.octets.proofs.Put.{put_is, length-put}
use Rattle.chain.specs.Chain.{chain_ok, homed, flat, Resized, Spliced}
use Rattle.chain.proofs.Flat.{flat_append, length-flat, front-ok}
use Rattle.chain.proofs.Home.{homed-chain}
use Rattle.chain.proofs.Moves.{take-drop}
use Rattle.chain.proofs.Swap.{drop-ok}
use Rattle.chain.proofs.Spelt.{spelt-long, spelt-front, spelt-behind}

-- ---- what `put` leaves of a list that has room for it
module _ (x : List ℕ) (v : ℕ) (s : List ℕ) (fits : v + length s ≤ length x) where
  pub put_front : (i : ℕ) → i ≤ v → take i (put x v s) ≡ take i x
  put_front i h =
      let room : i ≤ length (take v x) = simp length-take (omega arith) in
      ap (take i) (put_is x v s fits) ∙ take-append-le i (take v x) (s ++ drop (v + length s) x) room ∙ take-take i v x h

  lv : length (take v x) ≡ v
  lv = length-take-le v x (omega arith)

  pub put-own : (n : ℕ) → n ≤ v → take (v - n + length s) (drop n (put x v s)) ≡ take (v - n) (drop n x) ++ s
  put-own n h =
      let cut : drop n (take v x) ≡ take (v - n) (drop n x) = let e : n + (v - n) ≡ v = omega arith in ap (λ (k : ℕ). drop n (take k x)) (sym e) ∙ take-drop n (v - n) x in
      let ln : length (take (v - n) (drop n x)) ≡ v - n = length-take-le (v - n) (drop n x) (simp length-drop (omega arith)) in
      let lns : length (take (v - n) (drop n x) ++ s) ≡ v - n + length s = length-append (take (v - n) (drop n x)) s ∙ omega arith in
      ap (λ (y : List ℕ). take (v - n + length s) (drop n y)) (put_is x v s fits)
      ∙ ap (take (v - n + length s)) (drop-append-le n (take v x) (s ++ drop (v + length s) x) (omega (arith, lv)))
      ∙ ap (λ (y : List ℕ). take (v - n + length s) (y ++ (s ++ drop (v + length s) x))) cut
      ∙ ap (take (v - n + length s)) (sym (append_assoc (take (v - n) (drop n x)) s (drop (v + length s) x)))
      ∙ take_at (take (v - n) (drop n x) ++ s) (drop (v + length s) x) (v - n + length s) lns

  pub put-behind : (o : ℕ) → v + length s ≤ o → drop o (put x v s) ≡ drop o x
  put-behind o h =
      let e : o ≡ length (take v x ++ s) + (o - (v + length s)) = omega (arith, length-append (take v x) s, lv) in
      let w : v + length s + (o - (v + length s)) ≡ o = omega arith in
      ap (drop o) (put_is x v s fits ∙ sym (append_assoc (take v x) s (drop (v + length s) x)))
      ∙ ap (λ (k : ℕ). drop k ((take v x ++ s) ++ drop (v + length s) x)) e
      ∙ drop-append-add (take v x ++ s) (drop (v + length s) x) (o - (v + length s))
      ∙ drop-drop (o - (v + length s)) (v + length s) x
      ∙ ap (λ (k : ℕ). drop k x) w

-- ---- a middle that is replaced
module _ (f new : List ℕ) (p q : ℕ) (hp : p ≤ q) (hq : q ≤ length f) where
  abbrev wide : List ℕ
  wide = take p f ++ (new ++ drop q f)

  lp : length (take p f) ≡ p
  lp = length-take-le p f (omega arith)

  pub wide-long : length wide + q ≡ length f + p + length new
  wide-long = omega (arith, length-append (take p f) (new ++ drop q f), length-append new (drop q f), length-drop q f, lp)

  pub wide-front : (i : ℕ) → i ≤ p → take i wide ≡ take i f
  wide-front i h = take-append-le i (take p f) (new ++ drop q f) (omega (arith, lp)) ∙ take-take i p f h

  pub wide-part : (i n : ℕ) → i + n ≤ p → take n (drop i wide) ≡ take n (drop i f)
  wide-part i n h = sym (take-drop i n wide) ∙ ap (drop i) (wide-front (i + n) h) ∙ take-drop i n f

  pub wide-behind : (o : ℕ) → q ≤ o → drop (p + length new + (o - q)) wide ≡ drop o f
  wide-behind o h =
      let e : p + length new + (o - q) ≡ length (take p f ++ new) + (o - q) = omega (arith, length-append (take p f) new, lp) in
      let w : q + (o - q) ≡ o = omega arith in
      ap (drop (p + length new + (o - q))) (sym (append_assoc (take p f) new (drop q f)))
      ∙ ap (λ (k : ℕ). drop k ((take p f ++ new) ++ drop q f)) e
      ∙ drop-append-add (take p f ++ new) (drop q f) (o - q)
      ∙ drop-drop (o - q) q f
      ∙ ap (λ (k : ℕ). drop k f) w

-- both together
pub spliced : (f new : List ℕ) (a k n d : ℕ) (src : List ℕ) → 64 * (a + k) ≤ length f → length new ≡ 64 * (n - k) → d ≤ 64 * k → d + length src ≤ 64 * n
    → Spliced f (put (take (64 * (a + min k n)) f ++ (new ++ drop (64 * (a + k)) f)) (64 * a + d) src) a k n d src
spliced f new a k n d src hf ln hd hs =
    let p : ℕ = 64 * (a + min k n) in
    let q : ℕ = 64 * (a + k) in
    let v : ℕ = 64 * a + d in
    let hp : 64 * (a + min k n) ≤ 64 * (a + k) = omega arith in
    let w : List ℕ = take (64 * (a + min k n)) f ++ (new ++ drop (64 * (a + k)) f) in
    let lw : length w + 64 * (a + k) ≡ length f + 64 * (a + min k n) + length new = wide-long f new (64 * (a + min k n)) (64 * (a + k)) hp hf in
    let fits : 64 * a + d + length src ≤ length w = omega arith in
    let e : 64 * a + d - 64 * a ≡ d = omega arith in
    record {
      size = omega (arith, length-put w (64 * a + d) src);
      front = λ i h. put_front w (64 * a + d) src fits i h ∙ wide-front f new (64 * (a + min k n)) (64 * (a + k)) hp hf i (omega arith);
      own =
          ap (λ (m : ℕ). take (m + length src) (drop (64 * a) (put w (64 * a + d) src))) (sym e)
          ∙ put-own w (64 * a + d) src fits (64 * a) (omega arith)
          ∙ ap (λ (m : ℕ). take m (drop (64 * a) w) ++ src) e
          ∙ ap (λ (l : List ℕ). l ++ src) (wide-part f new (64 * (a + min k n)) (64 * (a + k)) hp hf (64 * a) d (omega arith));
      behind = λ o h.
          let z : o + 64 * n - 64 * k ≡ 64 * (a + min k n) + length new + (o - 64 * (a + k)) = omega arith in
          put-behind w (64 * a + d) src fits (o + 64 * n - 64 * k) (omega arith)
          ∙ ap (λ (m : ℕ). drop m w) z
          ∙ wide-behind f new (64 * (a + min k n)) (64 * (a + k)) hp hf o h;
    }

-- ---- the octets of a list of blocks that was resized
module _ (home list home' list' bs : List ℕ) (b m a k n : ℕ) (ok : homed home list b m ≡ true) (fits : m ≤ length list) (room : 64 * b ≤ length bs) (h : a + k ≤ m)
    (ok' : homed home' list' b (m + n - k) ≡ true) (fits' : m + n - k ≤ length list') (r : Resized list list' m a k n) where
  abbrev whole : List ℕ
  whole = take (a + min k n) list ++ (r.new ++ take (m - (a + k)) (drop (a + k) list))

  chain' : chain_ok b whole ≡ true
  chain' = ap (chain_ok b) (sym r.entries) ∙ homed-chain home' list' b (m + n - k) ok' fits'

  la : length (take (a + min k n) list) ≡ a + min k n
  la = length-take-le (a + min k n) list (omega arith)

  new_ok : chain_ok b r.new ≡ true
  new_ok =
      front-ok b r.new (take (m - (a + k)) (drop (a + k) list))
      (ap (chain_ok b) (sym (drop_at (take (a + min k n) list) (r.new ++ take (m - (a + k)) (drop (a + k) list)) (a + min k n) la)) ∙ drop-ok b (a + min k n) whole chain')

  pub new-long : length (flat bs r.new) ≡ 64 * (n - k)
  new-long = length-flat b bs r.new room new_ok ∙ ap (λ (x : ℕ). 64 * x) r.long

  pub resized_spells : flat bs (take (m + n - k) list') ≡ take (64 * (a + min k n)) (flat bs (take m list)) ++ (flat bs r.new ++ drop (64 * (a + k)) (flat bs (take m list)))
  resized_spells =
      ap (flat bs) r.entries
      ∙ flat_append bs (take (a + min k n) list) (r.new ++ take (m - (a + k)) (drop (a + k) list))
      ∙ rw (flat_append bs r.new (take (m - (a + k)) (drop (a + k) list)), spelt-front home list bs b m ok fits room (a + min k n) (omega arith), spelt-behind home list bs b m ok fits room (a + k) h)

  pub now-spliced : (bs' : List ℕ) (d : ℕ) (src : List ℕ) → d ≤ 64 * k → d + length src ≤ 64 * n
      → flat bs' (take (m + n - k) list') ≡ put (flat bs (take (m + n - k) list')) (64 * a + d) src
      → Spliced (flat bs (take m list)) (flat bs' (take (m + n - k) list')) a k n d src
  now-spliced bs' d src hd hs e =
      subst (λ (x : List ℕ). Spliced (flat bs (take m list)) x a k n d src) (sym (e ∙ ap (λ (x : List ℕ). put x (64 * a + d) src) resized_spells))
      (spliced (flat bs (take m list)) (flat bs r.new) a k n d src (omega (arith, spelt-long home list bs b m ok fits room)) new-long hd hs)

-- ---- by `insert`, and by `release`
-- as many as before
pub resized_same : (list : List ℕ) (m a k n : ℕ) → k ≡ n → a + k ≤ m → Resized list list m a k n
resized_same list m a k n h ha =
    let x : m + n - k ≡ (a + k) + (m - (a + k)) = omega arith in
    let y : a + k ≡ a + min k n = omega arith in
    record {
      new = [];
      long = omega arith;
      entries = ap (λ (i : ℕ). take i list) x ∙ take-add (a + k) (m - (a + k)) list ∙ ap (λ (i : ℕ). take i list ++ take (m - (a + k)) (drop (a + k) list)) y;
    }

pub resized_more : (list list' : List ℕ) (m a k n : ℕ) → k ≤ n → a + k ≤ m → m + n - k ≤ length list'
    → take (m + (n - k)) list' ≡ take (a + k) list ++ (take (n - k) (drop (a + k) list') ++ take (m - (a + k)) (drop (a + k) list))
    → Resized list list' m a k n
resized_more list list' m a k n h ha l e =
    let x : m + n - k ≡ m + (n - k) = omega arith in
    let y : a + k ≡ a + min k n = omega arith in
    record {
      new = take (n - k) (drop (a + k) list');
      long = length-take-le (n - k) (drop (a + k) list') (simp length-drop (omega arith));
      entries = ap (λ (i : ℕ). take i list') x ∙ e ∙ ap (λ (i : ℕ). take i list ++ (take (n - k) (drop (a + k) list') ++ take (m - (a + k)) (drop (a + k) list))) y;
    }

pub resized_less : (list list' : List ℕ) (m a k n : ℕ) → n < k → a + k ≤ m
    → take (m - (a + k - (a + n))) list' ≡ take (a + n) list ++ take (m - (a + k)) (drop (a + k) list)
    → Resized list list' m a k n
resized_less list list' m a k n h ha e =
    let x : m + n - k ≡ m - (a + k - (a + n)) = omega arith in
    let y : a + n ≡ a + min k n = omega arith in
    record {
      new = [];
      long = omega arith;
      entries = ap (λ (i : ℕ). take i list') x ∙ e ∙ ap (λ (i : ℕ). take i list ++ take (m - (a + k)) (drop (a + k) list)) y;
    }
