use Prim.Native.Nat.{ℕ, suc, ◌+◌, ◌*◌}
use mathlib.Core.Path.{◌≡◌, sym, ap, ◌∙◌}
use mathlib.Core.List.{List, [], ◌∷◌, ◌++◌}
use native.Mathlib.Omega.{arith}
use borrow.Author.Rules.{rules}
use lib.ListN.{length, set}
use lib.Seq.{take_all}
use Rattle.octets.specs.Emit.{put}
use Rattle.octets.proofs.Put.{put-put}
use Rattle.pool.proofs.place.set_place.Goals as goal

-- the five words behind the key, set one after the other
abbrev tail-set : List ℕ → ℕ → ℕ → ℕ → ℕ → ℕ → ℕ → List ℕ
tail-set x at v₁ v₂ v₃ v₄ v₅ = set (set (set (set (set x (at + 6) v₁) (at + 7) v₂) (at + 8) v₃) (at + 9) v₄) (at + 10) v₅

tail : (w key : List ℕ) (at v₁ v₂ v₃ v₄ v₅ : ℕ) → length key ≡ 6 → tail-set (put w at key) at v₁ v₂ v₃ v₄ v₅ ≡ put w at (key ++ (v₁ ∷ v₂ ∷ v₃ ∷ v₄ ∷ v₅ ∷ []))
unfolding put
tail w key at v₁ v₂ v₃ v₄ v₅ h =
    let vs : List ℕ = v₁ ∷ v₂ ∷ v₃ ∷ v₄ ∷ v₅ ∷ [] in
    let n : at + length key ≡ at + 6 = omega (arith, h) in
    let a : suc (at + 6) ≡ at + 7 = omega arith in
    let b : suc (at + 7) ≡ at + 8 = omega arith in
    let c : suc (at + 8) ≡ at + 9 = omega arith in
    let d : suc (at + 9) ≡ at + 10 = omega arith in
    let e : put (put w at key) (at + 6) vs ≡ tail-set (put w at key) at v₁ v₂ v₃ v₄ v₅ = rw (a, b, c, d) in
    sym e ∙ ap (λ (i : ℕ). put (put w at key) i vs) (sym n) ∙ put-put w at key vs

pub returns-clause-words_put : goal.returns-clause-words_put
returns-clause-words_put c =
    let a = c.args in
    let long : length a.q.key ≡ 6 = search rules in
    let whole : c.copy.new.dst ≡ put a.words.now (40 + 12 * a.p) a.q.key = c.copy.ensures ∙ ap (put a.words.now (40 + 12 * a.p)) (take_all 6 a.q.key (omega arith)) in
    ap (λ (x : List ℕ). tail-set x (40 + 12 * a.p) a.q.note a.q.body a.q.top a.q.bodyblocks a.q.topblocks) whole ∙ tail a.words.now a.q.key (40 + 12 * a.p) a.q.note a.q.body a.q.top a.q.bodyblocks a.q.topblocks long
