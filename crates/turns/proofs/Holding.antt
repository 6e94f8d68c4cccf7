-- What a held piece leaves of a link's units, and the room that it takes.
use Prim.Native.Nat.{ℕ, zero, suc, ◌+◌, ◌*◌, ◌-◌, ◌≤◌, ◌<◌}
use mathlib.Core.Path.{◌≡◌, refl, sym, ap, ap₂, ◌∙◌}
use mathlib.Core.Bool.{Bool, true, false, cond}
use mathlib.Core.List.{List, [], ◌∷◌, ◌++◌}
use native.Mathlib.Omega.{arith}
use lib.Ieee.{Float}
use lib.ListN.{length, get_or, take, set, length-append, length-set, get_or-eq_default}
use lib.Seq.{take-length, get_or-set_same, set-set, get_or-append_seam, set-append_seam}
use borrow.Author.Tests.{lt-ltb, le-ltb}
use Rattle.std.specs.Prelude.{Result, Ok, Err, IsErr, IsErrAnd}
use Rattle.model.specs.Cost.{blocks}
use Rattle.pool.specs.declared.link.Full.{Full}
use Rattle.tables.specs.Tables.{links, blocks_in, reserve, cap, count, units, word}
use Rattle.pool.specs.View.{answer, number, Unit, blank, body_from, marked_u, added_u, marked, spliced, added, pend, sound, refusal, Room, SameSettings}
use Rattle.pool.specs.Shares.{cost_of, in_use, room_for}
use Rattle.pool.specs.Kinds.{placed}
use Rattle.pool.proofs.Good.{good}
use Rattle.pool.proofs.Near.{ready}
use Rattle.pool.proofs.Read.{part-long}
use Rattle.pool.proofs.Expired.{pend-long, view-long}
use Rattle.pool.proofs.Refused.{room_of}
use Rattle.pool.proofs.Counts.{in_use-last}
use Rattle.pool.proofs.Shares.{use_is, room-by-units}
use Rattle.turns.specs.Turns.{whole, held}

-- what stands in front of the piece
front : (keep : Bool) (b : List ℕ) (d : ℕ) → d ≡ length (cond keep b []) → take d b ≡ cond keep b []
front true b d e = rw e (take-length b)
front false b d e = rw e refl

placed-there : (us : List Unit) (j : ℕ) (v : Unit) → j < length us → placed us j v ≡ set us j v
placed-there us j v h = rw (lt-ltb j (length us) h)

placed-last : (us : List Unit) (v : Unit) → placed us (length us) v ≡ us ++ (v ∷ [])
placed-last us v = rw (le-ltb (length us) (length us) (omega arith))

in_use-set : (us : List Unit) (j : ℕ) (v : Unit) → j < length us → in_use (set us j v) + cost_of (get_or us j blank) ≡ in_use us + cost_of v
unfolding in_use
in_use-set [] j v h = absurd (omega arith)
in_use-set (u ∷ us) zero v h = omega arith
in_use-set (u ∷ us) (suc j) v h = omega (arith, in_use-set us j v (omega arith))

module _ (st : List (List Unit)) (l : ℕ) (hl : l < length st) (note : ℕ) (at : Float) (piece : List ℕ) where
  abbrev us : List Unit
  us = get_or st l []

  pub more-held : (j d : ℕ) (keep : Bool) → j < length us → d ≡ length (cond keep (get_or us j blank).body []) → marked (spliced st l j 0 d piece) l j note at ≡ set st l (held us j (get_or us j blank).key keep note at piece)
  unfolding marked spliced
  more-held j d keep hj e =
      let u : Unit = get_or us j blank in
      let u₁ : Unit = body_from u d piece in
      let a : get_or (set st l (set us j u₁)) l [] ≡ set us j u₁ = get_or-set_same st l (set us j u₁) [] hl in
      let b : get_or (set us j u₁) j blank ≡ u₁ = get_or-set_same us j u₁ blank hj in
      ap₂ (λ (x : List Unit) (y : Unit). set (set st l (set us j u₁)) l (set x j (marked_u y note at))) a (ap (λ (x : List Unit). get_or x j blank) a ∙ b)
      ∙ set-set st l (set us j u₁) (set (set us j u₁) j (marked_u u₁ note at))
      ∙ ap (set st l) (
      set-set us j u₁ (marked_u u₁ note at)
      ∙ ap (λ (f : List ℕ). set us j (record { key = u.key; note = note; time = at; body = f ++ piece; top = u.top })) (front keep u.body d e)
      ∙ sym (placed-there us j _ hj)
      )

  behind : (key : List ℕ) → spliced (added st l key note at) l (length us) 0 0 piece ≡ set st l (held us (length us) key true note at piece)
  unfolding spliced added
  behind key =
      let v : Unit = added_u key note at in
      let v₁ : Unit = body_from v 0 piece in
      let a : get_or (set st l (us ++ (v ∷ []))) l [] ≡ us ++ (v ∷ []) = get_or-set_same st l (us ++ (v ∷ [])) [] hl in
      let n : get_or us (length us) blank ≡ blank = get_or-eq_default us blank (omega arith) in
      ap₂ (λ (x : List Unit) (y : Unit). set (set st l (us ++ (v ∷ []))) l (set x (length us) (body_from y 0 piece))) a (ap (λ (x : List Unit). get_or x (length us) blank) a ∙ get_or-append_seam us v [] blank)
      ∙ set-set st l (us ++ (v ∷ [])) (set (us ++ (v ∷ [])) (length us) v₁)
      ∙ ap (set st l) (
      set-append_seam us v [] v₁
      ∙ ap (λ (b : Unit). us ++ (record { key = key; note = note; time = at; body = b.body ++ piece; top = b.top } ∷ [])) (sym n)
      ∙ sym (placed-last us _)
      )

  pub new-held : (key : List ℕ) (u : ℕ) → length us ≡ u → spliced (added st l key note at) l u 0 0 piece ≡ set st l (held us u key true note at piece)
  new-held key u e = rw (← e) (behind key)

  -- the link has as many units as before
  pub still-many : (j d : ℕ) → length (get_or (spliced st l j 0 d piece) l []) ≡ length us
  unfolding spliced
  still-many j d = ap length (get_or-set_same st l (set us j (body_from (get_or us j blank) d piece)) [] hl) ∙ length-set us j (body_from (get_or us j blank) d piece)

-- what is kept is no more than there is
pub kept_low : (keep : Bool) (b : List ℕ) → length (cond keep b []) ≤ length b
kept_low true b = omega arith
kept_low false b = omega arith

module _ (us : List Unit) (key : List ℕ) (note : ℕ) (at : Float) (piece : List ℕ) where
  -- of a unit that is not there nothing is kept
  pub new-any : (keep : Bool) (j u : ℕ) → length us ≡ u → j ≡ u → held us u key true note at piece ≡ held us j key keep note at piece
  new-any true j u e f = rw f
  new-any false j u e f =
      rw f
      (ap (λ (b : Unit). placed us u (record { key = key; note = note; time = at; body = b.body ++ piece; top = (get_or us u blank).top })) (get_or-eq_default us blank (omega (arith, e))))

  more-long : (j : ℕ) (keep : Bool) → j < length us → length (held us j key keep note at piece) ≡ length us
  more-long j keep hj = ap length (placed-there us j _ hj) ∙ length-set us j _

  more_use : (j : ℕ) (keep : Bool) → j < length us → in_use (held us j key keep note at piece) + blocks (length (get_or us j blank).body) ≡ in_use us + blocks (length (whole us j keep piece))
  more_use j keep hj =
      let v : Unit = record { key = key; note = note; time = at; body = whole us j keep piece; top = (get_or us j blank).top } in
      let a : in_use (held us j key keep note at piece) ≡ in_use (set us j v) = ap in_use (placed-there us j v hj) in
      omega (arith, a, in_use-set us j v hj)

  new-long : length (held us (length us) key true note at piece) ≡ length us + 1
  new-long = ap length (placed-last us _) ∙ length-append us _

  new_use : in_use (held us (length us) key true note at piece) ≡ in_use us + blocks (length piece)
  new_use =
      let n : get_or us (length us) blank ≡ blank = get_or-eq_default us blank (omega arith) in
      let v : Unit = record { key = key; note = note; time = at; body = piece; top = [] } in
      ap in_use (placed-last us _)
      ∙ ap (λ (b : Unit). in_use (us ++ (record { key = key; note = note; time = at; body = b.body ++ piece; top = b.top } ∷ []))) n
      ∙ in_use-last us v
      ∙ omega arith

-- ---- in a sound store
module _ (w : List ℕ) (tm : List Float) (list home bs : List ℕ) (h : sound w tm list home bs ≡ true) (l : ℕ) (hl : l < links w) (key : List ℕ) (note : ℕ) (at : Float) (piece : List ℕ) where
  abbrev here : List Unit
  here = get_or (pend w tm list bs) l []

  many : length here ≡ units w l
  many = view-long w tm list bs l hl

  pub more_room : (j d : ℕ) (keep : Bool) → j < units w l → d ≡ length (cond keep (get_or here j blank).body []) → refusal w l 0 (word w (8 * l + j) 9) (blocks (d + length piece)) ≡ room_for (links w) (blocks_in w) (reserve w) (cap w) (pend w tm list bs) l (held here j key keep note at piece)
  more_room j d keep hj e =
      let g = good w tm list home bs h in
      let r = ready w l j 0 g.tab hl hj (omega arith) in
      let n : length (get_or here j blank).body ≡ word w (8 * l + j) 7 = part-long w tm list home bs l j 0 g hl hj (omega arith) in
      let k : word w (8 * l + j) 9 ≡ blocks (length (get_or here j blank).body) = r.size.right.body ∙ ap blocks (sym n) in
      let x : length (whole here j keep piece) ≡ d + length piece = length-append (cond keep (get_or here j blank).body []) piece ∙ ap (λ (q : ℕ). q + length piece) (sym e) in
      let hj' : j < length here = omega (arith, many) in
      let y : in_use (held here j key keep note at piece) + word w (8 * l + j) 9 ≡ count w l + blocks (d + length piece) =
      ap (λ (q : ℕ). in_use (held here j key keep note at piece) + q) k
      ∙ more_use here key note at piece j keep hj'
      ∙ ap₂ (λ (p q : ℕ). p + blocks q) (use_is w tm list home bs g l hl) x in
      room-by-units w tm list home bs h l 0 (word w (8 * l + j) 9) (blocks (d + length piece)) hl (held here j key keep note at piece)
      (more-long here key note at piece j keep hj' ∙ many ∙ omega arith)
      (omega (arith, y))

  pub new-room : refusal w l 1 0 (blocks (length piece)) ≡ room_for (links w) (blocks_in w) (reserve w) (cap w) (pend w tm list bs) l (held here (units w l) key true note at piece)
  new-room =
      let g = good w tm list home bs h in
      rw (← many)
      (room-by-units w tm list home bs h l 1 0 (blocks (length piece)) hl (held here (length here) key true note at piece)
      (new-long here key note at piece ∙ ap (λ (q : ℕ). q + 1) many)
      (new_use here key note at piece ∙ ap (λ (q : ℕ). q + blocks (length piece)) (use_is w tm list home bs g l hl) ∙ omega arith))

-- ---- and when the new unit has been added
module _ (w : List ℕ) (tm : List Float) (list home bs : List ℕ) (h : sound w tm list home bs ≡ true) (l : ℕ) (hl : l < links w) (key : List ℕ) (note : ℕ) (at : Float) (piece : List ℕ) (w' : List ℕ) (tm' : List Float) (h' : sound w' tm' list home bs ≡ true) (e : pend w' tm' list bs ≡ added (pend w tm list bs) l key note at) (s : SameSettings w w') where
  abbrev st : List (List Unit)
  st = pend w tm list bs

  abbrev more : List Unit
  more = get_or st l [] ++ (added_u key note at ∷ [])

  abbrev then : List Unit
  then = held (get_or st l []) (units w l) key true note at piece

  there : l < length st
  there = omega (arith, hl, pend-long w tm list bs)

  hl' : l < links w'
  hl' = omega (arith, hl, s.on-links)

  stands : pend w' tm' list bs ≡ set st l more
  unfolding added
  stands = e

  here-now : get_or (pend w' tm' list bs) l [] ≡ more
  here-now = ap (λ (x : List (List Unit)). get_or x l []) stands ∙ get_or-set_same st l more [] there

  count-now : units w' l ≡ units w l + 1
  count-now = sym (view-long w' tm' list bs l hl') ∙ ap length here-now ∙ length-append (get_or st l []) _ ∙ ap (λ (n : ℕ). n + 1) (view-long w tm list bs l hl)

  use_now : count w' l ≡ count w l
  use_now =
      sym (use_is w' tm' list home bs (good w' tm' list home bs h') l hl')
      ∙ ap in_use here-now
      ∙ in_use-last (get_or st l []) (added_u key note at)
      ∙ ap (λ (n : ℕ). n + 0) (use_is w tm list home bs (good w tm list home bs h) l hl)
      ∙ omega arith

  none_yet : word w' (8 * l + units w l) 9 ≡ 0
  none_yet =
      let g = good w' tm' list home bs h' in
      let hj : units w l < units w' l = omega (arith, count-now) in
      let r = ready w' l (units w l) 0 g.tab hl' hj (omega arith) in
      let v : get_or (get_or (pend w' tm' list bs) l []) (units w l) blank ≡ added_u key note at =
      ap₂ (λ (x : List Unit) (n : ℕ). get_or x n blank) here-now (sym (view-long w tm list bs l hl)) ∙ get_or-append_seam (get_or st l []) (added_u key note at) [] blank in
      let n : word w' (8 * l + units w l) 7 ≡ 0 = sym (part-long w' tm' list home bs l (units w l) 0 g hl' hj (omega arith)) ∙ ap (λ (u : Unit). length u.body) v in
      omega (arith, r.size.right.body, n)

  same-room : room_for (links w') (blocks_in w') (reserve w') (cap w') (pend w' tm' list bs) l then ≡ room_for (links w) (blocks_in w) (reserve w) (cap w) st l then
  unfolding room_for
  same-room = rw (s.on-links, s.on-blocks, s.on-reserve, s.on-cap, stands, set-set st l more then)

  -- the room that was found for it is still there
  pub new-fits : refusal w l 1 0 (blocks (length piece)) ≡ 2 → Room w' l (word w' (8 * l + units w l) 9) (blocks (length piece))
  new-fits two =
      let us = get_or st l [] in
      let many : length us ≡ units w l = view-long w tm list bs l hl in
      let a : length then ≡ units w' l + 0 = ap (λ (u : ℕ). length (held us u key true note at piece)) (sym many) ∙ new-long us key note at piece ∙ omega (arith, many, count-now) in
      let b : in_use then ≡ count w' l + blocks (length piece) - 0 = ap (λ (u : ℕ). in_use (held us u key true note at piece)) (sym many) ∙ new_use us key note at piece ∙ omega (arith, use_is w tm list home bs (good w tm list home bs h) l hl, use_now) in
      let f : refusal w' l 0 0 (blocks (length piece)) ≡ 2 =
      room-by-units w' tm' list home bs h' l 0 0 (blocks (length piece)) hl' then a b ∙ same-room ∙ sym (new-room w tm list home bs h l hl key note at piece) ∙ two in
      rw none_yet (room_of w' l 0 0 (blocks (length piece)) (omega arith) f).1

-- the number of a refusal that is handed on
pub handed : {A : Type 0} (r : Result A Full) (f : Full) (P : Full → Type 0) → ((e : Full) → P e → e ≡ f) → IsErr r × IsErrAnd r P → answer r ≡ number f
handed (Ok x) f P same h = absurd h.1
handed (Err e) f P same h = ap number (same e h.1)
