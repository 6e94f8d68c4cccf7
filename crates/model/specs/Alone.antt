-- A link by itself: its own calls, and for each whether it was refused common room. Nothing else of the other links comes in.
use Rattle.std.specs.Prelude.{List, [], ◌∷◌, Bool, cond, ℕ, length, eqb, ltb, Float}
use Rattle.model.specs.Kind.{First, nothing, passes, piece, Check, fine, address, total, Turn, ends, holds, out_of_turn, Kind}
use Rattle.model.specs.Store.{Settings, Units, Links, keep, lookup, admit, remove, in_use, Call, push, tidy, close, step}

module _ (Z : Kind) where
  -- what a call gives and leaves at its own link
  pub record Own : Type 0 where
    pub answer : ℕ
    pub out : List ℕ
    pub units : Units Z

  abbrev pub own : ℕ → Units Z → Own
  own a us = record { answer = a; out = []; units = us }

  abbrev pub own_delivered : ℕ → ℕ → List ℕ → Units Z → Units Z → Own
  own_delivered space a x us us' = cond (ltb space (length x)) (own 10 us) (record { answer = a; out = x; units = us' })

  unfoldable pub own_room : Settings → Bool → Units Z → ℕ
  own_room s thirteen w = cond (ltb 8 (length w)) 11 (cond (ltb s.cap (in_use Z w)) 12 (cond thirteen 13 2))

  unfoldable pub own_turned : Settings → Bool → Units Z → ℕ → Z.K → Turn Z.U → Own
  own_turned s t us space k (ends x) = own_delivered space 0 x us (remove Z k us)
  own_turned s t us space k (holds v) =
      let w = admit Z (record { key = k; it = v }) us in
      own (own_room s t w) (cond (eqb (own_room s t w) 2) w us)
  own_turned s t us space k out_of_turn = own 9 us

  unfoldable pub own_checked : Settings → Bool → Units Z → Float → ℕ → Z.P → Check → Own
  own_checked s t us now space p fine = own_turned s t us space (Z.key p) (Z.turn p now (lookup Z (Z.key p) us))
  own_checked s t us now space p address = own 7 us
  own_checked s t us now space p total = own 8 us

  unfoldable pub own_begun : Settings → Bool → Units Z → Float → List ℕ → ℕ → First Z.P → Own
  own_begun s t us now x space nothing = own 6 us
  own_begun s t us now x space passes = own_delivered space 1 x us us
  own_begun s t us now x space (piece p) = own_checked s t (keep Z now us) now space p (Z.check p)

  unfoldable pub own_step : Settings → Bool → Units Z → Call Z → Own
  own_step s t us (push link now x space) = cond (ltb 65535 (length x)) (own 3 us) (own_begun s t us now x space (Z.first x))
  own_step s t us (tidy link now) = own 16 (keep Z now us)
  own_step s t us (close link) = own 16 []

  abbrev pub link_of : Call Z → ℕ
  link_of (push link now x space) = link
  link_of (tidy link now) = link
  link_of (close link) = link

  -- ---- of any calls, those at one link: each with whether it was refused common room, what they gave, and the units left
  pub record Told : Type 0 where
    pub call : Call Z
    pub thirteen : Bool

  abbrev pub told : Settings → ℕ → Links Z → List (Call Z) → List Told
  told s l st [] = []
  told s l st (c ∷ cs) =
      cond (eqb (link_of c) l) (record { call = c; thirteen = eqb (step Z s st c).answer 13 } ∷ told s l (step Z s st c).store cs)
      (told s l (step Z s st c).store cs)

  pub record Gave : Type 0 where
    pub answer : ℕ
    pub out : List ℕ

  abbrev pub gave : Settings → ℕ → Links Z → List (Call Z) → List Gave
  gave s l st [] = []
  gave s l st (c ∷ cs) =
      cond (eqb (link_of c) l) (record { answer = (step Z s st c).answer; out = (step Z s st c).out } ∷ gave s l (step Z s st c).store cs)
      (gave s l (step Z s st c).store cs)

  -- the same for the link alone
  abbrev pub alone_gave : Settings → Units Z → List Told → List Gave
  alone_gave s us [] = []
  alone_gave s us (t ∷ ts) =
      let o = own_step s t.thirteen us t.call in
      record { answer = o.answer; out = o.out } ∷ alone_gave s o.units ts

  abbrev pub alone_left : Settings → Units Z → List Told → Units Z
  alone_left s us [] = us
  alone_left s us (t ∷ ts) = alone_left s (own_step s t.thirteen us t.call).units ts
