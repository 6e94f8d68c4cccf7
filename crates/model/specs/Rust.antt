-- The Rust's reassemblers, for every kind: a map from keys to entries, pruned by time and changed at one key by each push.
use Rattle.std.specs.Prelude.{◌≡◌, ◌⊎◌, List, [], ◌∷◌, cond, ℕ, ◌≤◌, ◌<◌, eqb, length, Float}
use Rattle.std.proofs.Math.Option.{Option, none, some}
use Rattle.clock.specs.Time.{fresh_t}
use Rattle.model.specs.Kind.{First, nothing, passes, piece, Check, fine, address, total, Turn, ends, holds, out_of_turn, Kind}
use Rattle.model.specs.Store.{Call, push, tidy, close}
use Rattle.model.specs.Alone.{Told, Gave}

-- an entry that `retain` keeps
abbrev pub stays : {A : Type 0} → (A → Float) → Float → Option A → Option A
stays t now none = none
stays t now (some e) = cond (fresh_t now (t e)) (some e) none

-- what the Rust says of one kind: its entries, how it reads octets, and what `push` makes of the entry under the piece's key,
-- after `retain`: the octets that it returns, and the entry that it leaves
pub record Oracle (Z : Kind) : Type 1 where
  pub W : Type 0
  pub last : W → Float
  pub Q : Type 0
  pub key : Q → Z.K
  pub first : List ℕ → First Q
  pub turn : Q → Float → Option W → Option (List ℕ) × Option W

module _ (Z : Kind) (O : Oracle Z) where
  abbrev pub Map : Type 0
  Map = Z.K → Option O.W

  abbrev pub retain : Float → Map → Map
  retain now m = λ k. stays O.last now (m k)

  abbrev pub rust_out : Map → Float → List ℕ → First O.Q → Option (List ℕ)
  rust_out m now x nothing = none
  rust_out m now x passes = some x
  rust_out m now x (piece q) = (O.turn q now (retain now m (O.key q))).0

  abbrev pub rust_map : Map → Float → First O.Q → Map
  rust_map m now nothing = m
  rust_map m now passes = m
  rust_map m now (piece q) = λ j. cond (Z.same (O.key q) j) (O.turn q now (retain now m (O.key q))).1 (retain now m j)

  -- one push
  pub record Pushed : Type 0 where
    pub now : Float
    pub octets : List ℕ

  -- what a reassembler of its own gives, fed one push after the other
  abbrev pub rust_gave : Map → List Pushed → List (Option (List ℕ))
  rust_gave m [] = []
  rust_gave m (p ∷ ps) =
      rust_out m p.now p.octets (O.first p.octets) ∷ rust_gave (rust_map m p.now (O.first p.octets)) ps

-- ---- the store's side
module _ (Z : Kind) where
  -- as the Rust says it: octets for 0 and 1, `None` for 2 and 6 to 9
  abbrev pub outcome : Gave Z → Option (List ℕ)
  outcome g = cond (eqb g.answer 0) (some g.out) (cond (eqb g.answer 1) (some g.out) none)

  abbrev pub outcomes : List (Gave Z) → List (Option (List ℕ))
  outcomes [] = []
  outcomes (g ∷ gs) = outcome g ∷ outcomes gs

-- ---- a simulation of one step
-- units against entries
abbrev pub Opt : {A B : Type 0} → (A → B → Type 0) → Option A → Option B → Type 0
Opt R none none = Unit
Opt R none (some w) = ⊥
Opt R (some v) none = ⊥
Opt R (some v) (some w) = R v w

-- what a piece does to the unit o, against what it makes the Rust return and leave
abbrev pub TurnAlike : {A B : Type 0} → (A → B → Type 0) → Option A → Turn A → Option (List ℕ) × Option B → Type 0
TurnAlike R o (ends x) q = (q.0 ≡ some x) × (q.1 ≡ none)
TurnAlike R o (holds v) q = (q.0 ≡ none) × Opt R (some v) q.1
TurnAlike R o out_of_turn q = (q.0 ≡ none) × Opt R o q.1

abbrev pub CheckAlike : {A B : Type 0} → (A → B → Type 0) → Option A → Check → Turn A → Option (List ℕ) × Option B → Type 0
CheckAlike R o fine t q = TurnAlike R o t q
CheckAlike R o address t q = (q.0 ≡ none) × Opt R o q.1
CheckAlike R o total t q = (q.0 ≡ none) × Opt R o q.1

module _ (Z : Kind) (O : Oracle Z) (R : Z.U → O.W → Type 0) where
  abbrev pub FirstAlike : First Z.P → First O.Q → Type 0
  FirstAlike nothing nothing = Unit
  FirstAlike nothing passes = ⊥
  FirstAlike nothing (piece q) = ⊥
  FirstAlike passes nothing = ⊥
  FirstAlike passes passes = Unit
  FirstAlike passes (piece q) = ⊥
  FirstAlike (piece p) nothing = ⊥
  FirstAlike (piece p) passes = ⊥
  FirstAlike (piece p) (piece q) =
      (Z.key p ≡ O.key q)
      × ((now : Float) (o : Option Z.U) (w : Option O.W) → Opt R o w → CheckAlike R o (Z.check p) (Z.turn p now o) (O.turn q now w))

pub record Simulates (Z : Kind) (O : Oracle Z) : Type 1 where
  pub R : Z.U → O.W → Type 0
  pub times : (v : Z.U) (w : O.W) → R v w → Z.time v ≡ O.last w
  pub firsts : (x : List ℕ) → length x ≤ 65535 → FirstAlike Z O R (Z.first x) (O.first x)

-- ---- the pushes of a link, and what they may have been answered: not 3 to 5, not 10 to 13, and no tidy or close
module _ (Z : Kind) (O : Oracle Z) where
  abbrev pub pushed_by : Call Z → List (Pushed Z O) → List (Pushed Z O)
  pushed_by (push link now x space) ps = record { now = now; octets = x } ∷ ps
  pushed_by (tidy link now) ps = ps
  pushed_by (close link) ps = ps

  abbrev pub pushes : List (Told Z) → List (Pushed Z O)
  pushes [] = []
  pushes (t ∷ ts) = pushed_by t.call (pushes ts)

module _ (Z : Kind) where
  abbrev pub IsPush : Call Z → Type 0
  IsPush (push link now x space) = Unit
  IsPush (tidy link now) = ⊥
  IsPush (close link) = ⊥

  abbrev pub Plain : List (Told Z) → List (Gave Z) → Type 0
  Plain [] gs = Unit
  Plain (t ∷ ts) [] = ⊥
  Plain (t ∷ ts) (g ∷ gs) = IsPush t.call × ((g.answer < 3) ⊎ ((6 ≤ g.answer) × (g.answer < 10))) × Plain ts gs
