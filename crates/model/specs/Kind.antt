-- What differs between X.25, CLNP and COTP: how octets are read, what the piece alone is refused for, and what a piece makes
-- of the unit under its key. The store, expiry and room are the same for each.
use Rattle.std.specs.Prelude.{◌≡◌, List, Bool, true, ℕ, Float}
use Rattle.std.proofs.Math.Option.{Option, none, some}

-- before expiry: no piece (6), octets that pass through as they came, or a piece
pub data First (P : Type 0) : Type 0 where
  nothing : First P
  passes : First P
  piece : P → First P

-- the piece alone: fine, an address length over 20 (7), or a total below the header length (8)
pub data Check : Type 0 where
  fine : Check
  address : Check
  total : Check

-- the unit under the piece's key: it ends with these octets, is held so, or the piece is out of turn (9)
pub data Turn (U : Type 0) : Type 0 where
  ends : List ℕ → Turn U
  holds : U → Turn U
  out_of_turn : Turn U

-- the unit of an optional one meets a test
abbrev pub Of : {U : Type 0} → (U → Type 0) → Option U → Type 0
Of G none = Unit
Of G (some u) = G u

pub record Kind : Type 1 where
  -- keys, and when two are the same
  pub K : Type 0
  pub same : K → K → Bool
  pub same_eq : (a b : K) → same a b ≡ true → a ≡ b
  pub same_refl : (a : K) → same a a ≡ true
  -- units: the time of the last piece, and what the unit fills
  pub U : Type 0
  pub time : U → Float
  pub cost : U → ℕ
  -- what the kind asks of a unit under its key: the key's shape, the note's range, not complete
  pub Good : K → U → Type 0
  -- pieces
  pub P : Type 0
  pub key : P → K
  pub first : List ℕ → First P
  pub check : P → Check
  pub turn : P → Float → Option U → Turn U
  -- a unit that is held is good
  pub held-good : (p : P) (now : Float) (o : Option U) (v : U) → check p ≡ fine → Of (Good (key p)) o → turn p now o ≡ holds v → Good (key p) v
