-- A store of one kind. The pool knows no packets: the kind's number, its own test of a unit and how it reads one are parameters.
use Rattle.std.specs.Prelude.{ℕ, ◌+◌, ◌*◌, ◌≤◌, ◌<◌, ◌≡◌, Bool, true, cond, ◌&&◌, List, [], ◌∷◌, ◌++◌, eqb, ltb, Float, length, get_or, set}
use Rattle.model.specs.Kind.{Kind}
use Rattle.model.specs.Store.{Settings, Pend}
use Rattle.chain.specs.Chain.{homed}
use Rattle.tables.specs.Tables.{links, blocks_in, reserve, cap, count, units, place_ok, costs, settings_ok, used_of}
use Rattle.pool.specs.View.{Unit, pend, sound}
use Rattle.pool.specs.Shares.{cost_of}

-- every unit of a link, and of every link, passes a test
unfoldable pub pass_u : (Unit → Bool) → List Unit → Bool
pass_u test [] = true
pass_u test (u ∷ us) = test u && pass_u test us

unfoldable pub passing : (Unit → Bool) → List (List Unit) → Bool
passing test [] = true
passing test (us ∷ st) = pass_u test us && passing test st

-- the soundness test of a store of a kind
unfoldable pub sound_of : ℕ → (Unit → Bool) → List ℕ → List Float → List ℕ → List ℕ → List ℕ → Bool
sound_of kind test w t list home bs = sound w t list home bs && (eqb (get_or w 0 0) kind && passing test (pend w t list bs))

-- a test that every unit passes
abbrev pub any_unit : Unit → Bool
any_unit u = true

-- tables and chains spell pending units, whatever the share rules say of these
pub record Spelt (w : List ℕ) (t : List Float) (list home bs : List ℕ) : Type 0 where
  pub long : 1576 ≤ length w
  pub times : 128 ≤ length t
  pub listed : blocks_in w ≤ length list
  pub homes : blocks_in w ≤ length home
  pub room : 64 * blocks_in w ≤ length bs
  pub allowed : settings_ok w ≡ true
  -- each part's stored count is what it costs, each link's the sum of its units', and links past the last have nothing
  pub parts : (l j : ℕ) → l < links w → j < units w l → place_ok w (8 * l + j) ≡ true
  pub counts : (l : ℕ) → l < links w → count w l ≡ costs w (8 * l) (units w l)
  pub past : (l : ℕ) → links w ≤ l → l < 16 → (units w l ≡ 0) × (count w l ≡ 0)
  -- the blocks in use are the store's, and none is used twice
  pub there : used_of w (links w) ≤ blocks_in w
  pub chain : homed home list (blocks_in w) (used_of w (links w)) ≡ true

-- the settings of a store
abbrev pub settings_of : List ℕ → Settings
settings_of w = record { links = links w; blocks = blocks_in w; reserve = reserve w; cap = cap w }

-- how a kind reads the units that pass its test
pub record Reading (Z : Kind) : Type 1 where
  pub test : Unit → Bool
  pub reads : Unit → Pend Z
  pub times : (u : Unit) → Z.time (reads u).it ≡ u.time
  pub costs : (u : Unit) → test u ≡ true → Z.cost (reads u).it ≡ cost_of u
  pub good : (u : Unit) → test u ≡ true → Z.Good (reads u).key (reads u).it
  pub keys : (u v : Unit) → test u ≡ true → test v ≡ true → (reads u).key ≡ (reads v).key → u.key ≡ v.key
  pub same : (u v : Unit) → u.key ≡ v.key → (reads u).key ≡ (reads v).key

-- unit r of a link's units is v, or v is behind them where there is no such unit
abbrev pub placed : List Unit → ℕ → Unit → List Unit
placed us r v = cond (ltb r (length us)) (set us r v) (us ++ (v ∷ []))
