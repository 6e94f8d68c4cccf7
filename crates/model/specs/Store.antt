-- The store as document 01 has it: the pending units of each link, in order of admission, and what each call makes of them.
-- A store whose memory is damaged (4) has no pending units to speak of: that answer is the entry points' own.
use Rattle.std.specs.Prelude.{◌≡◌, List, [], ◌∷◌, cond, ℕ, ◌+◌, ◌-◌, ◌*◌, ◌≤◌, length, get_or, set, replicate, eqb, ltb, Float}
use Rattle.std.proofs.Math.Option.{Option, none, some}
use Rattle.clock.specs.Time.{fresh_t}
use Rattle.model.specs.Kind.{First, nothing, passes, piece, Check, fine, address, total, Turn, ends, holds, out_of_turn, Kind}

pub record Settings : Type 0 where
  pub links : ℕ
  pub blocks : ℕ
  pub reserve : ℕ
  pub cap : ℕ

-- anything else is 14
pub record Allowed (s : Settings) : Type 0 where
  pub one_link : 1 ≤ s.links
  pub most_links : s.links ≤ 16
  pub one_block : 1 ≤ s.blocks
  pub most_blocks : s.blocks ≤ 1024
  pub low : s.reserve ≤ s.cap
  pub high : s.cap ≤ s.blocks
  pub cover : s.links * s.reserve ≤ s.blocks

-- the common rest
abbrev pub rest : Settings → ℕ
rest s = s.blocks - s.links * s.reserve

module _ (Z : Kind) where
  -- a pending unit under its key
  pub record Pend : Type 0 where
    pub key : Z.K
    pub it : Z.U

  abbrev pub Units : Type 0
  Units = List Pend

  -- the units of each link
  abbrev pub Links : Type 0
  Links = List Units

  -- ---- a link's units
  -- expiry: those that stay at a time
  abbrev pub keep : Float → Units → Units
  keep now [] = []
  keep now (u ∷ us) = cond (fresh_t now (Z.time u.it)) (u ∷ keep now us) (keep now us)

  abbrev pub lookup : Z.K → Units → Option Z.U
  lookup k [] = none
  lookup k (u ∷ us) = cond (Z.same u.key k) (some u.it) (lookup k us)

  -- in the place of the unit of its key, or behind the others
  abbrev pub admit : Pend → Units → Units
  admit v [] = v ∷ []
  admit v (u ∷ us) = cond (Z.same u.key v.key) (v ∷ us) (u ∷ admit v us)

  abbrev pub remove : Z.K → Units → Units
  remove k [] = []
  remove k (u ∷ us) = cond (Z.same u.key k) (remove k us) (u ∷ remove k us)

  -- ---- shares
  abbrev pub in_use : Units → ℕ
  in_use [] = 0
  in_use (u ∷ us) = Z.cost u.it + in_use us

  abbrev pub excess : ℕ → Units → ℕ
  excess r us = in_use us - r

  abbrev pub excesses : ℕ → Links → ℕ
  excesses r [] = 0
  excesses r (l ∷ ls) = excess r l + excesses r ls

  -- room for the units w of a link, judged on all links' units with them: 2, or the refusal
  unfoldable pub room : Settings → Links → ℕ → Units → ℕ
  room s st link w =
      cond (ltb 8 (length w)) 11
      (cond (ltb s.cap (in_use w)) 12
      (cond (ltb (rest s) (excesses s.reserve (set st link w))) 13 2))

  -- ---- calls
  pub data Call : Type 0 where
    push : ℕ → Float → List ℕ → ℕ → Call
    tidy : ℕ → Float → Call
    close : ℕ → Call

  pub record Result : Type 0 where
    pub answer : ℕ
    pub out : List ℕ
    pub store : Links

  abbrev pub answered : ℕ → Links → Result
  answered a st = record { answer = a; out = []; store = st }

  -- octets for an output of so much space: 10, or the answer a with them and the store st'
  abbrev pub delivered : ℕ → ℕ → List ℕ → Links → Links → Result
  delivered space a x st st' = cond (ltb space (length x)) (answered 10 st) (record { answer = a; out = x; store = st' })

  -- the units of a link, where room says 2
  abbrev pub admitted : ℕ → Links → Links → Result
  admitted a st st' = answered a (cond (eqb a 2) st' st)

  -- after expiry left the units us: 9, 10, 11, 12, 13, then 0 or 2
  unfoldable pub turned : Settings → Links → ℕ → Units → ℕ → Z.K → Turn Z.U → Result
  turned s st link us space k (ends x) = delivered space 0 x (set st link us) (set st link (remove k us))
  turned s st link us space k (holds v) =
      let w = admit (record { key = k; it = v }) us in
      admitted (room s st link w) (set st link us) (set st link w)
  turned s st link us space k out_of_turn = answered 9 (set st link us)

  -- after expiry left the units us: 7, 8, and then the turn
  unfoldable pub checked : Settings → Links → ℕ → Units → Float → ℕ → Z.P → Check → Result
  checked s st link us now space p fine = turned s st link us space (Z.key p) (Z.turn p now (lookup (Z.key p) us))
  checked s st link us now space p address = answered 7 (set st link us)
  checked s st link us now space p total = answered 8 (set st link us)

  -- 6, pass-through with its 10, and then expiry
  unfoldable pub begun : Settings → Links → ℕ → Float → List ℕ → ℕ → First Z.P → Result
  begun s st link now x space nothing = answered 6 st
  begun s st link now x space passes = delivered space 1 x st st
  begun s st link now x space (piece p) = checked s st link (keep now (get_or st link [])) now space p (Z.check p)

  -- 5 for a link that is none
  abbrev pub on_link : Settings → Links → ℕ → Result → Result
  on_link s st link r = cond (ltb link s.links) r (answered 5 st)

  unfoldable pub step : Settings → Links → Call → Result
  step s st (push link now x space) =
      cond (ltb 65535 (length x)) (answered 3 st) (on_link s st link (begun s st link now x space (Z.first x)))
  step s st (tidy link now) = on_link s st link (answered 16 (set st link (keep now (get_or st link []))))
  step s st (close link) = on_link s st link (answered 16 (set st link []))

  -- a new store, and the store after any calls
  abbrev pub fresh : Settings → Links
  fresh s = replicate s.links []

  abbrev pub run : Settings → Links → List Call → Links
  run s st [] = st
  run s st (c ∷ cs) = run s (step s st c).store cs

  -- ---- what every store has that is reached from a fresh one
  -- no key twice
  abbrev pub Uniq : Units → Type 0
  Uniq [] = Unit
  Uniq (u ∷ us) = (lookup u.key us ≡ none) × Uniq us

  abbrev pub AllGood : Units → Type 0
  AllGood [] = Unit
  AllGood (u ∷ us) = Z.Good u.key u.it × AllGood us

  pub record Fine (s : Settings) (us : Units) : Type 0 where
    pub few : length us ≤ 8
    pub capped : in_use us ≤ s.cap
    pub uniq : Uniq us
    pub good : AllGood us

  abbrev pub Every : (Units → Type 0) → Links → Type 0
  Every Q [] = Unit
  Every Q (l ∷ ls) = Q l × Every Q ls

  pub record Sound (s : Settings) (st : Links) : Type 0 where
    pub count : length st ≡ s.links
    pub each : Every (Fine s) st
    pub common : excesses s.reserve st ≤ rest s
