-- The account of a way of several switches: one level that is at least as near its cap as that of
-- each switch. Lists have the newest first.
use Rattle.std.specs.Prelude.{ℕ, ◌+◌, ◌*◌, ◌-◌, ◌≤◌, Bool, true, min, max, List, [], ◌∷◌, if◌then◌else◌}

-- the highest level of an account: its cap, up to where a frame that is charged raises it at least,
-- and at most
pub record Account : Type 0 where
  pub cap : ℕ
  pub floor : ℕ
  pub ceiling : ℕ

-- an arrival of a way: so many ns after the one before, it costs so much; and whether a switch
-- charged it
pub record Passing : Type 0 where
  pub gap : ℕ
  pub cost : ℕ
  pub charged : Bool

abbrev pub after_charge : Account → ℕ → ℕ → ℕ
after_charge a cost level = min (max level a.floor + cost) a.ceiling

-- levels fall by so much a ns; at first they are this
module _ (fall first : ℕ) where
  -- the level of a switch: a frame that it refused, or that didn't come to it, isn't charged
  unfoldable pub own_level : Account → List Passing → ℕ
  own_level a [] = min first a.ceiling
  own_level a (x ∷ past) = if x.charged then after_charge a x.cost (own_level a past - fall * x.gap)
      else own_level a past - fall * x.gap

  -- that of the way: each is, as one switch may have charged what another refused
  unfoldable pub way_level : Account → List Passing → ℕ
  way_level w [] = min first w.ceiling
  way_level w (x ∷ past) = after_charge w x.cost (way_level w past - fall * x.gap)

-- the way's account is as near its cap, by its floor and by its ceiling
pub record IsNearer (own way : Account) : Type 0 where
  pub caps : way.cap ≤ own.cap
  pub floors : own.floor + way.cap ≤ way.floor + own.cap
  pub ceilings : own.ceiling + way.cap ≤ way.ceiling + own.cap

-- then its level is, whichever arrivals the switch charged: so what has room by the way's level has
-- room at each switch
abbrev pub WayIsNearer : Type 0
WayIsNearer =
    (fall first : ℕ) (own way : Account) (passed : List Passing) →
    IsNearer own way →
    own_level fall first own passed + way.cap ≤ way_level fall first way passed + own.cap
