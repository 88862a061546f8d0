-- The level of a way is at least as near its cap as that of each switch.
use Rattle.std.proofs.Common.{◌≡◌, ℕ, ◌+◌, ◌*◌, ◌-◌, ◌≤◌, Bool, true, false, List, [], ◌∷◌, refl, arith}
use Rattle.std.specs.Prelude.{min, max, if◌then◌else◌}
use Rattle.afdx_conform.specs.Ways.{Account, Passing, after_charge, own_level, way_level, IsNearer}

module _ (fall first : ℕ) (own way : Account) (near : IsNearer own way) where
  -- no level is over its ceiling
  under : (passed : List Passing) → own_level fall first own passed ≤ own.ceiling
  unfolding own_level
  under [] = omega arith
  under (x ∷ past) = at x.charged (under past)
    where
      at : (b : Bool) → own_level fall first own past ≤ own.ceiling
          → (if b then after_charge own x.cost (own_level fall first own past - fall * x.gap)
          else own_level fall first own past - fall * x.gap) ≤ own.ceiling
      at true older = omega arith
      at false older = omega (arith, older)

  charged_step : (cost fallen a w : ℕ) → a + way.cap ≤ w + own.cap →
      after_charge own cost (a - fallen) + way.cap ≤ after_charge way cost (w - fallen) + own.cap
  charged_step cost fallen a w h = omega (arith, h, near.caps, near.floors, near.ceilings)

  other_step : (cost fallen a w : ℕ) → a ≤ own.ceiling → a + way.cap ≤ w + own.cap →
      (a - fallen) + way.cap ≤ after_charge way cost (w - fallen) + own.cap
  other_step cost fallen a w most h = omega (arith, most, h, near.caps, near.floors, near.ceilings)

  nearer : (passed : List Passing) →
      own_level fall first own passed + way.cap ≤ way_level fall first way passed + own.cap
  unfolding own_level way_level
  nearer [] = omega (arith, near.caps, near.ceilings)
  nearer (x ∷ past) = at x.charged (nearer past)
    where
      at : (b : Bool) → own_level fall first own past + way.cap ≤ way_level fall first way past + own.cap
          → (if b then after_charge own x.cost (own_level fall first own past - fall * x.gap)
          else own_level fall first own past - fall * x.gap) + way.cap
          ≤ after_charge way x.cost (way_level fall first way past - fall * x.gap) + own.cap
      at true older = charged_step x.cost (fall * x.gap) (own_level fall first own past)
          (way_level fall first way past) older
      at false older = other_step x.cost (fall * x.gap) (own_level fall first own past) (way_level fall first way past)
          (under past) older

pub way_is_nearer : (fall first : ℕ) (own way : Account) (passed : List Passing) → IsNearer own way →
    own_level fall first own passed + way.cap ≤ way_level fall first way passed + own.cap
way_is_nearer fall first own way passed near = nearer fall first own way near passed
