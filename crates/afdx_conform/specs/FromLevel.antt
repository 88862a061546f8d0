-- What the window rule says where nothing is known of the account at the start, but that it lacked
-- no more than its cap. Lists have the newest first.
use Rattle.std.specs.Prelude.{◌≡◌, ℕ, ◌+◌, ◌*◌, ◌-◌, ◌<◌, ◌≤◌, ◌↔◌, Bool, true, false, Some, List, [], ◌∷◌}
use Rattle.afdx_police.specs.Arrival.{Arrival}
use Rattle.afdx_conform.specs.Explanations.{Answered, arrivals_in, last_time, link, charge, AreAllowed}
use Rattle.afdx_conform.specs.Levels.{parts, full, cost}
use Rattle.afdx_conform.specs.Streams.{Terms}

module _ (z : Terms) where
  -- an account that lacks `level` gives this answer on the arrival, and lacks `next` then
  abbrev pub Decides : ℕ → Bool → Arrival → ℕ → Type 0
  Decides level true x next = (level + cost (link z) z.by (charge z x) ≤ full (link z) z.by)
      × (next ≡ level + cost (link z) z.by (charge z x))
  Decides level false x next = (full (link z) z.by < level + cost (link z) z.by (charge z x))
      × (next ≡ level)

  -- it is filled until the arrival comes
  abbrev pub filled : ℕ → List Answered → Arrival → ℕ
  filled level before x =
      level - (link z).smax * parts * (x.time - last_time z.by (arrivals_in before))

  -- an account that lacked `first` at the start gives these answers, and lacks `level` then
  unfoldable pub Leads : ℕ → List Answered → ℕ → Type 0
  Leads first [] level = level ≡ first
  Leads first (x ∷ before) level = (past : ℕ) × Leads first before past
      × Decides (filled past before x.arrival) x.accepted x.arrival level

  -- some account does
  pub record SomeLeads (answers : List Answered) : Type 0 where
    pub first : ℕ
    pub level : ℕ
    pub within : first ≤ full (link z) z.by
    pub leads : Leads first answers level

-- with exact stamps and clocks, answers are allowed exactly where some account at the start, which
-- lacked no more than its cap, gives them
abbrev pub AllowedIsSomeAccount : Type 0
AllowedIsSomeAccount =
    (z : Terms) (answers : List Answered) (start : ℕ) →
    z.by.slack ≡ 0 →
    z.by.drift ≡ 0 →
    z.by.asked ≡ 0 →
    z.by.start ≡ Some start →
    AreAllowed z answers ↔ SomeLeads z answers
