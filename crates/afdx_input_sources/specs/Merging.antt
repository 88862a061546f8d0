-- What comes of two sources as one, by time. The head of each is looked for, that of the first
-- first. What has no time, and a fault, come as soon as they are found. Else the earlier item
-- comes, that of the first where both have the same time.
use Rattle.std.specs.Prelude.{ℕ, Bool, true, false, nat_lt, List, [], ◌∷◌, Option, Some, None, if◌then◌else◌}
use Rattle.afdx_input_lines.specs.declared.fault.RunFault.{RunFault}
use Rattle.afdx_input_sources.specs.declared.merged.Nth.{Nth}
use Rattle.afdx_input_sources.specs.declared.merged.Nth.TheVariants.{First, Second}

-- when an item of either source comes, if it has a time, and what it is as one of both
pub record ByTime (X Z : Type 0) : Type 0 where
  pub time : X → Option ℕ
  pub as_one : Nth → X → Z

-- items that come, the next one first, and the fault that stands behind them
pub record Coming (X : Type 0) : Type 0 where
  pub next : List X
  pub fault : Option RunFault

-- items of both, the newest first, and the fault that stands behind them
pub record Merged (Z : Type 0) : Type 0 where
  pub items : List Z
  pub fault : Option RunFault

abbrev pub merged_as : {Z : Type 0} → List Z → Option RunFault → Merged Z
merged_as past fault = record { items = past; fault = fault }

-- of the second, what comes at this time comes before what has that time
abbrev pub is_earlier : Option ℕ → Option ℕ → Bool
is_earlier (Some y) (Some x) = nat_lt y x
is_earlier None (Some x) = true
is_earlier y None = false

-- the first is at its end: what is left of the second
unfoldable pub rest_of_second : {X Z : Type 0} → ByTime X Z → List Z → List X → Option RunFault →
    Merged Z
rest_of_second by past [] fault = merged_as past fault
rest_of_second by past (y ∷ ys) fault = rest_of_second by (by.as_one Second y ∷ past) ys fault

abbrev pub behind_first : {X Z : Type 0} → ByTime X Z → List Z → Option RunFault → List X →
    Option RunFault → Merged Z
behind_first by past (Some fault) ys fault_y = merged_as past (Some fault)
behind_first by past None ys fault_y = rest_of_second by past ys fault_y

-- one of this time stands at the head of the first; `next` is what comes once it is taken
unfoldable pub at_head : {X Z : Type 0} → ByTime X Z → ℕ → X →
    (next : List Z → List X → Merged Z) → List Z → List X → Option RunFault → Merged Z
at_head by t x next past [] (Some fault) = merged_as past (Some fault)
at_head by t x next past [] None = next (by.as_one First x ∷ past) []
at_head by t x next past (y ∷ ys) fault =
    if is_earlier (by.time y) (Some t) then at_head by t x next (by.as_one Second y ∷ past) ys fault
    else next (by.as_one First x ∷ past) (y ∷ ys)

abbrev pub if_timed : {M : Type 0} → Option ℕ → (timed : ℕ → M) → (at_once : M) → M
if_timed (Some t) timed at_once = timed t
if_timed None timed at_once = at_once

-- what comes of the first and of the second, behind these
unfoldable pub merge : {X Z : Type 0} → ByTime X Z → List Z → List X → Option RunFault → List X →
    Option RunFault → Merged Z
merge by past [] fault_x ys fault_y = behind_first by past fault_x ys fault_y
merge by past (x ∷ xs) fault_x ys fault_y =
    if_timed (by.time x)
    (λ t. at_head by t x (λ before ys. merge by before xs fault_x ys fault_y) past ys fault_y)
    (merge by (by.as_one First x ∷ past) xs fault_x ys fault_y)

-- the two as one
abbrev pub merged : {X Z : Type 0} → ByTime X Z → Coming X → Coming X → Merged Z
merged by first second = merge by [] first.next first.fault second.next second.fault
