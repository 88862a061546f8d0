-- What is kept of a stream while its events come: the explanations so far, as states. Lists of
-- events have the newest first, frames that are left the next one first.
use Rattle.std.specs.Prelude.{ℕ, ◌+◌, ◌<◌, Bool, ⊤, nat_lt, List, [], ◌∷◌, ◌++◌, if◌then◌else◌}
use Rattle.std.specs.List.{list_all}
use Rattle.afdx_police.specs.Arrival.{Arrival}
use Rattle.afdx_conform.specs.Leeway.{reach}
use Rattle.afdx_conform.specs.Levels.{Levels, first_levels, may_pass, has_to_pass, charged, refused}
use Rattle.afdx_conform.specs.Streams.{Gone, Terms, fits, is_open, is_begun}
use Rattle.afdx_conform.specs.Explanations.{link, charge, last_time, levels_then}

-- an arrival without a fault in its shape came; or the frames of up to this time have to be
-- explained
pub data Event : Type 0 where
  Came : Arrival → Event
  Closing : ℕ → Event

-- the frames that aren't explained yet, the account's levels at the last arrival, how many accepted
-- arrivals wait
pub record State : Type 0 where
  pub rest : List Gone
  pub levels : Levels
  pub waiting : ℕ

abbrev pub state_with : List Gone → Levels → ℕ → State
state_with rest levels waiting = record { rest = rest; levels = levels; waiting = waiting }

-- the arrivals among the events
abbrev pub arrivals_came : List Event → List Arrival
arrivals_came [] = []
arrivals_came (Came x ∷ before) = x ∷ arrivals_came before
arrivals_came (Closing time ∷ before) = arrivals_came before

-- of each of some states those that it leads to
unfoldable pub led_by : (State → List State) → List State → List State
led_by lead [] = []
led_by lead (s ∷ more) = lead s ++ led_by lead more

-- those of some states that pass a test
unfoldable pub kept : (State → Bool) → List State → List State
kept test [] = []
kept test (s ∷ more) = if test s then s ∷ kept test more else kept test more

-- none of these frames is of this time or before it
unfoldable pub are_behind : ℕ → List Gone → Bool
are_behind time rest = list_all (λ y. nat_lt time y.time) rest

module _ (z : Terms) where
  -- one for each number of frames that may be of arrivals before the start
  unfoldable pub first_states : Levels → List Gone → List State
  first_states levels [] = state_with [] levels 0 ∷ []
  first_states levels (y ∷ rest) = state_with (y ∷ rest) levels 0
      ∷ (if is_begun z y then first_states levels rest else [])

  -- where the arrival is accepted: the next frame is its, or no frame is left and it waits
  abbrev pub accepted_states : Arrival → Levels → ℕ → List Gone → List State
  accepted_states x levels waiting [] =
      if is_open z x then state_with [] levels (waiting + 1) ∷ [] else []
  accepted_states x levels waiting (y ∷ rest) =
      if fits z x y then state_with rest levels waiting ∷ [] else []

  -- where an arrival leads to from a state, at these levels
  unfoldable pub states_at : Arrival → Levels → State → List State
  states_at x levels s =
      (if may_pass (link z) z.by (charge z x) levels
      then accepted_states x (charged (link z) z.by (charge z x) levels) s.waiting s.rest else [])
      ++ (if has_to_pass (link z) z.by (charge z x) levels then []
      else state_with s.rest (refused (link z) z.by (charge z x) levels) s.waiting ∷ [])

  -- all states after these events, of which the frames `ys` are explained
  unfoldable pub states_after : List Gone → List Event → List State
  states_after ys [] = first_states (first_levels (link z) z.by z.by.start) ys
  states_after ys (Came x ∷ before) =
      led_by
      (λ s. states_at x (levels_then z s.levels (last_time z.by (arrivals_came before)) x) s)
      (states_after ys before)
  states_after ys (Closing time ∷ before) =
      kept (λ s. are_behind time s.rest) (states_after ys before)

  -- the arrival comes behind these closings, by its own time
  unfoldable pub IsBehindClosings : Arrival → List Event → Type 0
  IsBehindClosings x [] = ⊤
  IsBehindClosings x (Came w ∷ before) = IsBehindClosings x before
  IsBehindClosings x (Closing time ∷ before) =
      (time + reach z.by < x.time) × IsBehindClosings x before

  -- events go by time, arrivals first
  unfoldable pub AreInOrder : List Event → Type 0
  AreInOrder [] = ⊤
  AreInOrder (Came x ∷ before) = IsBehindClosings x before × AreInOrder before
  AreInOrder (Closing time ∷ before) = AreInOrder before
