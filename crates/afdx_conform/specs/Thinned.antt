-- Of the states only those are kept that no other outdoes.
use Rattle.std.specs.Prelude.{◌≡◌, ◌≤◌, ◌⊎◌, List, [], ◌∷◌}
use Rattle.afdx_conform.specs.Levels.{first_levels}
use Rattle.afdx_conform.specs.Streams.{Gone, Terms}
use Rattle.afdx_conform.specs.Explanations.{link, last_time, levels_then}
use Rattle.afdx_conform.specs.States.{Event, Came, Closing, State, arrivals_came, led_by, kept, are_behind, first_states, states_at, states_after}

-- the state is one of these
abbrev pub IsAmong : State → List State → Type 0
IsAmong s [] = ⊥
IsAmong s (x ∷ more) = (x ≡ s) ⊎ IsAmong s more

-- a state that allows all that another does, with no more arrivals that wait
pub record Outdoes (a b : State) : Type 0 where
  pub rest : a.rest ≡ b.rest
  pub lo : a.levels.lo ≤ b.levels.lo
  pub hi : b.levels.hi ≤ a.levels.hi
  pub waiting : a.waiting ≤ b.waiting

-- one of these outdoes it
pub record IsOutdone (s : State) (few : List State) : Type 0 where
  pub by : State
  pub among : IsAmong by few
  pub outdoes : Outdoes by s

-- these are some of the states, and outdo all
pub record AreEnough (all few : List State) : Type 0 where
  pub among : (s : State) → IsAmong s few → IsAmong s all
  pub outdone : (s : State) → IsAmong s all → IsOutdone s few

-- what is kept after these events, where after each of them states may be dropped
unfoldable pub AreKept : Terms → List Gone → List Event → List State → Type 0
AreKept z ys [] few = AreEnough (first_states z (first_levels (link z) z.by z.by.start) ys) few
AreKept z ys (Came x ∷ before) few = (held : List State) × AreKept z ys before held
    × AreEnough
    (led_by
    (λ s. states_at z x (levels_then z s.levels (last_time z.by (arrivals_came before)) x) s)
    held) few
AreKept z ys (Closing time ∷ before) few = (held : List State) × AreKept z ys before held
    × AreEnough (kept (λ s. are_behind time s.rest) held) few

-- what is kept outdoes all states
abbrev pub KeptAreEnough : Type 0
KeptAreEnough =
    (z : Terms) (ys : List Gone) (events : List Event) (few : List State) →
    AreKept z ys events few →
    AreEnough (states_after z ys events) few
