-- The states that the code holds.
use Rattle.std.specs.Prelude.{◌≡◌, ◌<◌, ◌≤◌, ℕ, All, IsTrue, Bool, false, ⊤, not, ◌&&◌, nat_eq, nat_le, List, [], ◌∷◌, ◌++◌, drop, take, length, if◌then◌else◌}
use Rattle.std.specs.List.{AllByRecursion, list_any, filter}
use Rattle.afdx_conform.specs.Ranges.{most_held}
use Rattle.afdx_police.specs.Arrival.{Arrival}
use Rattle.afdx_conform.specs.Explanations.{link, charge}
use Rattle.afdx_conform.specs.Levels.{Levels, may_pass, has_to_pass, charged, refused}
use Rattle.afdx_conform.specs.States.{State, state_with, accepted_states, are_behind}
use Rattle.afdx_conform.specs.Streams.{Gone, Terms, fits, is_open}
use Rattle.afdx_conform.specs.Accounts.{AreLevels, AreNear}
use Rattle.afdx_conform.specs.declared.levels.Rates.{Rates}
use Rattle.afdx_conform.specs.declared.states.Case.{Case}
use Rattle.afdx_conform.specs.declared.states.StreamState.{StreamState}
use Rattle.afdx_conform.specs.declared.states.NextFrame.{NextFrame}
use Rattle.afdx_conform.specs.declared.states.NextFrame.TheVariants.{Fits, Other, Open, Over}

-- of these frames, of which some are explained
abbrev pub state_of : List Gone → StreamState → State
state_of ys held = state_with (drop held.passed ys) held.levels held.waiting

-- the same, where so many frames are explained
abbrev pub past : ℕ → StreamState → StreamState
past passed held = record { passed = passed; levels = held.levels; waiting = held.waiting }

-- that is what stands next for an arrival
abbrev pub IsNext : Terms → Arrival → List Gone → NextFrame → Type 0
IsNext z x [] Fits = ⊥
IsNext z x [] Other = ⊥
IsNext z x [] Open = IsTrue (is_open z x)
IsNext z x [] Over = is_open z x ≡ false
IsNext z x (y ∷ rest) Fits = IsTrue (fits z x y)
IsNext z x (y ∷ rest) Other = fits z x y ≡ false
IsNext z x (y ∷ rest) Open = ⊥
IsNext z x (y ∷ rest) Over = ⊥

-- the two halves of where an arrival leads to
abbrev pub states_if_accepted : Terms → Arrival → Levels → ℕ → List Gone → List State
states_if_accepted z x levels waiting rest =
    if may_pass (link z) z.by (charge z x) levels
    then accepted_states z x (charged (link z) z.by (charge z x) levels) waiting rest else []

abbrev pub states_if_refused : Terms → Arrival → Levels → ℕ → List Gone → List State
states_if_refused z x levels waiting rest =
    if has_to_pass (link z) z.by (charge z x) levels then []
    else state_with rest (refused (link z) z.by (charge z x) levels) waiting ∷ []

-- the numbers of a state are small, and its levels those of an account
pub record IsSmall (rates : Rates) (held : StreamState) : Type 0 where
  pub passed : held.passed < most_held
  pub waiting : held.waiting < most_held
  pub levels : AreLevels rates held.levels

-- a state of so many frames at most, and so many arrivals
pub record IsWithin (rates : Rates) (frames count : ℕ) (held : StreamState) : Type 0 where
  pub passed : held.passed ≤ frames
  pub waiting : held.waiting ≤ count
  pub levels : AreLevels rates held.levels
  pub near : AreNear rates held.levels

abbrev pub AreWithin : Rates → (frames count : ℕ) → List StreamState → Type 0
AreWithin rates frames count held = All (λ h. IsWithin rates frames count h) held

-- with what stands next in it: a frame that fits is one of these
pub record IsCaseWithin (rates : Rates) (frames count : ℕ) (case : Case) : Type 0 where
  pub held : IsWithin rates frames count case.held
  pub left : case.next ≡ Fits → case.held.passed < frames

-- so many frames are of this time or before, the others behind it
pub record AreClosed (time passed : ℕ) (ys : List Gone) : Type 0 where
  pub within : passed ≤ length ys
  pub closed : AllByRecursion (λ y. y.time ≤ time) (take passed ys)
  pub behind : IsTrue (are_behind time (drop passed ys))

-- a state that allows all that another does, with no more arrivals that wait
unfoldable pub outdoes : StreamState → StreamState → Bool
outdoes a b = nat_eq a.passed b.passed && nat_le a.levels.lo b.levels.lo
    && nat_le b.levels.hi a.levels.hi && nat_le a.waiting b.waiting

-- one more is kept where none outdoes it, in place of those that it outdoes
unfoldable pub kept_with : StreamState → List StreamState → List StreamState
kept_with s held = if list_any (λ x. outdoes x s) held then held
    else filter (λ x. not (outdoes s x)) held ++ (s ∷ [])

-- none of these outdoes another
unfoldable pub AreFront : List StreamState → Type 0
AreFront [] = ⊤
AreFront (x ∷ xs) =
    AllByRecursion (λ y. (outdoes x y ≡ false) × (outdoes y x ≡ false)) xs × AreFront xs
