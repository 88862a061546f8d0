-- What may be decided before later frames are known.
use Rattle.std.specs.Prelude.{◌≡◌, ℕ, ◌+◌, ◌<◌, false, ⊤, List, [], ◌∷◌, ◌++◌, map}
use Rattle.std.specs.List.{AllByRecursion}
use Rattle.afdx_conform.specs.Leeway.{reach}
use Rattle.afdx_conform.specs.Streams.{Gone, Terms, latency, is_open, is_begun}
use Rattle.afdx_conform.specs.States.{Event, Came, Closing, State, state_with, states_after}

-- the state, where more frames left later
abbrev pub with_more : List Gone → State → State
with_more more s = state_with (s.rest ++ more) s.levels s.waiting

-- these frames are none of which the events could ask: they left too late for each arrival, of
-- which none is open, they aren't closed, and they aren't begun
unfoldable pub AreBeyond : Terms → List Gone → List Event → Type 0
AreBeyond z more [] = AllByRecursion (λ y. is_begun z y ≡ false) more
AreBeyond z more (Came x ∷ before) = (is_open z x ≡ false)
    × AllByRecursion (λ y. x.time + latency z + reach z.by < y.time) more
    × AreBeyond z more before
AreBeyond z more (Closing time ∷ before) = AllByRecursion (λ y. time < y.time) more
    × AreBeyond z more before

-- such frames change nothing: the states are the same, with these frames behind what is left
abbrev pub LaterFramesChangeNothing : Type 0
LaterFramesChangeNothing =
    (z : Terms) (ys more : List Gone) (events : List Event) →
    AreBeyond z more events →
    states_after z (ys ++ more) events ≡ map (with_more more) (states_after z ys events)

-- the same, seen until another moment
abbrev pub until_then : ℕ → Terms → Terms
until_then until z = record {
  rule = z.rule;
  latency_ns = z.latency_ns;
  byte_ns = z.byte_ns;
  by = z.by;
  until = until;
}

-- none of the arrivals is open
unfoldable pub NoneIsOpen : Terms → List Event → Type 0
NoneIsOpen z [] = ⊤
NoneIsOpen z (Came x ∷ before) = (is_open z x ≡ false) × NoneIsOpen z before
NoneIsOpen z (Closing time ∷ before) = NoneIsOpen z before

-- while none is, the end changes nothing
abbrev pub EndChangesNothing : Type 0
EndChangesNothing =
    (z : Terms) (until : ℕ) (ys : List Gone) (events : List Event) →
    NoneIsOpen z events →
    NoneIsOpen (until_then until z) events →
    states_after (until_then until z) ys events ≡ states_after z ys events
