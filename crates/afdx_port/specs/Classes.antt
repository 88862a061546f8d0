-- The entries of one class, in the order in which they have their turns.
use Rattle.std.specs.Prelude.{◌≡◌, ℕ, ◌+◌, Bool, true, if◌then◌else◌, List, [], ◌∷◌, ◌++◌, filter, Some, slice_get}
use Rattle.afdx_frame.specs.declared.link.Priority.{Priority}
use Rattle.afdx_port.specs.Schedule.{Entry, Turn, has_turn}

module _ {X : Type 0} where
  -- the entries of these turns, in the order of the turns. A list of turns has the latest first
  abbrev pub entries_in : List (Turn X) → List (Entry X)
  entries_in [] = []
  entries_in (s ∷ earlier) = entries_in earlier ++ s.entry ∷ []

  -- the entries that have none of these turns. The first entry stands at this place
  abbrev pub without_turn : List (Turn X) → ℕ → List (Entry X) → List (Entry X)
  without_turn turns place [] = []
  without_turn turns place (e ∷ es) =
      if has_turn turns place then without_turn turns (place + 1) es
      else e ∷ without_turn turns (place + 1) es

  -- those of the entries that pass a test, as the frames of one link, are all of one class
  abbrev pub AreOfOneClass : (Entry X → Bool) → List (Entry X) → Type 0
  AreOfOneClass test entries = (c : Priority)
      × ((place : ℕ) (e : Entry X) → slice_get entries place ≡ Some e → test e ≡ true →
      e.priority ≡ c)

  -- frames of one class have their turns in the order in which they came: those with a turn first,
  -- then those without
  abbrev pub GoInOrder : (Entry X → Bool) → List (Entry X) → List (Turn X) → Type 0
  GoInOrder test entries turns =
      filter test entries ≡ filter test (entries_in turns)
      ++ filter test (without_turn turns 0 entries)
