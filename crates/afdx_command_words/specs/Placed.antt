-- Where the words of `--interface` and `--left` put the interfaces of a recording.
use Rattle.std.specs.Prelude.{ℕ, ◌≡◌, ◌⊎◌, ◌++◌, ⊤, List, Option, Some, None, slice_get}
use Rattle.std.specs.List.{AllByRecursion, Any}
use Rattle.afdx_frame.specs.declared.link.Side.{Side}
use Rattle.afdx_input_sources.specs.Places.{names_of, place_of, places_but}
use Rattle.afdx_input_sources.specs.declared.places.Interfaces.{Interfaces}
use Rattle.afdx_input_sources.specs.declared.places.TapPoint.{TapPoint}
use Rattle.afdx_input_sources.specs.declared.places.TapPoint.TheVariants.{LeftOut, OnSide, AtPort}
use Rattle.afdx_input_sources.specs.declared.places.TapPoint.TheVariants.{AtNamed, Left}
use Rattle.afdx_command_words.specs.PlaceSaid.{IsWord, Spot}

-- on a side or, if a port is said, at that one
abbrev pub place_on : Side → (port : Option ℕ) → TapPoint
place_on side None = OnSide side
place_on side (Some port) = AtPort side port

-- a place on a side, where these are the names of switches
abbrev pub IsAt : (names : List (List ℕ)) → Side → (switch : Option (List ℕ)) →
    (port : Option ℕ) → TapPoint → Type 0
IsAt names side None port place = place ≡ place_on side port
IsAt names side (Some switch) port place =
    (number : ℕ) × (slice_get names number ≡ Some switch) × (place ≡ AtNamed side number port)

-- frames came in at a spot, which is this place; without a spot they are left out
abbrev pub Came : (names : List (List ℕ)) → Option Spot → TapPoint → Type 0
Came names None place = place ≡ LeftOut
Came names (Some spot) place = IsAt names spot.side spot.switch spot.port place

-- frames left at a spot, which is a port, without the name of a switch
abbrev pub Gone : Option Spot → TapPoint → Type 0
Gone spot place = (side : Side) × (port : ℕ)
    × (spot ≡ Some (record { side = side; switch = None; port = Some port }))
    × (place ≡ Left side port)

-- one recording is told of all spots
abbrev pub OfAll : Option Spot → Type 0
OfAll spot = ⊤

-- of two recordings, that of a side is told of spots on it, and of what is left out of both
abbrev pub OfSide : Side → Option Spot → Type 0
OfSide side None = ⊤
OfSide side (Some spot) = spot.side ≡ side

-- of a recording that is told of some spots, each of which is a place
module _ (IsTold : Option Spot → Type 0) (Is : Option Spot → TapPoint → Type 0) where
  -- the interface of a word has the place of its spot
  abbrev pub IsPut : (places : ℕ → Option TapPoint) → (word : List ℕ) → Type 0
  IsPut places word = (k : ℕ) × (spot : Option Spot) × IsWord word k spot
      × (IsTold spot → (place : TapPoint) × (places k ≡ Some place) × Is spot place)

  -- a word says that an interface has a place
  abbrev pub Says : (k : ℕ) → TapPoint → (word : List ℕ) → Type 0
  Says k place word = (spot : Option Spot) × IsWord word k spot × IsTold spot × Is spot place

  -- the interfaces have the places that these words say, and no others
  pub record ArePut (words : List (List ℕ)) (places : ℕ → Option TapPoint) : Type 0 where
    pub each : AllByRecursion (IsPut places) words
    pub only : (k : ℕ) (place : TapPoint) → places k ≡ Some place → Any (Says k place) words

  -- they have them beside those that they had
  pub record ArePutBeside (words : List (List ℕ)) (before after : ℕ → Option TapPoint)
      : Type 0 where
    pub each : AllByRecursion (IsPut after) words
    pub kept : (k : ℕ) (place : TapPoint) → before k ≡ Some place → after k ≡ Some place
    pub only : (k : ℕ) (place : TapPoint) → after k ≡ Some place →
        (before k ≡ Some place) ⊎ Any (Says k place) words

-- what the words of `--interface` say of one recording, and of that of a side of two
abbrev pub AreCame : (words : List (List ℕ)) → Interfaces → Type 0
AreCame words interfaces = ArePut OfAll (Came (names_of interfaces)) words (place_of interfaces)

abbrev pub AreCameOn : Side → (words : List (List ℕ)) → Interfaces → Type 0
AreCameOn side words interfaces =
    ArePut (OfSide side) (Came (names_of interfaces)) words (place_of interfaces)

-- what those of `--left` say of one recording
abbrev pub AreGone : (words : List (List ℕ)) → Interfaces → Type 0
AreGone words interfaces = ArePut OfAll Gone words (place_of interfaces)

-- what both say of one: the interfaces have the places that these words say, and no others
pub record AreSeen (came left : List (List ℕ)) (interfaces : Interfaces) : Type 0 where
  pub each_came : AllByRecursion
      (IsPut OfAll (Came (names_of interfaces)) (place_of interfaces)) came
  pub each_left : AllByRecursion (IsPut OfAll Gone (place_of interfaces)) left
  pub only : (k : ℕ) (place : TapPoint) → place_of interfaces k ≡ Some place →
      Any (Says OfAll (Came (names_of interfaces)) k place) came
      ⊎ Any (Says OfAll Gone k place) left

-- names were added behind names
abbrev pub Grows : (before after : List (List ℕ)) → Type 0
Grows before after = (more : List (List ℕ)) × (after ≡ before ++ more)

-- a spot is this place, of which the name of a switch was added
pub record IsMeant (before after : Interfaces) (spot : Option Spot) (place : TapPoint)
    : Type 0 where
  pub is : Came (names_of after) spot place
  pub places : after.places ≡ before.places
  pub grown : Grows (names_of before) (names_of after)

-- an interface had no place, and has this one; the others have theirs
pub record IsNew (before after : Interfaces) (k : ℕ) (place : TapPoint) : Type 0 where
  pub free : place_of before k ≡ None
  pub put : (j : ℕ) → place_of after j ≡ places_but (place_of before) k place j
  pub names : names_of after ≡ names_of before

-- the same of the place at which frames came in by a spot, of which names were added
pub record IsNewBy (before after : Interfaces) (k : ℕ) (spot : Option Spot) : Type 0 where
  pub place : TapPoint
  pub is : Came (names_of after) spot place
  pub free : place_of before k ≡ None
  pub put : (j : ℕ) → place_of after j ≡ places_but (place_of before) k place j
  pub grown : Grows (names_of before) (names_of after)

-- the same in the recording of a side, if that is told of the spot
abbrev pub IsNewOn : Side → (before after : Interfaces) → (k : ℕ) → Option Spot → Type 0
IsNewOn side before after k spot = (OfSide side spot × IsNewBy before after k spot)
    ⊎ ((OfSide side spot → ⊥) × (after ≡ before))
