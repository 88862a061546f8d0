-- The place of one interface, by the word that names it.
use Rattle.std.specs.Prelude.{ℕ, ◌≡◌, List, Option, Some, None}
use Rattle.std.specs.List.{Any}
use Rattle.afdx_frame.specs.declared.link.Side.{Side}
use Rattle.afdx_input_sources.specs.Places.{place_of}
use Rattle.afdx_input_sources.specs.declared.places.Interfaces.{Interfaces}
use Rattle.afdx_input_sources.specs.declared.places.TapPoint.TheVariants.{LeftOut, Left}
use Rattle.afdx_command_words.specs.PlaceSaid.{IsWord, Spot}
use Rattle.afdx_command_words.specs.Placed.{AreCame, AreGone, place_on}
use Rattle.afdx_command_words.specs.WordLaws.{spot_with}

-- one of some words says this of an interface
abbrev pub IsSaid : (words : List (List ℕ)) → (k : ℕ) → Option Spot → Type 0
IsSaid words k spot = Any (λ word. IsWord word k spot) words

-- of the words of `--interface`
module _ (words : List (List ℕ)) (interfaces : Interfaces) (k : ℕ) where
  -- a word with a side, and perhaps a port, puts its interface there
  abbrev pub SaidIsThere : Type 0
  SaidIsThere = (side : Side) (port : Option ℕ) → IsSaid words k (spot_with side None port) →
      place_of interfaces k ≡ Some (place_on side port)

  -- a word with `-` leaves it out
  abbrev pub SaidIsOut : Type 0
  SaidIsOut = IsSaid words k None → place_of interfaces k ≡ Some LeftOut

  -- an interface that no word names has no place
  abbrev pub UnsaidIsNowhere : Type 0
  UnsaidIsNowhere = ((spot : Option Spot) → IsSaid words k spot → ⊥) →
      place_of interfaces k ≡ None

  -- of those of `--left`: it says a port at which frames left
  abbrev pub SaidIsLeft : Type 0
  SaidIsLeft = (side : Side) (port : ℕ) → IsSaid words k (spot_with side None (Some port)) →
      place_of interfaces k ≡ Some (Left side port)

-- where the words of `--interface` or those of `--left` are taken
pub record WordsArePlaces : Type 0 where
  pub there : (words : List (List ℕ)) (interfaces : Interfaces) (k : ℕ) →
      AreCame words interfaces → SaidIsThere words interfaces k
  pub out : (words : List (List ℕ)) (interfaces : Interfaces) (k : ℕ) →
      AreCame words interfaces → SaidIsOut words interfaces k
  pub nowhere : (words : List (List ℕ)) (interfaces : Interfaces) (k : ℕ) →
      AreCame words interfaces → UnsaidIsNowhere words interfaces k
  pub left : (words : List (List ℕ)) (interfaces : Interfaces) (k : ℕ) →
      AreGone words interfaces → SaidIsLeft words interfaces k
