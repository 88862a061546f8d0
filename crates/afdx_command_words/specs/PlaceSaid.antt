-- What a word `K=PLACE` of `--interface` or `--left` says: an interface, and where it was.
use Rattle.std.specs.Prelude.{ℕ, ◌≡◌, ◌<◌, ◌≤◌, ◌++◌, true, List, [], ◌∷◌, length}
use Rattle.std.specs.Prelude.{Option, Some, None, option_map}
use Rattle.std.specs.List.{list_all}
use Rattle.std.specs.Char.{is_ascii_alphanumeric}
use Rattle.std.specs.Str.Parse.{IsNumeral, digits_value}
use Rattle.afdx_frame.specs.Ports.{last_port}
use Rattle.afdx_frame.specs.declared.link.Side.{Side}
use Rattle.afdx_frame.specs.declared.link.Side.TheVariants.{A, B}
use Rattle.afdx_input_lines.specs.Letters.{hyphen, letter_A, letter_B}
use Rattle.afdx_input_lines.specs.Splitting.{space}
use Rattle.afdx_input_sources.specs.Places.{most_interfaces}
use Rattle.afdx_command_words.specs.declared.place_words.Said.{Said}
use Rattle.afdx_command_words.specs.declared.place_words.Said.TheVariants.{LeftOut, At}

-- an answer is the one value that a text can mean, if it means any
pub record Reads {X : Type 0} (Means : X → Type 0) (answer : Option X) : Type 0 where
  pub given : (value : X) → answer ≡ Some value → Means value
  pub every : (value : X) → Means value → answer ≡ Some value

-- a text writes a number in decimal digits, in so many at most
pub record IsWritten (most : ℕ) (text : List ℕ) (number : ℕ) : Type 0 where
  pub numeral : IsNumeral 10 text
  pub short : length text ≤ most
  pub value : digits_value 10 text ≡ number

-- a text writes a port, in one digit or two
pub record IsPort (text : List ℕ) (port : ℕ) : Type 0 where
  pub number : IsWritten 2 text port
  pub first : 1 ≤ port
  pub last : port ≤ last_port

-- a text can be the name of a switch: it is 1 to 16 letters and digits
pub record IsName (text : List ℕ) : Type 0 where
  pub first : 1 ≤ length text
  pub last : length text ≤ 16
  pub letters : list_all is_ascii_alphanumeric text ≡ true

-- the letter of a side
abbrev pub letter : Side → List ℕ
letter A = letter_A ∷ []
letter B = letter_B ∷ []

-- what stands before a port: `:`
abbrev pub colon : ℕ
colon = 58

-- what stands before a place: `=`
abbrev pub equals_sign : ℕ
equals_sign = 61

-- what stands behind it: nothing, or a space and the name of a switch
abbrev pub IsNamePart : List ℕ → Option (List ℕ) → Type 0
IsNamePart text None = text ≡ []
IsNamePart text (Some name) = (text ≡ space ∷ name) × IsName name

-- and behind that: nothing, or a colon and a port
abbrev pub IsPortPart : List ℕ → Option ℕ → Type 0
IsPortPart text None = text ≡ []
IsPortPart text (Some port) = (digits : List ℕ) × (text ≡ colon ∷ digits) × IsPort digits port

-- a spot: a side, the switch there and its port, if they are said
pub record Spot : Type 0 where
  pub side : Side
  pub switch : Option (List ℕ)
  pub port : Option ℕ

-- a text says a side and a switch
pub record IsSite (text : List ℕ) (side : Side) (switch : Option (List ℕ)) : Type 0 where
  pub name_part : List ℕ
  pub written : text ≡ letter side ++ name_part
  pub named : IsNamePart name_part switch

-- a text says a spot
pub record IsSpot (text : List ℕ) (spot : Spot) : Type 0 where
  pub site : List ℕ
  pub port_part : List ℕ
  pub written : text ≡ site ++ port_part
  pub at_site : IsSite site spot.side spot.switch
  pub at_port : IsPortPart port_part spot.port

-- a text says a spot, or that frames are left out
abbrev pub IsPlace : List ℕ → Option Spot → Type 0
IsPlace text None = text ≡ hyphen ∷ []
IsPlace text (Some spot) = IsSpot text spot

-- a word says of an interface a spot, or that its frames are left out
pub record IsWord (word : List ℕ) (interface : ℕ) (spot : Option Spot) : Type 0 where
  pub digits : List ℕ
  pub place : List ℕ
  pub written : word ≡ digits ++ equals_sign ∷ place
  pub number : IsWritten 4 digits interface
  pub range : interface < most_interfaces
  pub is : IsPlace place spot

-- the spot that the program read
abbrev pub spot_of : Said → Option Spot
spot_of LeftOut = None
spot_of (At side switch port) =
    Some (record { side = side; switch = option_map (λ name. name.now) switch; port = port })
