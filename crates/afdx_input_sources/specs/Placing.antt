-- The places that options say, at the switches that a configuration describes.
use Rattle.std.specs.Prelude.{ℕ, ◌≡◌, ◌<◌, ◌⊎◌, Bool, true, not, nat_lt, List, length, slice_get, if◌then◌else◌}
use Rattle.std.specs.Prelude.{Option, Some, None, is_some, option_map, option_and_then}
use Rattle.afdx_config.specs.Switches.{NamedRows, far_end, switch_named}
use Rattle.afdx_config.specs.declared.describing.Described.{Described}
use Rattle.afdx_config.specs.declared.describing.Described.TheVariants.{One, Several}
use Rattle.afdx_frame.specs.declared.link.Side.{Side}
use Rattle.afdx_input_lines.specs.declared.frame_line.Heading.{Heading}
use Rattle.afdx_input_sources.specs.Engine.{Item}
use Rattle.afdx_input_sources.specs.Places.{names_of, place_of}
use Rattle.afdx_input_sources.specs.declared.becoming.RecordingOptions.{RecordingOptions}
use Rattle.afdx_input_sources.specs.declared.pair_options.PairOptions.{PairOptions}
use Rattle.afdx_input_sources.specs.declared.places.Interfaces.{Interfaces}
use Rattle.afdx_input_sources.specs.declared.places.TapPoint.{TapPoint}
use Rattle.afdx_input_sources.specs.declared.places.TapPoint.TheVariants.{AtNamed, AtPort, AtSwitch, Left}

-- where there is one switch on a side none has a name
abbrev pub place_at_one : TapPoint → Option TapPoint
place_at_one (AtNamed side name port) = None
place_at_one (AtSwitch side switch port) = None
place_at_one place = Some place

module _ (switches : List NamedRows) where
  -- the switch whose name has this number
  abbrev pub switch_by : (names : List (List ℕ)) → ℕ → Option ℕ
  switch_by names number = option_and_then (switch_named switches) (slice_get names number)

  -- no cable is at this port of a switch, if it is said
  abbrev pub is_free : ℕ → Option ℕ → Bool
  is_free k (Some port) = not (is_some (far_end switches k port))
  is_free k None = true

  abbrev pub at_switch : Side → (port : Option ℕ) → ℕ → Option TapPoint
  at_switch side port k = if is_free k port then Some (AtSwitch side k port) else None

  abbrev pub at_known : Side → (port : Option ℕ) → ℕ → Option TapPoint
  at_known side port k = if nat_lt k (length switches) then at_switch side port k else None

  -- where there are several a port alone is at none of them, and a name is that of one; nothing is
  -- said of what left
  abbrev pub place_among : (names : List (List ℕ)) → TapPoint → Option TapPoint
  place_among names (AtPort side port) = None
  place_among names (Left side port) = None
  place_among names (AtNamed side name port) =
      option_and_then (at_switch side port) (switch_by names name)
  place_among names (AtSwitch side switch port) = at_known side port switch
  place_among names place = Some place

  -- an item is a frame at one of the switches, at a port where no cable is
  pub record IsAtOpenPort (x : Item Heading) : Type 0 where
    pub within : x.head.switch < length switches
    pub free : far_end switches x.head.switch x.head.port ≡ None

-- a place in a configuration, if it is one there
abbrev pub place_in : Described → (names : List (List ℕ)) → TapPoint → Option TapPoint
place_in (One t) names place = place_at_one place
place_in (Several switches) names place = place_among switches names place

module _ (d : Described) where
  -- all places of the first are some there, and those are the places of the second
  abbrev pub ArePlaced : (old new : Interfaces) → Type 0
  ArePlaced old new = (k : ℕ) →
      option_map (place_in d (names_of old)) (place_of old k) ≡ option_map Some (place_of new k)

  -- or one is none
  pub record AreMisplaced (old : Interfaces) : Type 0 where
    pub interface : ℕ
    pub place : TapPoint
    pub said : place_of old interface ≡ Some place
    pub none : place_in d (names_of old) place ≡ None

  -- the same of the options of one recording, of which nothing else changes, and of two
  pub record OptionsArePlaced (old new : RecordingOptions) : Type 0 where
    pub placed : ArePlaced old.interfaces new.interfaces
    pub rest : new ≡ record old { interfaces = new.interfaces }

  abbrev pub OptionsAreMisplaced : RecordingOptions → Type 0
  OptionsAreMisplaced options = AreMisplaced options.interfaces

  pub record PairIsPlaced (old new : PairOptions) : Type 0 where
    pub placed_a : ArePlaced old.interfaces.a new.interfaces.a
    pub placed_b : ArePlaced old.interfaces.b new.interfaces.b
    pub rest : new ≡ record old { interfaces = new.interfaces }

  abbrev pub PairIsMisplaced : PairOptions → Type 0
  PairIsMisplaced options = AreMisplaced options.interfaces.a ⊎ AreMisplaced options.interfaces.b
