-- Lists of frames of several switches a side: the switches that their lines name, and what these
-- say.
use Rattle.std.specs.Prelude.{ℕ, ◌≡◌, ◌+◌, ◌≤◌, ◌<◌, Bool, false, None, List, length, is_some, map}
use Rattle.std.specs.List.{range_with_len}
use Rattle.afdx_frame.specs.Ports.{last_port}
use Rattle.afdx_cascade.specs.Plans.{plan_of}
use Rattle.afdx_cascade.specs.Runs.{Line}
use Rattle.afdx_config.specs.Switches.{NamedRows, far_end}
use Rattle.afdx_input_sources.specs.Engine.{Item}
use Rattle.afdx_input_sources.specs.Lists.{Kind}
use Rattle.afdx_input_sources.specs.Listed.{arrival_at}
use Rattle.afdx_input_lines.specs.SitedLines.{NamedCables, SitedFrame, sited_frame, sited_line_says, is_cable_at}
use Rattle.afdx_input_lines.specs.declared.frame_line.Heading.{Heading}
use Rattle.afdx_input_runs.specs.ListText.{switch_name}

module _ (switches : List NamedRows) where
  -- at the place of a port's number, from 0, whether a cable is there
  abbrev pub has_cable : ℕ → ℕ → Bool
  has_cable k port = is_some (far_end switches k port)

  abbrev pub cables_of : ℕ → List Bool
  cables_of k = map (has_cable k) (range_with_len 0 (last_port + 1))

  -- the switch at a place, and each switch in the order of the file, as lists name it
  abbrev pub site_of : ℕ → NamedCables
  site_of k = record { name = switch_name switches k; cables = cables_of k }

  unfoldable pub sites_of : List NamedCables
  sites_of = map site_of (range_with_len 0 (length switches))

  -- an item is a frame at one of the switches, at a port where no cable is
  pub record IsAtPlace (x : Item Heading) : Type 0 where
    pub within : x.head.switch < length switches
    pub free : (plan_of switches).far_end x.head.switch x.head.port ≡ None

-- the frame of line n, and its switch
abbrev pub line_with : ℕ → SitedFrame → Line
line_with n f = record { switch = f.switch; arrival = arrival_at n f.frame }

-- an item is a frame at one of these switches, at a port where they have no cable
pub record IsAtSite (sites : List NamedCables) (x : Item Heading) : Type 0 where
  pub within : x.head.switch < length sites
  pub free : is_cable_at sites x.head.switch x.head.port ≡ false
  pub port : x.head.port ≤ last_port

-- lists of frames that name one of these switches
abbrev pub sited_frames : List NamedCables → Kind SitedFrame Line
sited_frames sites =
    record { says = sited_line_says sites; item = line_with; time = λ x. x.arrival.time }

-- what an item says, and what some say
abbrev pub line_of : Item Heading → Line
line_of x = line_with x.number (sited_frame x.head x.bytes)

abbrev pub lines_in : List (Item Heading) → List Line
lines_in past = map line_of past
