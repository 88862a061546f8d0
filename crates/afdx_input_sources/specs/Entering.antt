-- Where the arrivals of recordings came in: as options and frames' bytes say.
use Rattle.std.specs.Prelude.{ℕ, ◌≡◌, ◌⊎◌, List, Some}
use Rattle.afdx_input_sources.specs.Engine.{Item}
use Rattle.afdx_input_lines.specs.declared.frame_line.Heading.{Heading}
use Rattle.afdx_input_sources.specs.declared.places.TapPort.{TapPort}
use Rattle.afdx_input_sources.specs.Becoming.{Options, entry_of}
use Rattle.afdx_input_sources.specs.Claims.{Ports}

-- this is a port of a switch at which a frame of some interface, with some bytes, came in
pub record IsEntry (options : Options) (ports : Ports) (entry : TapPort) : Type 0 where
  pub interface : ℕ
  pub bytes : List ℕ
  pub says : entry_of (options.place interface) ports bytes ≡ Some entry

-- an arrival came in at such a one
abbrev pub entry_in : Item Heading → TapPort
entry_in x = record { switch = x.head.switch; port = x.head.port }

abbrev pub IsEntered : Options → Ports → Item Heading → Type 0
IsEntered options ports x = IsEntry options ports (entry_in x)

-- at such a one of the recording of network A, or of that of network B
abbrev pub IsEnteredInPair : (of_a of_b : Options) → Ports → Item Heading → Type 0
IsEnteredInPair of_a of_b ports x = IsEntered of_a ports x ⊎ IsEntered of_b ports x
