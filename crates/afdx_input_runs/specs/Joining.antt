-- The frames of two lists as one: of what came in at switches, and of what left them. The frame of
-- lesser time comes first, at one time the one that came in. The head of the list of what came in
-- is looked for first; a fault ends all as soon as it is what is found there.
use Rattle.std.specs.Prelude.{ℕ, ◌≡◌, List, reverse, length, map, Option, Some, None}
use Rattle.afdx_police.specs.Arrival.{Arrival}
use Rattle.afdx_input_lines.specs.Faults.{fault_of_list}
use Rattle.afdx_input_lines.specs.FrameLines.{listed_frame}
use Rattle.afdx_input_lines.specs.Lines.{GaveWhole, lines_of}
use Rattle.afdx_input_lines.specs.declared.fault.RunFault.{RunFault}
use Rattle.afdx_input_lines.specs.declared.fault.RunFault.TheVariants as run
use Rattle.afdx_input_lines.specs.declared.frame_line.Heading.{Heading}
use Rattle.afdx_input_lines.specs.declared.role.Role.{Role}
use Rattle.afdx_input_lines.specs.declared.role.Role.TheVariants.{Came, Left}
use Rattle.afdx_input_sources.specs.Engine.{Item, item_of}
use Rattle.afdx_input_sources.specs.Items.{thing_of}
use Rattle.afdx_input_sources.specs.Listed as listed
use Rattle.afdx_input_sources.specs.Lists.{HaveFirstFault, HaveNoFault, items_of}
use Rattle.afdx_input_sources.specs.Merging as merging
use Rattle.afdx_input_sources.specs.Merging.{ByTime, Merged, merged}
use Rattle.afdx_input_sources.specs.declared.merged.Nth.{Nth}
use Rattle.afdx_input_sources.specs.declared.merged.Nth.TheVariants.{First, Second}
use Rattle.afdx_input_runs.specs.declared.seen.Seen.{Seen}

-- a frame of one of the two lists. Of what left, the port is the one at which it left
pub record Frame : Type 0 where
  pub role : Role
  pub arrival : Arrival

abbrev pub frame_with : Role → Arrival → Frame
frame_with role arrival = record { role = role; arrival = arrival }

-- that of an item of a list of frames
abbrev pub arrival_of : Item Heading → Arrival
arrival_of x = thing_of listed.frames listed_frame x

-- an item as one of the list of this role
abbrev pub seen_as : Role → Item Heading → Item Seen
seen_as role x = item_of x.number (record { role = role; heading = x.head }) x.bytes

-- its frame
abbrev pub frame_of : Item Seen → Frame
frame_of x =
    frame_with x.head.role (arrival_of (item_of x.number x.head.heading x.bytes))

abbrev pub frames_of : List (Item Seen) → List Frame
frames_of past = map frame_of past

-- ---- the two as one

-- the first list is that of what came in
abbrev pub role_of : Nth → Role
role_of First = Came
role_of Second = Left

-- each frame comes at its time
abbrev pub by_frame_time : ByTime Arrival Frame
by_frame_time = record { time = λ x. Some x.time; as_one = λ n x. frame_with (role_of n) x }

-- what comes of a list
abbrev pub Coming : Type 0
Coming = merging.Coming Arrival

-- frames of both
abbrev pub Joined : Type 0
Joined = Merged Frame

abbrev pub joined : (came left : Coming) → Joined
joined came left = merged by_frame_time came left

-- ---- what comes of the list of these bytes

-- its first n lines have no fault: what they say
abbrev pub first_of : List ℕ → ℕ → List Arrival
first_of bytes n = items_of listed.frames (lines_of bytes) n

-- these come of all its lines; or of those up to its first fault, which is that of its role
abbrev pub ListsTo : Role → List ℕ → List Arrival → Option RunFault → Type 0
ListsTo role bytes next None =
    HaveNoFault listed.frames (lines_of bytes) (length (lines_of bytes))
    × (next ≡ reverse (first_of bytes (length (lines_of bytes))))
ListsTo role bytes next (Some fault) =
    (n : ℕ) × (own : RunFault) × HaveFirstFault listed.frames (lines_of bytes) n own
    × (fault ≡ fault_of_list role own) × (next ≡ reverse (first_of bytes n))

abbrev pub IsListed : Role → List ℕ → Coming → Type 0
IsListed role bytes coming = ListsTo role bytes coming.next coming.fault

-- or of its first lines, that were given until a read failed; the input then has `rest`
pub record IsCutOff (bytes : List ℕ) (rest : Option (List ℕ)) (coming : Coming) : Type 0 where
  pub lines : ℕ
  pub gave : GaveWhole (Some bytes) rest lines
  pub sound : HaveNoFault listed.frames (lines_of bytes) lines
  pub next_is : coming.next ≡ reverse (first_of bytes lines)
  pub fault_is : coming.fault ≡ Some run.Read
