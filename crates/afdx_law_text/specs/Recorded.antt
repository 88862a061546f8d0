-- What is recorded of a switch: the frames that came in at it and those that left it, as one list.
-- Lists have the newest first.
use Rattle.std.specs.Prelude.{◌≡◌, ◌≤◌, not, None, List, [], ◌∷◌, filter, map, reverse}
use Rattle.std.specs.List.{AllByRecursion}
use Rattle.afdx_input_lines.specs.declared.role.Role.TheVariants.{Came, Left}
use Rattle.afdx_input_runs.specs.Joining.{Coming, Frame, joined}
use Rattle.afdx_police.specs.Arrival.{Arrival}
use Rattle.afdx_law_promises.specs.Lines.{Leaving}
use Rattle.afdx_command_conform.specs.RunLaws.{AreByTime}
use Rattle.afdx_command_conform.specs.Tapped.{Taps, is_of_came}

-- what came in, and what left
abbrev pub came_among : List Frame → List Arrival
came_among frames = map (λ x. x.arrival) (filter (λ x. is_of_came x.role) frames)

abbrev pub left_among : List Frame → List Arrival
left_among frames = map (λ x. x.arrival) (filter (λ x. not (is_of_came x.role)) frames)

-- a frame that left, as it is recorded: when, on which side, at which port, and its bytes, under
-- any number
pub record IsRecordOf (d : Leaving) (y : Arrival) : Type 0 where
  pub time : y.time ≡ d.time
  pub side : y.side ≡ d.side
  pub port : y.port ≡ d.port
  pub bytes : y.bytes ≡ d.frame.bytes

unfoldable pub AreRecordsOf : List Leaving → List Arrival → Type 0
AreRecordsOf [] [] = Unit {0}
AreRecordsOf [] (y ∷ ys) = ⊥
AreRecordsOf (d ∷ ds) [] = ⊥
AreRecordsOf (d ∷ ds) (y ∷ ys) = IsRecordOf d y × AreRecordsOf ds ys

-- the same frame, which came at the same time to the same port, under any number
pub record IsSameArrival (x y : Arrival) : Type 0 where
  pub time : y.time ≡ x.time
  pub side : y.side ≡ x.side
  pub port : y.port ≡ x.port
  pub bytes : y.bytes ≡ x.bytes

unfoldable pub AreSameArrivals : List Arrival → List Arrival → Type 0
AreSameArrivals [] [] = Unit {0}
AreSameArrivals [] (y ∷ ys) = ⊥
AreSameArrivals (x ∷ xs) [] = ⊥
AreSameArrivals (x ∷ xs) (y ∷ ys) = IsSameArrival x y × AreSameArrivals xs ys

-- of what came to a switch and what left it that which passed a recorded port, by time
pub record AreRecorded (taps : Taps) (arrivals : List Arrival) (left : List Leaving)
    (frames : List Frame) : Type 0 where
  pub came_are : AreSameArrivals (filter (λ x. taps Came x.side x.port) arrivals)
      (came_among frames)
  pub left_are : AreRecordsOf (filter (λ d. taps Left d.side d.port) left) (left_among frames)
  pub by_time : AreByTime frames

-- ---- two lists

-- frames leave one after another
unfoldable pub LeaveInOrder : List Leaving → Type 0
LeaveInOrder [] = Unit {0}
LeaveInOrder (d ∷ before) = AllByRecursion (λ e. e.time ≤ d.time) before × LeaveInOrder before

-- what comes of a list without a fault
abbrev pub list_of : List Arrival → Coming
list_of xs = record { next = reverse xs; fault = None }

-- of two that are read at once, what came in and what left
abbrev pub both_lists : (came left : List Arrival) → List Frame
both_lists came left = (joined (list_of came) (list_of left)).items
