-- What is known of two lists that are read at once, from frame to frame.
use Rattle.std.specs.Prelude.{◌≡◌, List, map}
use Rattle.afdx_input_lines.specs.Faults.{fault_of_list}
use Rattle.afdx_input_lines.specs.declared.fault.RunFault.{RunFault}
use Rattle.afdx_input_lines.specs.declared.frame_line.Heading.{Heading}
use Rattle.afdx_input_lines.specs.declared.role.ByRole.{ByRole}
use Rattle.afdx_input_sources.specs.Engine.{Item}
use Rattle.afdx_input_sources.specs.Items.{CanFollow, heading_order}
use Rattle.afdx_input_sources.specs.MergedSource.{AreMerged, AreMergedToEnd, OfTwo, StopsMerging, given, inputs_by_role}
use Rattle.afdx_input_runs.specs.declared.seen.Seen.{Seen}
use Rattle.afdx_input_runs.specs.declared.two_lists.TwoLists.{TwoLists}
use Rattle.afdx_input_runs.specs.Joining.{role_of, seen_as}

-- an item of one of the two as a frame
abbrev pub seen_of : OfTwo Heading → Item Seen
seen_of x = seen_as (role_of x.from) x.item

-- these are the frames of items of both of which this is known
pub record AreSeen (known : List (OfTwo Heading) → Type 0) (past : List (Item Seen)) : Type 0 where
  pub of_two : List (OfTwo Heading)
  pub known_so : known of_two
  pub frames_are : past ≡ map seen_of of_two

-- the frame that was given last
abbrev pub frame_given : {S : Type 0} → (S → Item Heading) → TwoLists S → Item Seen
frame_given current source = seen_of (given current source.both)

module _ {S I : Type 0} (current : S → Item Heading)
    (gave ended : I → S → I → List (Item Heading) → Type 0) where
  -- these frames were given of both
  abbrev pub IsJoined : ByRole I → TwoLists S → ByRole I → List (Item Seen) → Type 0
  IsJoined start source inputs past =
      AreSeen (AreMerged heading_order CanFollow current gave ended (inputs_by_role start)
      source.both (inputs_by_role inputs)) past

  -- and these are all
  abbrev pub IsJoinedToEnd : ByRole I → TwoLists S → ByRole I → List (Item Seen) → Type 0
  IsJoinedToEnd start source inputs past =
      AreSeen (AreMergedToEnd heading_order CanFollow current gave ended (inputs_by_role start)
      source.both (inputs_by_role inputs)) past

  module _ (stopped : I → S → I → List (Item Heading) → RunFault → Type 0) where
    -- or a list stopped, with this fault of its own
    abbrev pub StopsWith : ByRole I → TwoLists S → ByRole I → RunFault → List (OfTwo Heading) →
        Type 0
    StopsWith start source inputs own of_two =
        StopsMerging heading_order CanFollow current gave ended stopped (inputs_by_role start)
        source.both (inputs_by_role inputs) of_two own

    pub record StopsJoining (start : ByRole I) (source : TwoLists S) (inputs : ByRole I)
        (past : List (Item Seen)) (fault : RunFault) : Type 0 where
      pub own : RunFault
      pub stops : AreSeen (StopsWith start source inputs own) past
      pub fault_is : fault ≡ fault_of_list (role_of source.both.from) own
