-- Where each side has one switch, a replay of several switches is that of the switch. A list of
-- events has the latest first, the list of lines its first.
use Rattle.std.specs.Prelude.{ℕ, ◌≡◌, ◌<◌, List, [], ◌∷◌, ◌++◌, length, map, reverse}
use Rattle.std.specs.List.{AllByRecursion}
use Rattle.afdx_cascade.specs.Parts.{frames_of}
use Rattle.afdx_cascade.specs.Plans.{plan_of, tables_of}
use Rattle.afdx_cascade.specs.Runs.{Line, AreAll}
use Rattle.afdx_cascade.specs.SwitchEvents.{SwitchEvent, at_switch, came_to}
use Rattle.afdx_config.specs.Rows.{Rows}
use Rattle.afdx_config.specs.Switches.{NamedRows, AreSwitches}
use Rattle.afdx_input_sources.specs.Lists.{items_of}
use Rattle.afdx_network.specs.Events.{Event}
use Rattle.afdx_network.specs.Order.{events_of}
use Rattle.afdx_replay.specs.cascading.Ran.{AreInParts, lists}
use Rattle.afdx_replay.specs.cascading.Text.{cascade_text, cascade_counts, own_text}
use Rattle.afdx_input_runs.specs.ListText.{switch_name}
use Rattle.afdx_replay.specs.replaying.Text.{lines_at, replay_text, replay_counts}

-- each line is at one of the switches
abbrev pub AreAtSwitches : List NamedRows → List Line → Type 0
AreAtSwitches switches lines = AllByRecursion (λ line. line.switch < length switches) lines

-- the lines of a switch's events, with this name
unfoldable pub named_text : (name : List ℕ) → Rows → List Event → List ℕ
named_text name t [] = []
named_text name t (e ∷ before) = named_text name t before ++ lines_at name t before e

-- what all events of some lines are where these are the tables of the one switch
pub record IsOfOne (switches : List NamedRows) (t : Rows) (lines : List Line)
    (events : List SwitchEvent) : Type 0 where
  -- all events are at it
  pub here : at_switch 0 events ≡ map (λ h. h.event) events
  -- what came to it are the frames of the lines
  pub came : came_to 0 events ≡ frames_of (reverse lines)
  -- they are all events of its own tables and of these frames
  pub own : map (λ h. h.event) events ≡ events_of t (frames_of (reverse lines))
  -- the text is that of a run of its own tables on these frames, with its name
  pub named : cascade_text switches events
      ≡ named_text (switch_name switches 0) t (events_of t (frames_of (reverse lines)))
  -- and without it
  pub alone : own_text switches 0 events
      ≡ replay_text t (events_of t (frames_of (reverse lines)))
  -- and so are the counts
  pub counted : cascade_counts switches events
      ≡ replay_counts t (events_of t (frames_of (reverse lines)))

-- Each line of a list is at one of the switches that it names.
abbrev pub ListsAreAtSwitches : Type 0
ListsAreAtSwitches =
    (switches : List NamedRows) (list : List (List ℕ)) (n : ℕ) →
    AreAtSwitches switches (reverse (items_of (lists switches) list n))

-- A cascade of one switch a side has that switch's text.
abbrev pub CascadeOfOneIsItsSwitch : Type 0
CascadeOfOneIsItsSwitch =
    (switches : List NamedRows) (lines : List Line) (events : List SwitchEvent) →
    AreSwitches switches →
    length switches ≡ 1 →
    AreAtSwitches switches lines →
    AreAll (plan_of switches) lines events →
    AreInParts switches lines events →
    IsOfOne switches (tables_of switches 0) lines events
