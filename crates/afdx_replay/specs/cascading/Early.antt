-- What is told of the frames that a switch of several dropped for their link's rate: by how much
-- each came too early. A list of events has the newest first.
use Rattle.std.specs.Prelude.{ℕ, ◌≡◌, Option, Some, List, [], ◌∷◌}
use Rattle.afdx_cascade.specs.Plans.{tables_of}
use Rattle.afdx_cascade.specs.SwitchEvents.{SwitchEvent, came_to}
use Rattle.afdx_config.specs.Switches.{NamedRows}
use Rattle.afdx_input_lines.specs.declared.watched.Watched.{Watched}
use Rattle.afdx_network.specs.Events.{Event, Came, Left}
use Rattle.afdx_police.specs.Verdicts.{is_over_rate}
use Rattle.afdx_text.specs.OutLines.{place_text}
use Rattle.afdx_input_runs.specs.ListText.{switch_name}
use Rattle.afdx_replay.specs.Early.{HearsText, IsLineOn, IsOneMore}

module _ (switches : List NamedRows) where
  -- the line of an event at a switch that comes after these: that of an arrival, at its place
  abbrev pub IsLineOf : ℕ → List SwitchEvent → Event → List ℕ → Type 0
  IsLineOf k before (Came c) =
      IsLineOn (tables_of switches k) (came_to k before) c.arrival
      (Some (place_text c.arrival.side (switch_name switches k))) (is_over_rate c.reason)
  IsLineOf k before (Left d) = λ line. line ≡ []

  -- the text has the line of each of these events that has one, in order
  abbrev pub AreEarlyLines : List SwitchEvent → List ℕ → Type 0
  AreEarlyLines [] = λ text. text ≡ []
  AreEarlyLines (h ∷ before) = IsOneMore (AreEarlyLines before) (IsLineOf h.switch before h.event)

-- a device, if there is one, was told of these events
abbrev pub HearsEarly : {D : Type 0} → (D → Option (List ℕ)) → List NamedRows →
    (old new : Option (Watched D)) → List SwitchEvent → Type 0
HearsEarly contents switches old new events =
    HearsText contents (AreEarlyLines switches events) old new
