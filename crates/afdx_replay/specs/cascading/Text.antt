-- The text of a replay of several switches a side: the lines of each event, in the order of the
-- events. A list of events has the latest first.
use Rattle.std.specs.Prelude.{ℕ, ◌==◌, if◌then◌else◌, List, [], ◌∷◌, ◌++◌}
use Rattle.afdx_config.specs.Switches.{NamedRows}
use Rattle.afdx_cascade.specs.Plans.{tables_of}
use Rattle.afdx_cascade.specs.SwitchEvents.{SwitchEvent, at_switch}
use Rattle.afdx_command_tables.specs.Counts.{no_counts}
use Rattle.afdx_command_tables.specs.declared.summary.Summary.{Summary}
use Rattle.afdx_input_runs.specs.ListText.{switch_name}
use Rattle.afdx_replay.specs.replaying.Text.{lines_at, with_event}

module _ (switches : List NamedRows) where
  -- the lines of an event that comes after these
  abbrev pub event_lines : List SwitchEvent → SwitchEvent → List ℕ
  event_lines before h =
      lines_at (switch_name switches h.switch) (tables_of switches h.switch)
      (at_switch h.switch before) h.event

  unfoldable pub cascade_text : List SwitchEvent → List ℕ
  cascade_text [] = []
  cascade_text (h ∷ before) = cascade_text before ++ event_lines before h

  -- the lines of the events at one switch, without its name
  unfoldable pub own_text : ℕ → List SwitchEvent → List ℕ
  own_text k [] = []
  own_text k (h ∷ before) =
      own_text k before
      ++ (if h.switch == k
      then lines_at [] (tables_of switches k) (at_switch k before) h.event
      else [])

  -- how many events there are of each kind, at all switches, in no lines
  unfoldable pub cascade_counts : List SwitchEvent → Summary
  cascade_counts [] = no_counts
  cascade_counts (h ∷ before) =
      with_event (tables_of switches h.switch) (at_switch h.switch before) h.event
      (cascade_counts before)
