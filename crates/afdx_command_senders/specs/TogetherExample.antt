-- An example of both judges: what came to a switch of two systems and what left it, where the
-- copies of two messages are sent on B later by what the tables leave. Lists have the newest first.
use Rattle.std.specs.Prelude.{◌≡◌, false, None, List, [], ◌∷◌, reverse}
use Rattle.afdx_conform.specs.Leeways.{leeway_with}
use Rattle.afdx_config.specs.Reading.{has_port}
use Rattle.afdx_frame.specs.declared.link.Side.TheVariants.{A, B}
use Rattle.afdx_input_lines.specs.declared.role.Role.TheVariants.{Came, Left}
use Rattle.afdx_input_runs.specs.Joining.{Frame, frame_with}
use Rattle.afdx_input_sources.specs.Tapping.{all_taps}
use Rattle.afdx_lawful.specs.Nearness.{hello}
use Rattle.afdx_lawful.specs.Worked.{a0, a1, b0, b1}
use Rattle.afdx_law_recorded.specs.Examples.{both_heard}
use Rattle.afdx_law_recorded.specs.Receivers.{AreHeard, messages_sent}
use Rattle.afdx_law_recorded.specs.Switches.{left_of}
use Rattle.afdx_law_recorded.specs.Whole.{heard_tables}
use Rattle.afdx_police.specs.Arrival.{arrival_with}
use Rattle.afdx_receive.specs.Delivery.{delivered}
use Rattle.afdx_senders.specs.Setups.{Setup, own_frames}
use Rattle.afdx_command_conform.specs.Sight.{of_tables}
use Rattle.afdx_command_senders.specs.Asked.{Asked}
use Rattle.afdx_command_senders.specs.Outlook.{Outlook}
use Rattle.afdx_command_senders.specs.SenderLines.{whole_setup}
use Rattle.afdx_command_senders.specs.Setting.{setting_of}
use Rattle.afdx_command_senders.specs.Together.{IsExactTest, SendersFindNothing, SwitchFindsNothing, came_until}
use Rattle.afdx_command_senders.specs.Together.{left_until}

abbrev pub outlook : Outlook
outlook = record { tables = heard_tables; among = None }

-- all ports were recorded, and nothing is asked beside
abbrev pub asked : Asked
asked = record {
  run = record {
    by = leeway_with 0 0 0 0 0 None;
    until = None;
    left_out = [];
    sight = of_tables heard_tables all_taps;
    exercised = false;
  };
  taps = all_taps;
  apart = None;
}

-- on A frames leave as soon as they can, on B as late as they may; one came where no system stands
abbrev pub frames : List Frame
frames =
    frame_with Left (arrival_with 4 2005760 B 3 b1) ∷
    frame_with Came (arrival_with 5 1988760 B 1 b1) ∷
    frame_with Left (arrival_with 2 1005760 B 3 b0) ∷
    frame_with Left (arrival_with 3 1005760 A 3 a1) ∷
    frame_with Came (arrival_with 4 1000000 A 1 a1) ∷
    frame_with Came (arrival_with 3 988760 B 1 b0) ∷
    frame_with Left (arrival_with 1 5760 A 3 a0) ∷
    frame_with Came (arrival_with 2 7 A 2 a0) ∷
    frame_with Came (arrival_with 1 0 A 1 a0) ∷ []

abbrev pub setting : Setup
setting = setting_of outlook asked

-- All is met that is asked of both judges, there is no line, and each message is read once.
pub record BothAreMet : Type 0 where
  pub test : IsExactTest outlook asked
  pub senders : SendersFindNothing outlook asked setting frames []
  pub switch : SwitchFindsNothing heard_tables asked.run frames []
  pub heard :
      AreHeard 1 (λ side. left_of 1 side 3 (left_until None frames)) (both_heard 988760)
  pub sent :
      messages_sent (own_frames (whole_setup (setting, asked) frames) 0 (came_until None frames))
      ≡ hello ∷ hello ∷ []
  pub read :
      reverse (delivered 1000000 (has_port heard_tables.ports 1 1) (both_heard 988760))
      ≡ hello ∷ hello ∷ []
