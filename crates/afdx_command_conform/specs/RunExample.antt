-- Runs in which the premises of the laws are met, with exact stamps and clocks: one frame of one
-- link came and left, once in time and once a nanosecond too late.
use Rattle.std.specs.Prelude.{ℕ, ◌≡◌, false, None, Some, List, [], ◌∷◌, codes}
use Rattle.afdx_config.specs.Lawful.{IsLawfulSwitch}
use Rattle.afdx_config.specs.Rows.{LinkRow, Rows, SystemRow, example_link}
use Rattle.afdx_frame.specs.declared.link.Policing.TheVariants.{Frame}
use Rattle.afdx_frame.specs.declared.link.Side.TheVariants.{A}
use Rattle.afdx_input_runs.specs.Joining as joining
use Rattle.afdx_input_lines.specs.declared.role.Role.TheVariants.{Came, Left}
use Rattle.afdx_police.specs.Arrival.{arrival_with}
use Rattle.afdx_conform.specs.Leeways.{leeway_with}
use Rattle.afdx_conform.specs.Worked.{frame_bytes}
use Rattle.afdx_conform.specs.declared.finding.Finding.TheVariants.{Late}
use Rattle.afdx_text.specs.declared.conform_line.Answer.TheVariants.{Conforms, Deviates}
use Rattle.afdx_command_conform.specs.Choices.{Choices}
use Rattle.afdx_command_conform.specs.Frames.{frame_with}
use Rattle.afdx_command_conform.specs.Keys.{key_with}
use Rattle.afdx_command_conform.specs.Lines.{AreLines, Due, due_at, found_line}
use Rattle.afdx_command_conform.specs.RunLaws.{AreByTime, AreOfRight, IsExactBy}
use Rattle.afdx_command_conform.specs.Tapped.{all_taps, of_tables}
use Rattle.afdx_command_conform.specs.VerdictLaws.{answered}
use Rattle.afdx_command_conform.specs.declared.key.Key.{Key}

abbrev pub sender : SystemRow
sender = record { name = codes "s1"; port = 1; id = 1; partition = 1; rate = 100 }

abbrev pub receiver : SystemRow
receiver = record { name = codes "s3"; port = 3; id = 3; partition = 1; rate = 100 }

-- frames of 64 bytes, one a millisecond, each within 17 us
abbrev pub link : LinkRow
link = record example_link { policing = Frame; latency_us = 17 }

abbrev pub tables : Rows
tables = record {
  profile = 2;
  buffer = 126;
  own = 2;
  systems = sender ∷ receiver ∷ [];
  links = link ∷ [];
  ports = [];
}

abbrev pub choices : Choices
choices = record {
  by = leeway_with 0 0 0 0 0 None;
  until = None;
  left_out = [];
  sight = of_tables tables all_taps;
  exercised = false;
}

-- the frame came at 0, and left at this time
abbrev pub frames_at : ℕ → List joining.Frame
frames_at time = frame_with Left (arrival_with 1 time A 3 frame_bytes)
    ∷ frame_with Came (arrival_with 1 0 A 1 frame_bytes) ∷ []

-- whose stream is this one's
abbrev pub outlet : Key
outlet = key_with A 3 (Some 0)

-- the line that says that it was late, two latencies behind its arrival
abbrev pub late_line : Due
late_line = due_at outlet 34000 (found_line outlet (Late 1 1))

pub record PremisesAreMet : Type 0 where
  pub lawful : IsLawfulSwitch tables
  pub exact : IsExactBy choices.by
  pub by_time : AreByTime (frames_at 6720)
  pub is_right : AreOfRight tables choices 6720 (frames_at 6720)
  pub no_line : AreLines tables choices 6720 (frames_at 6720) []
  pub one_line : AreLines tables choices 17001 (frames_at 17001) (late_line ∷ [])
  pub conforms : answered (tables, choices) (frames_at 6720) [] ≡ Conforms
  pub deviates : answered (tables, choices) (frames_at 17001) (late_line ∷ []) ≡ Deviates 1
