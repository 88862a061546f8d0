-- What a run that sends has told of the items of a source.
use Rattle.std.specs.Prelude.{ℕ, ◌≤◌, List, length, Option}
use Rattle.afdx_frame.specs.Times.{latest_listed}
use Rattle.afdx_input_lines.specs.Lines.{most_lines}
use Rattle.afdx_input_lines.specs.declared.submission_line.Handed.{Handed}
use Rattle.afdx_send.specs.Sender.{frames_held, last_time}
use Rattle.afdx_input_sources.specs.Engine.{Item}
use Rattle.afdx_input_sources.specs.Items.{handed}
use Rattle.afdx_input_sources.specs.Lists.{latest_in}
use Rattle.afdx_input_sources.specs.Listed.{submissions}
use Rattle.afdx_command_tables.specs.sending.Sent.{Source, WritesSome, WritesEvents}
use Rattle.afdx_command_tables.specs.sending.Progress.{AreTold, HasRoom}
use Rattle.afdx_command_tables.specs.declared.sending.run.Sending.{Sending}

-- they are told, the sender's clock is at the latest of them at most, and there is room for more
pub record TellsItems (s : Source) (sending : Sending) (old new : Option (List ℕ))
    (past : List (Item Handed)) : Type 0 where
  pub told : AreTold s sending.sender sending.port sending.counts old new (handed past)
  pub early : latest_in submissions (handed past) ≤ latest_listed
  pub clock : last_time sending.sender ≤ latest_in submissions (handed past)
  pub few : length past ≤ most_lines
  pub room : HasRoom sending.counts (frames_held sending.sender) (length past)

abbrev pub BeginsItems : Source → Option (List ℕ) → Option (List ℕ) → List (Item Handed) → Type 0
BeginsItems s old new past = WritesSome s old new (handed past)

abbrev pub TellsAll : Source → Sending → Option (List ℕ) → Option (List ℕ) →
    List (Item Handed) → Type 0
TellsAll s sending old new past = WritesEvents s sending.counts old new (handed past)
