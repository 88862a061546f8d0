-- What a replay has told of the items of a source.
use Rattle.std.specs.Prelude.{ℕ, ◌≤◌, List, length, Option}
use Rattle.afdx_frame.specs.Times.{latest_listed}
use Rattle.afdx_config.specs.Rows.{Rows}
use Rattle.afdx_input_lines.specs.declared.frame_line.Heading.{Heading}
use Rattle.afdx_network.specs.Network as network
use Rattle.afdx_input_sources.specs.Engine.{Item}
use Rattle.afdx_input_sources.specs.Items.{arrivals, most_frames}
use Rattle.afdx_input_sources.specs.Listed.{frames}
use Rattle.afdx_input_sources.specs.Lists.{latest_in}
use Rattle.afdx_input_lines.specs.declared.watched.Watched.{Watched}
use Rattle.afdx_replay.specs.replaying.Early.{HearsEarly, HearsMost}
use Rattle.afdx_replay.specs.replaying.Replayed.{AreTold, Known, HasRoomFor, WritesSome, ToldAll}
use Rattle.afdx_replay.specs.declared.replaying.run.Replay.{Replay}

module _ {D : Type 0} (contents : D → Option (List ℕ)) where
  -- they are told, and a device, if there is one, was told of those that came too early; the
  -- switches' clocks are at the latest of them at most, and there is room for more
  pub record TellsItems (rules : Rows × Option (Watched D)) (replay : Replay D) (old new : Known)
      (past : List (Item Heading)) : Type 0 where
    pub told : AreTold rules.0 replay.network replay.systems replay.counts old new (arrivals past)
    pub heard : HearsEarly contents rules.0 rules.1 replay.early (arrivals past)
    pub early : latest_in frames (arrivals past) ≤ latest_listed
    pub clock : network.IsUntil replay.network (latest_in frames (arrivals past))
    pub few : length past ≤ most_frames
    pub room : HasRoomFor replay (length past)

  -- a beginning is told, and the device was told of all, or all but the newest
  abbrev pub BeginsItems : Rows × Option (Watched D) → Replay D → Known → Known →
      List (Item Heading) → Type 0
  BeginsItems rules replay old new past =
      WritesSome rules.0 old new (arrivals past)
      × HearsMost contents rules.0 rules.1 replay.early (arrivals past)

  abbrev pub TellsAll : Rows × Option (Watched D) → Replay D → Known → Known →
      List (Item Heading) → Type 0
  TellsAll rules replay old new past =
      ToldAll rules.0 replay.counts old new (arrivals past)
      × HearsEarly contents rules.0 rules.1 replay.early (arrivals past)
