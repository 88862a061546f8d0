-- What a replay of several switches a side has told of the items of a source.
use Rattle.std.specs.Prelude.{ℕ, ◌≤◌, List, length, Option}
use Rattle.afdx_frame.specs.Times.{latest_listed}
use Rattle.afdx_cascade.specs.Cascade as cascade
use Rattle.afdx_config.specs.Switches.{NamedRows}
use Rattle.afdx_input_sources.specs.Engine.{Item}
use Rattle.afdx_input_sources.specs.Items.{most_frames}
use Rattle.afdx_input_lines.specs.declared.frame_line.Heading.{Heading}
use Rattle.afdx_input_lines.specs.declared.watched.Watched.{Watched}
use Rattle.afdx_replay.specs.cascading.Ran.{AllIsTold, SomeIsTold}
use Rattle.afdx_replay.specs.cascading.Sited.{lines_in}
use Rattle.afdx_replay.specs.cascading.Told.{AreInTime, AreSteady, AreTold, latest_line}
use Rattle.afdx_replay.specs.declared.cascading.run.Cascading.{Cascading}
use Rattle.afdx_replay.specs.replaying.Replayed.{Known}

module _ {D : Type 0} (contents : D → Option (List ℕ)) where
  -- they are told, each came in time, no clock is past the latest of them, and there is room for
  -- more
  pub record TellsItems (rules : List NamedRows × Option (Watched D)) (m : Cascading D)
      (old new : Known) (past : List (Item Heading)) : Type 0 where
    pub told : AreTold contents rules.0 m.cascade m.teller rules.1 old new (lines_in past)
    pub early : latest_line (lines_in past) ≤ latest_listed
    pub in_time : AreInTime (lines_in past)
    pub clock : cascade.IsUntil m.cascade (latest_line (lines_in past))
    pub few : length past ≤ most_frames
    pub steady : AreSteady m.teller.counts

  abbrev pub BeginsItems : List NamedRows × Option (Watched D) → Cascading D → Known → Known →
      List (Item Heading) → Type 0
  BeginsItems rules m old new past =
      SomeIsTold contents rules.0 (lines_in past) rules.1 m.teller.early old new

  abbrev pub TellsAll : List NamedRows × Option (Watched D) → Cascading D → Known → Known →
      List (Item Heading) → Type 0
  TellsAll rules m old new past =
      AllIsTold contents rules.0 (lines_in past) rules.1 m.teller.early old new m.teller.counts
