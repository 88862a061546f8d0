-- What the code keeps of the frames of a source's side, and what it tells of one more.
use Rattle.std.specs.Prelude.{◌≡◌, ℕ, List, ◌++◌, option_map, option_to_list}
use Rattle.afdx_lawful.specs.Alone.{number_after}
use Rattle.afdx_lawful.specs.Paces.{IsPace}
use Rattle.afdx_lawful.specs.Sources.{Came, Source}
use Rattle.afdx_lawful.specs.declared.finding.SenderFinding.{SenderFinding}
use Rattle.afdx_lawful.specs.declared.finding.SenderFinding.TheVariants.{Unlawful, Number, Soon}
use Rattle.afdx_lawful.specs.declared.track.Alone.{Alone}
use Rattle.afdx_lawful.specs.declared.track.Track.{Track}

-- these whole frames of the side came
pub record IsTrack (s : Source) (past : List Came) (track : Track) : Type 0 where
  pub next : track.next ≡ number_after s past
  pub pace : IsPace s past track.pace

-- what is told of a frame of this line, in its order
abbrev pub told_alone : ℕ → Alone → List SenderFinding
told_alone line a =
    option_to_list (option_map (Unlawful line) a.flaw)
    ++ (option_to_list (option_map (Number line) a.number)
    ++ option_to_list (option_map (Soon line) a.soon))
