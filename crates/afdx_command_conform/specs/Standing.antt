-- What is kept of all streams stands for the frames of both roles, and for the lines that are told.
use Rattle.std.specs.Prelude.{◌≡◌, ℕ, ◌≤◌, List}
use Rattle.std.specs.List.{AllByRecursion}
use Rattle.afdx_config.specs.Lawful.{IsLawfulSwitch}
use Rattle.afdx_config.specs.Rows.{Rows}
use Rattle.afdx_conform.specs.LeewayOf.{leeway_of}
use Rattle.afdx_input_runs.specs.Joining.{Frame}
use Rattle.afdx_command_conform.specs.Choices.{Choices}
use Rattle.afdx_command_conform.specs.Keeping.{AreKept, given_of}
use Rattle.afdx_command_conform.specs.Lines.{Due}
use Rattle.afdx_command_conform.specs.Sight.{Sight, sight_in}
use Rattle.afdx_conform.specs.declared.spare.Spare.{Spare}
use Rattle.afdx_command_conform.specs.declared.kept.KeptByKey.{KeptByKey}
use Rattle.afdx_command_conform.specs.declared.streams.Streams.{Streams}

-- what they see of the switch
abbrev pub seen_by : Streams → Sight
seen_by s = sight_in s.tables.now s.taps.now

-- but for what is kept, and the end
pub record IsSameButKept (old new : Streams) : Type 0 where
  pub tables : new.tables ≡ old.tables
  pub taps : new.taps ≡ old.taps

abbrev pub streams_with : Streams → Spare → KeptByKey → Streams
streams_with s spare kept = record s { spare = spare; kept = kept }

-- none of these frames is of a later time
abbrev pub IsBehindAll : ℕ → List Frame → Type 0
IsBehindAll time frames = AllByRecursion (λ x. x.arrival.time ≤ time) frames

-- all that is told of these frames, the newest first, has moments before `time`, until the end is
-- known
pub record StreamsStand (t : Rows) (c : Choices) (until : ℕ) (frames : List Frame)
    (lines : List Due) (time : ℕ) (s : Streams) : Type 0 where
  pub lawful : IsLawfulSwitch t
  pub tables : s.tables.now ≡ t
  pub by : leeway_of s.leeway ≡ c.by
  pub sight : seen_by s ≡ c.sight
  pub kept : AreKept t c until s.ended time (given_of t c frames) lines s.kept
