-- Laws over a run that finds nothing of a switch. Lists of frames have the newest first, those of a
-- text's lines the oldest.
use Rattle.std.specs.Prelude.{◌≡◌, ℕ, true, ◌&&◌, nat_le, Some, List, [], filter, length, reverse, slice_get}
use Rattle.afdx_config.specs.Lawful.{IsLawfulSwitch}
use Rattle.afdx_config.specs.Rows.{LinkRow, Rows, SystemRow, is_to}
use Rattle.afdx_conform.specs.Histories.{counts_of}
use Rattle.afdx_conform.specs.LimitRanges.{most_bytes}
use Rattle.afdx_frame.specs.declared.link.Side.{Side}
use Rattle.afdx_input_runs.specs.Joining.{Frame}
use Rattle.afdx_text.specs.declared.conform_line.Answer.TheVariants.{Deviates}
use Rattle.afdx_text.specs.declared.conform_line.Conclusion.{Conclusion}
use Rattle.afdx_text.specs.declared.conform_line.ConformLine.{ConformLine}
use Rattle.afdx_command_conform.specs.AllLines.{AreAllLines}
use Rattle.afdx_command_conform.specs.Choices.{Choices, counted, is_in_time, left_out_of}
use Rattle.afdx_command_conform.specs.Counting.{totals_of}
use Rattle.afdx_command_conform.specs.Frames.{arrivals_of, frames_of, terms_at}
use Rattle.afdx_command_conform.specs.Lines.{AreLines, Due, judged_at}
use Rattle.afdx_command_conform.specs.RunLaws.{AreAll, NothingIsFound}
use Rattle.afdx_command_conform.specs.Sight.{Sight}
use Rattle.afdx_command_conform.specs.Tapped.{judged_to, unseen_of}
use Rattle.afdx_command_conform.specs.VerdictLaws.{end_of}

-- nothing is found of the stream of a link at a port of a side, and nothing of it is open
pub record IsQuietAt (k : Rows × Choices) (frames : List Frame) (l : LinkRow) (side : Side)
    (port : ℕ) : Type 0 where
  pub nothing : (judged_at k.0 k.1 (end_of k frames) frames l side port).findings ≡ []
  pub closed :
      (counts_of (terms_at k.0 k.1 (end_of k frames) l port)
      (reverse (arrivals_of k.0 k.1 l.vl side frames))
      (reverse (frames_of k.0 k.1 l.vl side port frames))).waiting ≡ 0

-- so it is of each stream that is judged
abbrev pub AreQuiet : Rows × Choices → List Frame → Type 0
AreQuiet k frames = AreAll k.0 k.1 (end_of k frames) frames (IsQuietAt k frames)

-- by all lines, and by what is counted of them
abbrev pub NothingFoundIsQuiet : Type 0
NothingFoundIsQuiet =
    (k : Rows × Choices) (frames : List Frame) (lines : List Due) →
    IsLawfulSwitch k.0 →
    AreLines k.0 k.1 (end_of k frames) frames lines →
    NothingIsFound lines →
    (totals_of k frames lines).waiting ≡ 0 →
    AreQuiet k frames

-- by the last line
abbrev pub LastLineIsQuiet : Type 0
LastLineIsQuiet =
    (k : Rows × Choices) (frames : List Frame) (lines : List ConformLine) (last : Conclusion) →
    IsLawfulSwitch k.0 →
    AreAllLines k frames lines last →
    ((findings : ℕ) → last.answer ≡ Deviates findings → ⊥) →
    last.waiting ≡ 0 →
    AreQuiet k frames

-- where no stream is unseen each is judged: of each link, on each side, at each port where a system
-- gets it
abbrev pub NoneUnseenIsJudged : Type 0
NoneUnseenIsJudged =
    (t : Rows) (o : Sight) (side : Side) (place system : ℕ) (l : LinkRow) (s : SystemRow) →
    IsLawfulSwitch t →
    unseen_of t o ≡ 0 →
    slice_get t.links place ≡ Some l →
    slice_get t.systems system ≡ Some s →
    is_to system l ≡ true →
    judged_to t o side place s.port ≡ Some l

-- where nothing is left out, all frames from start to end count that are no longer than any on a
-- line
abbrev pub NoneLeftOutCounts : Type 0
NoneLeftOutCounts =
    (t : Rows) (c : Choices) (frames : List Frame) →
    left_out_of t c frames ≡ 0 →
    counted t c frames
    ≡ filter (λ x. is_in_time c x && nat_le (length x.arrival.bytes) most_bytes) frames
