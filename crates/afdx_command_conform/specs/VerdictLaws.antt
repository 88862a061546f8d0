-- Laws over what a run answers. Lists have the newest first.
use Rattle.std.specs.Prelude.{ℕ, ◌<◌, ◌≡◌, ◌↔◌, true, Option, Some, List, length}
use Rattle.afdx_config.specs.Lawful.{IsLawfulSwitch}
use Rattle.afdx_config.specs.Rows.{Rows, LinkRow}
use Rattle.afdx_frame.specs.declared.link.Side.{Side}
use Rattle.afdx_input_runs.specs.Joining.{Frame}
use Rattle.afdx_police.specs.Arrival.{Arrival}
use Rattle.afdx_police.specs.Verdicts.{accepted_arrivals}
use Rattle.afdx_conform.specs.Explanations.{Answered, AreAllowed, ArePairs, accepted_in, arrivals_in}
use Rattle.afdx_conform.specs.Headline.{AreTheirFrames}
use Rattle.afdx_conform.specs.Hiding.{KeepAll}
use Rattle.afdx_conform.specs.Levels.{parts}
use Rattle.afdx_conform.specs.Streams.{Gone, Terms}
use Rattle.afdx_text.specs.declared.conform_line.Answer.{Answer}
use Rattle.afdx_text.specs.declared.conform_line.Answer.TheVariants.{Conforms, Deviates}
use Rattle.afdx_text.specs.declared.conform_line.Conclusion.{Conclusion}
use Rattle.afdx_command_conform.specs.AllLines.{AreAllLines}
use Rattle.afdx_command_conform.specs.Choices.{Choices, until_or}
use Rattle.afdx_command_conform.specs.Counting.{totals_of}
use Rattle.afdx_command_conform.specs.Frames.{arrivals_of, frames_of, terms_at}
use Rattle.afdx_command_conform.specs.Lines.{AreLines, Due}
use Rattle.afdx_command_conform.specs.RunLaws.{AreAll, AreAsTheHeadline, AreByTime, AreExplained, AreOfRight, AreSure, IsExactBy, NoneIsStrange, sound_at, uncut_at}
use Rattle.afdx_command_conform.specs.Sight.{HasBags}
use Rattle.afdx_command_conform.specs.Tapped.{judged_to}
use Rattle.afdx_command_conform.specs.Totals.{answer_of}
use Rattle.afdx_command_conform.specs.Written.{WritesWhole}

module _ (k : Rows × Choices) (frames : List Frame) where
  -- when the recordings end
  abbrev pub end_of : ℕ
  end_of = until_or k.1.until frames

  -- what is answered where these are all lines
  abbrev pub answered : List Due → Answer
  answered lines = answer_of (totals_of k frames lines)

  -- a frame of a stream that is judged left before the end, as far as stamps can tell
  pub record SomeLeft : Type 0 where
    pub side : Side
    pub place : ℕ
    pub port : ℕ
    pub link : LinkRow
    pub judged : judged_to k.0 k.1.sight side place port ≡ Some link
    pub some : 0 < length (uncut_at k.0 k.1 end_of frames link side port)

  -- a run of lawful tables, of frames that go by time, of which these are all lines
  pub record IsRun (lines : List Due) : Type 0 where
    pub lawful : IsLawfulSwitch k.0
    pub by_time : AreByTime frames
    pub are_lines : AreLines k.0 k.1 end_of frames lines

-- where that is asked, no stream that is judged is idle
abbrev pub IsExercised : Rows × Choices → List Frame → List Due → Type 0
IsExercised k frames lines = k.1.exercised ≡ true → (totals_of k frames lines).idle ≡ 0

-- it conforms exactly where some frame left, no stream is unsure, what was recorded has an
-- explanation, and no stream is idle, where that is asked
abbrev pub ConformsIsExplained : Type 0
ConformsIsExplained =
    (k : Rows × Choices) (frames : List Frame) (lines : List Due) →
    IsRun k frames lines →
    (answered k frames lines ≡ Conforms)
    ↔ (SomeLeft k frames × AreSure k.0 k.1 (end_of k frames) frames
    × AreExplained k.0 k.1 (end_of k frames) frames × IsExercised k frames lines)

-- with exact stamps and clocks, from a reset on, it conforms exactly where some frame left, all is
-- as the headline says, and no stream is idle, where that is asked
abbrev pub ExactConforms : Type 0
ExactConforms =
    (k : Rows × Choices) (frames : List Frame) (lines : List Due) →
    IsExactBy k.1.by →
    HasBags k.0 k.1.sight →
    IsRun k frames lines →
    (answered k frames lines ≡ Conforms)
    ↔ (SomeLeft k frames × AreAsTheHeadline k.0 k.1 (end_of k frames) frames
    × IsExercised k frames lines)

-- and where nothing is open, at each port left, of each link that goes there, the frames that the
-- window rule accepts of the link's own arrivals, all of them, in order, within the latency, and
-- nothing else
pub record IsTheRule (k : Rows × Choices) (frames : List Frame) : Type 0 where
  pub none_strange : NoneIsStrange k.0 k.1 (end_of k frames) frames
  pub streams : AreAll k.0 k.1 (end_of k frames) frames (λ l side port.
      AreTheirFrames (terms_at k.0 k.1 (end_of k frames) l port)
      (accepted_arrivals (k.1.sight.rule l) (arrivals_of k.0 k.1 l.vl side frames))
      (frames_of k.0 k.1 l.vl side port frames))

abbrev pub ExactShowsTheRule : Type 0
ExactShowsTheRule =
    (k : Rows × Choices) (frames : List Frame) (lines : List Due) →
    IsExactBy k.1.by →
    HasBags k.0 k.1.sight →
    IsRun k frames lines →
    answered k frames lines ≡ Conforms →
    (totals_of k frames lines).waiting ≡ 0 →
    IsTheRule k frames

-- a right switch never deviates
abbrev pub RightNeverDeviates : Type 0
RightNeverDeviates =
    (k : Rows × Choices) (frames : List Frame) (lines : List Due) (findings : ℕ) →
    k.1.by.drift < parts →
    HasBags k.0 k.1.sight →
    IsRun k frames lines →
    AreOfRight k.0 k.1 (end_of k frames) frames →
    answered k frames lines ≡ Deviates findings →
    ⊥

-- the frames are those of arrivals, in order and in time, each of which may have been accepted; no
-- other one had to be; and they keep every window
pub record IsShown (z : Terms) (sound : List Arrival) (frames : List Gone) : Type 0 where
  pub answers : List Answered
  pub are_answered : arrivals_in answers ≡ sound
  pub are_allowed : AreAllowed z answers
  pub are_pairs : ArePairs z (accepted_in answers) frames
  pub windows : KeepAll z (accepted_in answers)

-- where it conforms and nothing is open, that is so of all frames of each stream that is judged
abbrev pub ConformsShowsAll : Type 0
ConformsShowsAll =
    (k : Rows × Choices) (frames : List Frame) (lines : List Due) →
    IsRun k frames lines →
    answered k frames lines ≡ Conforms →
    (totals_of k frames lines).waiting ≡ 0 →
    AreAll k.0 k.1 (end_of k frames) frames (λ l side port.
    IsShown (terms_at k.0 k.1 (end_of k frames) l port)
    (sound_at k.0 k.1 (end_of k frames) frames l side)
    (frames_of k.0 k.1 l.vl side port frames))

-- all that is written, and the answer, are a function of tables, choices and frames
pub record IsWrittenOnce (new other : Option (List ℕ)) (last others : Conclusion) : Type 0 where
  pub written : new ≡ other
  pub counted : last ≡ others

abbrev pub AllIsWrittenOnce : Type 0
AllIsWrittenOnce =
    (k : Rows × Choices) (frames : List Frame) (old : List ℕ) (new other : Option (List ℕ))
    (last others : Conclusion) →
    length k.0.links < 0x100000000 →
    WritesWhole (Some old) new (AreAllLines k frames) last →
    WritesWhole (Some old) other (AreAllLines k frames) others →
    IsWrittenOnce new other last others
