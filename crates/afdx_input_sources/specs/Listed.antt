-- What the lines of a list say: the arrivals of a list of frames, the submissions of a list of
-- messages. A list of them has the newest first.
use Rattle.std.specs.Prelude.{ℕ, List, Option, Result}
use Rattle.afdx_police.specs.Arrival.{Arrival}
use Rattle.afdx_input_lines.specs.FrameLines.{ListedFrame, line_says}
use Rattle.afdx_input_lines.specs.SubmissionLines.{Submission, submission_said}
use Rattle.afdx_input_lines.specs.declared.fault.LineFault.{LineFault}
use Rattle.afdx_input_sources.specs.Lists.{Kind, item_after, items_of, HaveNoFault}

-- the arrival of the frame of line n
abbrev pub arrival_at : ℕ → ListedFrame → Arrival
arrival_at n frame =
    record { tag = n; time = frame.time; side = frame.side; port = frame.port; bytes = frame.bytes }

-- lists of frames
abbrev pub frames : Kind ListedFrame Arrival
frames = record { says = line_says; item = arrival_at; time = λ x. x.time }

-- what a line says that comes after these arrivals
abbrev pub said_after : List Arrival → List ℕ → Result (Option ListedFrame) LineFault
said_after past line = item_after frames past line

-- the arrivals of the first n lines
abbrev pub arrivals_of : List (List ℕ) → ℕ → List Arrival
arrivals_of lines n = items_of frames lines n

-- none of the first n lines has a fault
abbrev pub AreSound : List (List ℕ) → ℕ → Type 0
AreSound lines n = HaveNoFault frames lines n

-- the submission of a line
pub record Handed : Type 0 where
  pub line : ℕ
  pub submission : Submission

-- lists of submissions
abbrev pub submissions : Kind Submission Handed
submissions = record {
  says = submission_said;
  item = λ n s. record { line = n; submission = s };
  time = λ x. x.submission.time;
}
