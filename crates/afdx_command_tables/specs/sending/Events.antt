-- The events of a run that sends: what its system emits, and what became of each submission.
-- Lists of events and of submissions have the latest first.
use Rattle.std.specs.Prelude.{ℕ, ◌<◌, ◌≤◌, ◌≡◌, ◌==◌, if◌then◌else◌, List, [], ◌∷◌, ◌++◌, length, map, Option, Some, None}
use Rattle.afdx_port.specs.Times.{drain_end}
use Rattle.afdx_config.specs.Rows.{SystemRow, LinkRow}
use Rattle.afdx_input_lines.specs.SubmissionLines.{Submission}
use Rattle.afdx_port.specs.Schedule.{Turn, end_of}
use Rattle.afdx_send.specs.Frames.{Frame}
use Rattle.afdx_send.specs.Releases as send
use Rattle.afdx_send.specs.Sender.{SenderHistory, submission, IsNextIn, IsTaken, IsRefused, AreAllEmitted}
use Rattle.afdx_send.specs.declared.fault.SendFault.{SendFault}
use Rattle.afdx_send.specs.declared.fault.SendFault.TheVariants.{Memory}
use Rattle.afdx_input_sources.specs.Listed.{Handed}

-- an emission, in its slot of the system's port; or a submission, and why it was refused, if it was
pub data Event : Type 0 where
  Emitted : Turn Frame → Event
  Submitted : Handed → Option SendFault → Event

-- a submission as a message for a sub-VL
abbrev pub message_of : Submission → send.Submission
message_of s = submission s.time s.sub s.udp s.payload

abbrev pub submissions_in : List Event → List Handed
submissions_in [] = []
submissions_in (Emitted turn ∷ before) = submissions_in before
submissions_in (Submitted x fault ∷ before) = x ∷ submissions_in before

abbrev pub turns_in : List Event → List (Turn Frame)
turns_in [] = []
turns_in (Emitted turn ∷ before) = turn ∷ turns_in before
turns_in (Submitted x fault ∷ before) = turns_in before

-- a list, and the message of a submission after it, if it is for this link and was taken
abbrev pub with_taken : ℕ → Handed → Option SendFault → List send.Submission → List send.Submission
with_taken vl x (Some fault) taken = taken
with_taken vl x None taken =
    if x.submission.vl == vl then taken ++ message_of x.submission ∷ [] else taken

-- what the link with this identifier took, the first one first
abbrev pub taken_by : ℕ → List Event → List send.Submission
taken_by vl [] = []
taken_by vl (Emitted turn ∷ before) = taken_by vl before
taken_by vl (Submitted x fault ∷ before) = with_taken vl x fault (taken_by vl before)

-- the calls of the system's sender that these events are, of which the last was at this time
abbrev pub calls_in : SystemRow → List LinkRow → List Event → ℕ → SenderHistory
calls_in s links events time =
    let taken = map (λ l. taken_by l.vl events) links in
    record { system = s; links = links; taken = taken; emitted = turns_in events; time = time }

-- it is taken by one of the links, or refused for this reason. Want of memory is no such reason
abbrev pub IsAnswered : SenderHistory → Submission → Option SendFault → Type 0
IsAnswered h s None = (place : ℕ) × IsTaken h place s.vl (message_of s)
IsAnswered h s (Some fault) =
    (fault ≡ Memory → ⊥) × IsRefused h s.time s.vl s.sub (length s.payload) fault

-- before a submission stand exactly the emissions that end by its time
pub record IsHandled (h : SenderHistory) (s : Submission) (fault : Option SendFault) : Type 0 where
  pub in_time : end_of h.emitted ≤ s.time
  pub no_more : (turn : Turn Frame) → IsNextIn h turn → s.time < turn.end
  pub answered : IsAnswered h s fault

-- an event follows those before it: the next emission, or a submission in its time
abbrev pub Follows : SystemRow → List LinkRow → List Event → Event → Type 0
Follows s links before (Emitted turn) = IsNextIn (calls_in s links before turn.end) turn
Follows s links before (Submitted x fault) =
    IsHandled (calls_in s links before x.submission.time) x.submission fault

-- each event follows those before it
abbrev pub EachFollows : SystemRow → List LinkRow → List Event → Type 0
EachFollows s links [] = Unit {0}
EachFollows s links (e ∷ before) = Follows s links before e × EachFollows s links before

-- the events of these submissions, and of no others
pub record AreEventsOf (s : SystemRow) (links : List LinkRow) (past : List Handed)
    (events : List Event) : Type 0 where
  pub submissions_are : submissions_in events ≡ past
  pub follow : EachFollows s links events

-- the latest event is a submission, if there is any
abbrev pub IsAtSubmission : List Event → Type 0
IsAtSubmission [] = Unit {0}
IsAtSubmission (Emitted turn ∷ before) = ⊥
IsAtSubmission (Submitted x fault ∷ before) = Unit {0}

-- all messages that were taken are emitted
abbrev pub AreDone : SystemRow → List LinkRow → List Event → Type 0
AreDone s links events = AreAllEmitted (calls_in s links events drain_end)
