-- How far a run that sends has come, and what it works with.
use Rattle.std.specs.Prelude.{ℕ, ◌+◌, ◌<◌, ◌≤◌, ◌≡◌, List, ◌∷◌, Option}
use Rattle.std.specs.Io.KnownBytes.{Appends}
use Rattle.afdx_port.specs.Times.{drain_end}
use Rattle.afdx_input_lines.specs.SubmissionLines.{submission_of}
use Rattle.afdx_input_lines.specs.declared.submission_line.Handed.{Handed as HandedLine}
use Rattle.afdx_port.specs.Schedule.{Turn, end_of}
use Rattle.afdx_send.specs.Frames.{Frame}
use Rattle.afdx_send.specs.Sender.{StandsFor, IsNextIn, last_time}
use Rattle.afdx_send.specs.declared.fault.SendFault.{SendFault}
use Rattle.afdx_send.specs.declared.sender_state.SenderState.{SenderState}
use Rattle.afdx_input_sources.specs.Listed.{Handed}
use Rattle.afdx_command_tables.specs.sending.Events.{Event, Submitted, submissions_in, turns_in, calls_in, EachFollows, IsAnswered, IsAtSubmission, AreDone}
use Rattle.afdx_command_tables.specs.sending.Text.{send_text_at, send_counts}
use Rattle.afdx_command_tables.specs.sending.Sent.{Source}
use Rattle.afdx_command_tables.specs.declared.sending.run.SwitchPort.{SwitchPort}
use Rattle.afdx_command_tables.specs.declared.summary.Summary.{Summary}

-- the submission that was read on line n
abbrev pub handed_at : ℕ → HandedLine → List ℕ → Handed
handed_at n handed payload = record { line = n; submission = submission_of handed payload }

-- these events are told: the sender stands for them, they are counted, and their text is written
pub record HasTold (s : Source) (w : SenderState) (port : SwitchPort) (counts : Summary)
    (old new : Option (List ℕ)) (events : List Event) : Type 0 where
  pub stands : StandsFor w (calls_in s.row s.links events (last_time w))
  pub port_is : port.number ≡ s.row.port
  pub switch_is : port.switch.now ≡ s.switch
  pub follow : EachFollows s.row s.links events
  pub in_time : end_of (turns_in events) ≤ last_time w
  pub counted : counts ≡ send_counts events
  pub written : Appends old new (send_text_at s.switch s.row events)

-- these submissions are told, and the emissions before the last of them
pub record AreTold (s : Source) (w : SenderState) (port : SwitchPort) (counts : Summary)
    (old new : Option (List ℕ)) (past : List Handed) : Type 0 where
  pub events : List Event
  pub submissions_are : submissions_in events ≡ past
  pub at_submission : IsAtSubmission events
  pub told : HasTold s w port counts old new events

-- more emissions are told, of the same submissions
pub record ToldMore (s : Source) (w : SenderState) (port : SwitchPort) (counts : Summary)
    (old new : Option (List ℕ)) (events : List Event) : Type 0 where
  pub more : List Event
  pub submissions_are : submissions_in more ≡ submissions_in events
  pub told : HasTold s w port counts old new more

-- all that end by this time
pub record ToldUntil (s : Source) (until : ℕ) (w : SenderState) (port : SwitchPort)
    (counts : Summary) (old new : Option (List ℕ)) (events : List Event) : Type 0 where
  pub told : ToldMore s w port counts old new events
  pub no_more : (turn : Turn Frame) →
      IsNextIn (calls_in s.row s.links told.more until) turn →
      until < turn.end
  pub done : drain_end ≤ until → AreDone s.row s.links told.more

-- a submission that comes after these events was handed to the sender, which took it or refused
-- it, and it is counted
pub record TellsSubmission (s : Source) (w : SenderState) (counts : Summary) (before : List Event)
    (x : Handed) (fault : Option SendFault) : Type 0 where
  pub stands : StandsFor w (calls_in s.row s.links (Submitted x fault ∷ before) x.submission.time)
  pub answered : IsAnswered (calls_in s.row s.links before x.submission.time) x.submission fault
  pub counted : counts ≡ send_counts (Submitted x fault ∷ before)

-- there is room for more counts: n lines came, and so many messages are held
pub record HasRoom (counts : Summary) (held n : ℕ) : Type 0 where
  pub submissions : counts.accepted + counts.dropped ≤ n
  pub emissions : counts.departed + held ≡ counts.accepted
