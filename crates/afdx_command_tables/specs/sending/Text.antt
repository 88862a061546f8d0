-- The text of a run that sends: the lines of each event, in the order of the events.
-- A list of events has the latest first.
use Rattle.std.specs.Prelude.{ℕ, ◌+◌, List, [], ◌∷◌, ◌++◌, Some, None}
use Rattle.afdx_frame.specs.declared.link.Side.TheVariants.{A, B}
use Rattle.afdx_config.specs.LawfulStream.{Sending}
use Rattle.afdx_config.specs.Rows.{SystemRow}
use Rattle.afdx_law_promises.specs.Sent.{sent_in}
use Rattle.afdx_send.specs.declared.fault.SendFault.{SendFault}
use Rattle.afdx_send.specs.Words.{refusal_word}
use Rattle.afdx_command_tables.specs.Counts.{no_counts}
use Rattle.afdx_command_tables.specs.sending.Events.{Event, Emitted, Submitted}
use Rattle.afdx_command_tables.specs.declared.summary.Summary.{Summary}
use Rattle.afdx_text.specs.OutLines.{place_text, refused_line}
pub use Rattle.afdx_text.specs.OutLines.{side_text, sent_line}

-- the two lines of an emission: on each side to the switch of this name, if it has one
abbrev pub emission_lines : (switch : List ℕ) → ℕ → Sending → List ℕ
emission_lines switch port y =
    sent_line (place_text A switch) port y.time y.a
    ++ sent_line (place_text B switch) port y.time y.b

-- the line of a message, on line n, that isn't taken
abbrev pub refusal_line : ℕ → SendFault → List ℕ
refusal_line n fault = refused_line n (refusal_word fault)

-- the lines of an event: a submission has one only where it is refused
abbrev pub event_lines : (switch : List ℕ) → SystemRow → Event → List ℕ
event_lines switch s (Emitted turn) = emission_lines switch s.port (sent_in s turn)
event_lines switch s (Submitted x (Some fault)) = refusal_line x.line fault
event_lines switch s (Submitted x None) = []

-- of a system at the switch of this name
unfoldable pub send_text_at : (switch : List ℕ) → SystemRow → List Event → List ℕ
send_text_at switch s [] = []
send_text_at switch s (e ∷ before) = send_text_at switch s before ++ event_lines switch s e

-- where each side has one switch
abbrev pub send_text : SystemRow → List Event → List ℕ
send_text s events = send_text_at [] s events

-- one more event is counted: an emission, a message that is taken, or one that is refused
abbrev pub with_event : Summary → Event → Summary
with_event c (Emitted turn) = record c { departed = c.departed + 1 }
with_event c (Submitted x None) = record c { accepted = c.accepted + 1 }
with_event c (Submitted x (Some fault)) = record c { dropped = c.dropped + 1 }

-- how many events there are of each kind, in no lines
unfoldable pub send_counts : List Event → Summary
send_counts [] = no_counts
send_counts (e ∷ before) = with_event (send_counts before) e
