-- What is true of a run that sends and stops: what it told up to a submission has one text, and
-- begins what a run to the end tells.
use Rattle.std.specs.Prelude.{ℕ, ◌≡◌, List, ◌++◌, Some}
use Rattle.afdx_config.specs.Admission.{links_from}
use Rattle.afdx_config.specs.Lawful.{IsLawful}
use Rattle.afdx_config.specs.Rows.{SystemRow, Rows}
use Rattle.afdx_input_sources.specs.Listed.{Handed}
use Rattle.afdx_command_tables.specs.sending.Events.{Event, AreEventsOf, IsAtSubmission}
use Rattle.afdx_command_tables.specs.sending.Sent.{source_at, WritesSoFar}

-- Events of the same submissions, up to the last of them, are the same.
abbrev pub EventsSoFarAreOne : Type 0
EventsSoFarAreOne = (t : Rows) (sender : ℕ) (s : SystemRow) (past : List Handed)
    (ones others : List Event) →
    IsLawful t →
    AreEventsOf s (links_from t.links sender) past ones →
    IsAtSubmission ones →
    AreEventsOf s (links_from t.links sender) past others →
    IsAtSubmission others →
    ones ≡ others

-- They begin all events of these submissions and of any that come after them.
abbrev pub EventsSoFarBegin : Type 0
EventsSoFarBegin = (t : Rows) (sender : ℕ) (s : SystemRow) (more past : List Handed)
    (first all : List Event) →
    IsLawful t →
    AreEventsOf s (links_from t.links sender) past first →
    IsAtSubmission first →
    AreEventsOf s (links_from t.links sender) (more ++ past) all →
    (later : List Event) × (all ≡ later ++ first)

-- So two runs that stop after these submissions write one text.
abbrev pub StoppedSendsAreOne : Type 0
StoppedSendsAreOne = (t : Rows) (sender : ℕ) (s : SystemRow) (past : List Handed)
    (old one other : List ℕ) →
    IsLawful t →
    WritesSoFar (source_at t sender s) (Some old) (Some one) past →
    WritesSoFar (source_at t sender s) (Some old) (Some other) past →
    one ≡ other
