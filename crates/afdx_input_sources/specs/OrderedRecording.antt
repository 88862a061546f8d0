-- What is known of a recording whose numbers are given in order.
use Rattle.std.specs.Prelude.{ℕ, ◌≡◌, false, List, [], Option}
use Rattle.afdx_input_lines.specs.declared.fault.RunFault.{RunFault}
use Rattle.afdx_input_lines.specs.declared.watched.Watched.{Watched}
use Rattle.afdx_input_files.specs.Holding.{unread}
use Rattle.afdx_input_files.specs.Reading.{state_of}
use Rattle.afdx_input_files.specs.Recordings.{at_start, totals_by}
use Rattle.afdx_input_sources.specs.Engine.{Item}
use Rattle.afdx_input_sources.specs.declared.counts.Tally.{Tally}
use Rattle.afdx_input_sources.specs.declared.number.Number.{Number}
use Rattle.afdx_input_sources.specs.declared.ordered.Ordered.{Ordered}
use Rattle.afdx_input_sources.specs.declared.ordered.Stage.TheVariants.{Reading}
use Rattle.afdx_input_sources.specs.declared.read_recording.ReadRecording.{ReadRecording}
use Rattle.afdx_input_sources.specs.Counting.{no_counts}
use Rattle.afdx_input_sources.specs.OrderedSource.{given_in_order, HasOrdered, HasOrderedAll, HasStoppedOrdering}
use Rattle.afdx_input_sources.specs.RecordingSource.{given, first_unused_of, unused_of, HasRead, HasReadAll, HasStoppedReading}
use Rattle.afdx_input_sources.specs.Sequences.{Numbers}

abbrev pub OrderedRecording : Type 0
OrderedRecording = Ordered ReadRecording

-- nothing of it was read
pub record IsUnread (source : OrderedRecording) : Type 0 where
  pub unread_is : unread source.source.reader.held ≡ []
  pub state : state_of source.source.reader ≡ at_start
  pub numbers : source.source.numbers ≡ 0
  pub counts : source.source.counts ≡ no_counts
  pub arrival : source.source.has_arrival ≡ false
  pub held : source.held ≡ []
  pub latest : source.latest ≡ 0
  pub stage : source.stage ≡ Reading

-- so many arrivals may come late, as the options say
abbrev pub IsSetInOrder : OrderedRecording → Type 0
IsSetInOrder source = source.most ≡ source.source.options.reorder

-- the number that was given last
abbrev pub number_taken : OrderedRecording → Item Number
number_taken source = given_in_order given source

-- what it counted
abbrev pub tally_of_source : OrderedRecording → Tally
tally_of_source source = record {
  numbers = source.source.numbers;
  counts = source.source.counts;
  lost = (totals_by (state_of source.source.reader)).lost;
  unused = unused_of source.source;
  absent = first_unused_of source.source;
}

-- ---- from call to call

module _ {R : Type 0} (remaining : R → Option (List ℕ)) where
  -- these numbers were given
  abbrev pub HasTaken : Watched R → OrderedRecording → Watched R → Numbers → Type 0
  HasTaken = HasOrdered (HasRead remaining) (HasReadAll remaining) (HasStoppedReading remaining)

  -- and these are all
  abbrev pub HasTakenAll : Watched R → OrderedRecording → Watched R → Numbers → Type 0
  HasTakenAll =
      HasOrderedAll (HasRead remaining) (HasReadAll remaining) (HasStoppedReading remaining)

  -- or this fault stands behind them
  abbrev pub HasStoppedTaking : Watched R → OrderedRecording → Watched R → Numbers → RunFault →
      Type 0
  HasStoppedTaking =
      HasStoppedOrdering (HasRead remaining) (HasReadAll remaining) (HasStoppedReading remaining)
