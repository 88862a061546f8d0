-- What is known of a recording as a source of its numbers, from call to call.
use Rattle.std.specs.Prelude.{ℕ, Bool, true, false, not, ◌&&◌, ◌||◌, nat_lt, ◌≡◌, ◌≤◌, List, [], ◌++◌, length}
use Rattle.std.specs.Prelude.{Option, Result, Ok, Err, if◌then◌else◌}
use Rattle.std.specs.Io.KnownBytes.{Consumes, IsAtEnd}
use Rattle.afdx_input_lines.specs.Calls.{is_read}
use Rattle.afdx_input_lines.specs.Watching.{device_of, has_ended, is_over, calls_of}
use Rattle.afdx_input_lines.specs.declared.fault.RunFault.{RunFault}
use Rattle.afdx_input_lines.specs.declared.next.Next.{Next}
use Rattle.afdx_input_lines.specs.declared.next.Next.TheVariants as next
use Rattle.afdx_input_lines.specs.declared.fault.RunFault.TheVariants as run
use Rattle.afdx_input_lines.specs.declared.recording_fault.RecordingFault.{RecordingFault}
use Rattle.afdx_input_lines.specs.declared.recording_fault.RecordingFault.TheVariants.{NoArrival}
use Rattle.afdx_input_lines.specs.declared.watched.Watched.{Watched}
use Rattle.afdx_input_files.specs.Holding.{Standing, standing, Gives, GivesSome, IsTrueToEnd}
use Rattle.afdx_input_files.specs.Reading.{state_of, latest, recorded, recorded_from, CanFollow}
use Rattle.afdx_input_files.specs.Recordings.{State, Over, Faulted, totals_by, most_numbers}
use Rattle.afdx_input_sources.specs.Engine.{Item, item_of}
use Rattle.afdx_input_sources.specs.declared.number.AsRead.{AsRead}
use Rattle.afdx_input_sources.specs.declared.number.Number.{Number}
use Rattle.afdx_input_sources.specs.declared.read_recording.ReadRecording.{ReadRecording}
use Rattle.afdx_input_sources.specs.Becoming.{Options, options_of, first_bytes}
use Rattle.afdx_input_sources.specs.Claims.{Ports, ports_of}
use Rattle.afdx_input_sources.specs.Counting.{count_one}
use Rattle.afdx_input_sources.specs.Places.{first_unused_behind, place_of, unused_behind}
use Rattle.afdx_input_sources.specs.Sequences.{Numbers, counts_of, has_arrival, is_arrival}
use Rattle.afdx_input_sources.specs.Sequences.{number_after, numbers_read, as_read, read_from}

-- the number that was read last
abbrev pub given : ReadRecording → Item AsRead
given source = item_of source.numbers source.number (first_bytes (latest source.reader).bytes)

-- that number, as it comes behind these
abbrev pub next_number : ReadRecording → Numbers → Result Number RecordingFault
next_number source past =
    number_after (options_of source.options) (ports_of source.ports) past (latest source.reader)

-- the source remembers what has to be known of these numbers
pub record Remembers (source : ReadRecording) (past : Numbers) : Type 0 where
  pub numbers : source.numbers ≡ length past
  pub counts : source.counts ≡ counts_of past
  pub arrival : source.has_arrival ≡ has_arrival past

-- the number that was read last is added to what the source remembers
pub record RemembersOne (old new : ReadRecording) : Type 0 where
  pub numbers : new.numbers ≡ (state_of old.reader).numbers
  pub counts : new.counts ≡ count_one new.number.becomes old.counts
  pub arrival : new.has_arrival ≡ (is_arrival new.number.becomes || old.has_arrival)

-- how many interfaces the options name that weren't described
abbrev pub unused_of : ReadRecording → ℕ
unused_of source =
    unused_behind (totals_by (state_of source.reader)).interfaces
    (place_of source.options.interfaces)

-- the least of them
abbrev pub first_unused_of : ReadRecording → Option ℕ
first_unused_of source =
    first_unused_behind (totals_by (state_of source.reader)).interfaces
    (place_of source.options.interfaces)

-- the answer behind the last of n numbers
abbrev pub end_of : Bool → ℕ → Result Next RunFault
end_of any n = if nat_lt 0 n && not any then Err (run.Recording (NoArrival n)) else Ok next.Ended

-- the fault is that of a number
abbrev pub FailsBy : RunFault → Result Number RecordingFault → Type 0
FailsBy (run.Recording fault) said = said ≡ Err fault
FailsBy _ said = ⊥

-- between two reads, before anything of the recording was held
abbrev pub first_standing : {R : Type 0} → (R → Option (List ℕ)) → Watched R → Standing
first_standing remaining input = record {
  held = [];
  left = remaining (device_of input);
  over = is_over input;
  ended = has_ended input;
  calls = calls_of input;
}

module _ (options : Options) (ports : Ports) where
  -- the input gave some bytes; whatever follows, the recording is read as these numbers, and
  -- then as what is held and follows
  pub record Sorts (first now : Standing) (past : Numbers) (state : State) : Type 0 where
    pub read : List ℕ
    pub gives : Gives first now read
    pub says : (more : List ℕ) → as_read options ports (recorded (read ++ more))
        ≡ read_from options ports past (recorded_from state (now.held ++ more))

  -- whatever can follow, these are all numbers, and this fault stands behind them
  pub record IsFaultBehind (first now : Standing) (past : Numbers) (fault : RecordingFault)
      : Type 0 where
    pub read : List ℕ
    pub gives : Gives first now read
    pub numbers : (more : List ℕ) → CanFollow now more →
        (as_read options ports (recorded (read ++ more))).numbers ≡ past
    pub ending : (more : List ℕ) → CanFollow now more →
        (as_read options ports (recorded (read ++ more))).ending ≡ Faulted fault

  -- these are all numbers of what the input gave
  pub record AreAllOfRead (first now : Standing) (past : Numbers) : Type 0 where
    pub read : List ℕ
    pub gives : Gives first now read
    pub numbers : (as_read options ports (recorded read)).numbers ≡ past

  -- whatever the whole recording is, these are its first numbers
  pub record AreFirst (first : Standing) (past : Numbers) : Type 0 where
    pub read : List ℕ
    pub left : Option (List ℕ)
    pub consumed : Consumes first.left left read
    pub numbers : (more : List ℕ) → (later : Numbers)
        × ((as_read options ports (recorded (read ++ more))).numbers ≡ later ++ past)

  -- where the source stops
  abbrev pub StopsBehind : (first now : Standing) → Numbers → RunFault → Type 0
  StopsBehind first now past (run.Recording fault) = IsFaultBehind first now past fault
  StopsBehind first now past run.Read = AreAllOfRead first now past
  StopsBehind first now past run.Memory = AreFirst first past
  StopsBehind first now past _ = ⊥

module _ {R : Type 0} (remaining : R → Option (List ℕ)) where
  -- these numbers were given
  pub record HasGiven (start : Watched R) (source : ReadRecording) (input : Watched R)
      (past : Numbers) : Type 0 where
    pub sound : input.failed ≡ false
    pub honest : IsTrueToEnd (standing remaining source.reader.held input)
    pub numbers : length past ≡ (state_of source.reader).numbers
    pub few : length past ≤ most_numbers
    pub remembers : Remembers source past
    pub sorts : Sorts (options_of source.options) (ports_of source.ports)
        (first_standing remaining start) (standing remaining source.reader.held input)
        past (state_of source.reader)

  -- and these are all
  pub record HasEnded (start : Watched R) (source : ReadRecording) (input : Watched R)
      (past : Numbers) : Type 0 where
    pub sound : input.failed ≡ false
    pub ended : input.ended ≡ true
    pub last : IsAtEnd (remaining (device_of input))
    pub few : length past ≤ most_numbers
    pub remembers : Remembers source past
    pub read : List ℕ
    pub gives : Gives (first_standing remaining start)
        (standing remaining source.reader.held input) read
    pub says : as_read (options_of source.options) (ports_of source.ports) (recorded read)
        ≡ record { numbers = past; ending = Over; totals = totals_by (state_of source.reader) }

  -- or this fault stands behind them
  pub record HasStopped (start : Watched R) (source : ReadRecording) (input : Watched R)
      (past : Numbers) (fault : RunFault) : Type 0 where
    pub failed : input.failed ≡ is_read fault
    pub honest : IsTrueToEnd (standing remaining source.reader.held input)
    pub gives : GivesSome (first_standing remaining start)
        (standing remaining source.reader.held input)
    pub stops : StopsBehind (options_of source.options) (ports_of source.ports)
        (first_standing remaining start) (standing remaining source.reader.held input) past fault

  -- ---- the same of numbers as they are read

  abbrev pub HasRead : Watched R → ReadRecording → Watched R → List (Item AsRead) → Type 0
  HasRead start source input read = HasGiven start source input (numbers_read read)

  abbrev pub HasReadAll : Watched R → ReadRecording → Watched R → List (Item AsRead) → Type 0
  HasReadAll start source input read = HasEnded start source input (numbers_read read)

  abbrev pub HasStoppedReading : Watched R → ReadRecording → Watched R → List (Item AsRead) →
      RunFault → Type 0
  HasStoppedReading start source input read fault =
      HasStopped start source input (numbers_read read) fault
