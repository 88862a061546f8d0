-- What a run takes of a recording, or of two that are read at once, and how that ends.
use Rattle.std.specs.Prelude.{ℕ, ◌≡◌, ◌⊎◌, Bool, true, List, reverse, Option, Some, None}
use Rattle.std.specs.Prelude.{if◌then◌else◌}
use Rattle.std.specs.Io.KnownBytes.{Consumes}
use Rattle.afdx_frame.specs.declared.link.Side.{Side}
use Rattle.afdx_frame.specs.declared.link.Side.TheVariants.{A, B}
use Rattle.afdx_input_lines.specs.Faults.{fault_of_network}
use Rattle.afdx_input_lines.specs.declared.fault.RunFault.{RunFault}
use Rattle.afdx_input_lines.specs.declared.fault.RunFault.TheVariants as run
use Rattle.afdx_input_lines.specs.declared.recording_fault.RecordingFault.{RecordingFault}
use Rattle.afdx_input_lines.specs.declared.recording_fault.RecordingFault.TheVariants.{TimeTooLarge}
use Rattle.afdx_input_files.specs.Reading.{recorded}
use Rattle.afdx_input_files.specs.Recordings.{Ending, Over, Faulted}
use Rattle.afdx_police.specs.Arrival.{Arrival}
use Rattle.afdx_input_sources.specs.Engine.{Item}
use Rattle.afdx_input_sources.specs.Items.{arrivals}
use Rattle.afdx_input_sources.specs.declared.number.Number.{Number}
use Rattle.afdx_input_sources.specs.declared.number.Number.TheVariants.{Arrival as IsArrival, Skipped}
use Rattle.afdx_input_sources.specs.declared.counts.Tally.{Tally}
use Rattle.afdx_input_sources.specs.Becoming.{Options}
use Rattle.afdx_input_sources.specs.Claims.{Ports}
use Rattle.afdx_input_sources.specs.Counting.{plus_tally}
use Rattle.afdx_input_sources.specs.Merging.{ByTime, Coming, Merged, merged}
use Rattle.afdx_input_sources.specs.NumberLines.{Lines, arrivals_listed, comes_at}
use Rattle.afdx_input_sources.specs.Ordering.{Sequence, sequence}
use Rattle.afdx_input_sources.specs.Timing.{Timed, timed, timed_up_to}

-- all that a run takes: a line for each number, the newest first; the fault that stands behind
-- them; and how many numbers were read, of which so many were skipped
pub record Taken : Type 0 where
  pub lines : Lines
  pub fault : Option RunFault
  pub tally : Tally

-- the arrivals among them
abbrev pub arrivals_in : Taken → List Arrival
arrivals_in taken = arrivals (arrivals_listed taken.lines)

abbrev pub fault_of : (RecordingFault → RunFault) → Ending → Option RunFault
fault_of said Over = None
fault_of said (Faulted fault) = Some (said fault)

abbrev pub taken_with : Timed → Tally → Taken
taken_with all tally = record { lines = all.lines; fault = all.fault; tally = tally }

-- ---- of one recording

-- the fault of an arrival that is too late
abbrev pub late_of_one : Item Number → RunFault
late_of_one x = run.Recording (TimeTooLarge x.number)

-- what a run takes of a sequence; time 0 is the moment that is said, or that of the first arrival
abbrev pub taken_of : (said : Option ℕ) → Sequence → Taken
taken_of said sequence =
    taken_with
    (timed_up_to late_of_one said sequence.numbers (fault_of run.Recording sequence.ending))
    sequence.tally

-- the sequence of the recording of these bytes
abbrev pub sequence_of_bytes : Options → Ports → List ℕ → Sequence
sequence_of_bytes options ports bytes = sequence options ports (recorded bytes)

-- what a run takes of that recording
abbrev pub taken_of_bytes : Options → Ports → List ℕ → Taken
taken_of_bytes options ports bytes = taken_of options.origin (sequence_of_bytes options ports bytes)

-- these are the lines of what was taken until a read failed: the input gave `read`, and has `rest`
abbrev pub AreCutOff : Options → Ports → List ℕ → (rest : Option (List ℕ)) → Lines → Type 0
AreCutOff options ports bytes rest lines =
    (read : List ℕ) × Consumes (Some bytes) rest read
    × (lines ≡ (timed late_of_one options.origin
    (sequence_of_bytes options ports read).known).lines)

-- ---- of two

-- the network of the recording that a number is of: the second is that of network B
abbrev pub side_of : Number → Side
side_of (IsArrival found) = if found.is_second then B else A
side_of (Skipped reason) = A

abbrev pub late_of_both : Item Number → RunFault
late_of_both x = fault_of_network (side_of x.head) (TimeTooLarge x.number)

-- numbers of both as one: an arrival comes at its moment, one that is skipped at once
abbrev pub by_moment : ByTime (Item Number) (Item Number)
by_moment = record { time = λ x. comes_at x.head; as_one = λ n x. x }

-- numbers that come of a recording
abbrev pub ComingNumbers : Type 0
ComingNumbers = Coming (Item Number)

-- the numbers of a sequence as they come
abbrev pub coming_of : Side → Sequence → ComingNumbers
coming_of side sequence = record {
  next = reverse sequence.numbers;
  fault = fault_of (fault_of_network side) sequence.ending;
}

-- behind those that are known a read fails
abbrev pub coming_until_read : Sequence → ComingNumbers
coming_until_read sequence = record { next = reverse sequence.known; fault = Some run.Read }

abbrev pub both_numbers : (a b : ComingNumbers) → Merged (Item Number)
both_numbers a b = merged by_moment a b

abbrev pub timed_of_both : (said : Option ℕ) → (a b : ComingNumbers) → Timed
timed_of_both said a b =
    let all = both_numbers a b in timed_up_to late_of_both said all.items all.fault

-- what a run takes of the sequences of network A and of network B
abbrev pub taken_of_both : (said : Option ℕ) → Sequence → Sequence → Taken
taken_of_both said a b =
    taken_with (timed_of_both said (coming_of A a) (coming_of B b))
    (plus_tally a.tally b.tally)

-- these are the lines of what was taken of one until a read failed, and of all of the other
module _ (said : Option ℕ) (sequence_a sequence_b : List ℕ → Sequence) where
  abbrev pub AreCutOffAtA : (bytes_a : List ℕ) → (rest_a : Option (List ℕ)) → (bytes_b : List ℕ) →
      Lines → Type 0
  AreCutOffAtA bytes_a rest_a bytes_b lines =
      (read : List ℕ) × Consumes (Some bytes_a) rest_a read
      × (lines ≡ (timed_of_both said (coming_until_read (sequence_a read))
      (coming_of B (sequence_b bytes_b))).lines)

  abbrev pub AreCutOffAtB : (bytes_a bytes_b : List ℕ) → (rest_b : Option (List ℕ)) → Lines →
      Type 0
  AreCutOffAtB bytes_a bytes_b rest_b lines =
      (read : List ℕ) × Consumes (Some bytes_b) rest_b read
      × (lines ≡ (timed_of_both said (coming_of A (sequence_a bytes_a))
      (coming_until_read (sequence_b read))).lines)

  -- so it is with that whose device failed
  abbrev pub AreCutOffAtOne : (failed_a failed_b : Bool) → (bytes_a bytes_b : List ℕ) →
      (rest_a rest_b : Option (List ℕ)) → Lines → Type 0
  AreCutOffAtOne failed_a failed_b bytes_a bytes_b rest_a rest_b lines =
      ((failed_a ≡ true) × AreCutOffAtA bytes_a rest_a bytes_b lines)
      ⊎ ((failed_b ≡ true) × AreCutOffAtB bytes_a bytes_b rest_b lines)
