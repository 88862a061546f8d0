-- What is known of one recording that was read, before its arrivals are put in order, where all its
-- bytes are known.
use Rattle.std.proofs.Common.{◌≡◌, ℕ, List, [], ◌++◌, append-nil, refl, ap, sym, ◌∙◌, subst, Option, Some, None, true, false, Bool}
use Rattle.std.specs.Io.KnownBytes.{Consumes, IsAtEnd}
use Rattle.afdx_input_lines.specs.Watching.{device_of, has_failed}
use Rattle.afdx_input_lines.specs.declared.fault.RunFault.TheVariants as run
use Rattle.afdx_input_lines.specs.declared.recording_fault.RecordingFault.{RecordingFault}
use Rattle.afdx_input_lines.specs.declared.watched.Watched.{Watched}
use Rattle.afdx_input_files.specs.Holding.{standing}
use Rattle.afdx_input_files.specs.Reading.{recorded, state_of}
use Rattle.afdx_input_files.specs.Recordings.{Faulted, Over, totals_by}
use Rattle.afdx_input_sources.specs.declared.read_recording.ReadRecording.{ReadRecording}
use Rattle.afdx_input_sources.specs.Becoming.{options_of}
use Rattle.afdx_input_sources.specs.Claims.{ports_of}
use Rattle.afdx_input_sources.specs.RecordingSource.{HasGiven, HasEnded, HasStopped, AreFirst, first_standing}
use Rattle.afdx_input_sources.specs.Sequences.{Numbers, Outcome, as_read}
use Rattle.afdx_input_sources.proofs.SequenceLemmas.{sorts-first}

-- what is true of what was read and whatever can follow
pub of-known : (P : List ℕ → Type 0) (bytes : List ℕ) (left : Option (List ℕ)) (read : List ℕ) (ended : Bool)
    → Consumes (Some bytes) left read → (ended ≡ true → IsAtEnd left)
    → ((more : List ℕ) → (ended ≡ true → more ≡ []) → P (read ++ more)) → P bytes
of-known P bytes None read ended c h f = absurd c
of-known P bytes (Some rest) read ended c h f = subst P (sym c) (f rest h)

module _ {R : Type 0} (remaining : R → Option (List ℕ)) (start input : Watched R) (source : ReadRecording)
    (past : Numbers) (bytes : List ℕ) (known : remaining start.inner ≡ Some bytes) where
  -- the recording of these bytes as it is read
  abbrev pub Read-of : List ℕ → Outcome
  Read-of bytes = as_read (options_of source.options) (ports_of source.ports) (recorded bytes)

  -- what was given are its first numbers
  abbrev pub AreItsFirst : Type 0
  AreItsFirst = (later : Numbers) × ((Read-of bytes).numbers ≡ later ++ past)

  first-of : AreFirst (options_of source.options) (ports_of source.ports) (first_standing remaining start) past
      → AreItsFirst
  first-of f =
      of-known (λ b. (later : Numbers) × ((Read-of b).numbers ≡ later ++ past)) bytes f.left f.read false
      (rw known at f.consumed) (λ e. absurd (cc)) (λ more follows. f.numbers more)

  pub read-first : HasGiven remaining start source input past → AreItsFirst
  read-first h =
      first-of (sorts-first (options_of source.options) (ports_of source.ports) (first_standing remaining start)
      (standing remaining source.reader.held input) past (state_of source.reader) h.sorts)

  -- they are all
  pub read-all : HasEnded remaining start source input past
      → Read-of bytes ≡ record { numbers = past; ending = Over; totals = totals_by (state_of source.reader) }
  read-all h =
      of-known (λ b. Read-of b
      ≡ record { numbers = past; ending = Over; totals = totals_by (state_of source.reader) })
      bytes (remaining (device_of input)) h.read true (rw known at h.gives.consumed) (λ e. h.last)
      (λ more follows. rw (follows refl) (ap Read-of (append-nil h.read) ∙ h.says))

  -- a fault of the recording stands behind them
  pub record HasFaultBehind (fault : RecordingFault) : Type 0 where
    pub numbers : (Read-of bytes).numbers ≡ past
    pub ending : (Read-of bytes).ending ≡ Faulted fault

  pub read-fault : (fault : RecordingFault) → HasStopped remaining start source input past (run.Recording fault)
      → HasFaultBehind fault
  read-fault fault h =
      let both = of-known (λ b. ((Read-of b).numbers ≡ past) × ((Read-of b).ending ≡ Faulted fault)) bytes
      (remaining (device_of input)) h.stops.read input.ended (rw known at h.stops.gives.consumed) h.honest
      (λ more follows. (h.stops.numbers more follows, h.stops.ending more follows)) in
      record { numbers = both.0; ending = both.1 }

  -- a read failed behind them
  pub record IsCutBehind : Type 0 where
    pub read : List ℕ
    pub gave : Consumes (Some bytes) (remaining (device_of input)) read
    pub numbers : (Read-of read).numbers ≡ past
    pub failed : has_failed input ≡ true

  pub read-cut : HasStopped remaining start source input past run.Read → IsCutBehind
  read-cut h = record {
    read = h.stops.read;
    gave = rw known at h.stops.gives.consumed;
    numbers = h.stops.numbers;
    failed = h.failed;
  }

  -- there was no memory
  pub read-memory : HasStopped remaining start source input past run.Memory → AreItsFirst
  read-memory h = first-of h.stops
