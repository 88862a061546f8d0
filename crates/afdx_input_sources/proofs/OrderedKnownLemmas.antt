-- What is known of one recording whose numbers were given in order.
use Rattle.std.proofs.Common.{◌≡◌, ◌≤◌, ℕ, List, [], ◌∷◌, ◌++◌, append_assoc, take, refl, ap, sym, ◌∙◌, subst}
use Rattle.std.proofs.Common.{Option, Some, true, false, inl, inr}
use Rattle.std.specs.Prelude.{⊤}
use Rattle.std.specs.Io.KnownBytes.{Consumes}
use Rattle.afdx_input_lines.specs.Calls.{is_read}
use Rattle.afdx_input_lines.specs.Watching.{device_of, has_failed}
use Rattle.afdx_input_lines.specs.declared.fault.RunFault.{RunFault}
use Rattle.afdx_input_lines.specs.declared.fault.RunFault.TheVariants as run
use Rattle.afdx_input_lines.specs.declared.recording_fault.RecordingFault.{RecordingFault}
use Rattle.afdx_input_lines.specs.declared.recording_fault.RecordingFault.TheVariants.{TimeBack}
use Rattle.afdx_input_lines.specs.declared.watched.Watched.{Watched}
use Rattle.afdx_input_files.specs.Holding.{Standing, standing, GivesSome}
use Rattle.afdx_input_files.specs.Recordings.{Faulted, Over, most_numbers}
use Rattle.afdx_input_sources.specs.Engine.{Item}
use Rattle.afdx_input_sources.specs.declared.number.AsRead.{AsRead}
use Rattle.afdx_input_sources.specs.declared.ordered.Stage.{Stage}
use Rattle.afdx_input_sources.specs.declared.ordered.Stage.TheVariants as stage
use Rattle.afdx_input_sources.specs.Becoming.{options_of}
use Rattle.afdx_input_sources.specs.Claims.{ports_of}
use Rattle.afdx_input_sources.specs.Places.{place_of}
use Rattle.afdx_input_sources.specs.declared.places.TapPoint.{TapPoint}
use Rattle.afdx_input_sources.specs.OrderedRecording.{OrderedRecording, IsSetInOrder, HasTaken, HasTakenAll, HasStoppedTaking}
use Rattle.afdx_input_sources.specs.OrderedRecording.{tally_of_source}
use Rattle.afdx_input_sources.specs.OrderedSource.{AreForward, AreLeft, StopsAt}
use Rattle.afdx_input_sources.specs.Ordering.{Forward, Sequence, all_handed, ending_or, forward, goes_back, handed_on, in_order, ordered}
use Rattle.afdx_input_sources.specs.RecordingSource.{HasStopped, HasRead, HasReadAll, HasStoppedReading, first_standing}
use Rattle.afdx_input_sources.specs.Sequences.{Numbers, Outcome, number_read, numbers_read}
use Rattle.afdx_input_sources.specs.Taking.{sequence_of_bytes}
use Rattle.afdx_input_sources.proofs.HandingLemmas.{known-first, forward-back}
use Rattle.afdx_input_sources.proofs.OrderedLemmas.{left-behind}
use Rattle.afdx_input_sources.proofs.KnownLemmas.{Read-of, read-first, read-all, read-fault, read-cut, read-memory}

-- ---- whether its device failed, and how often it was asked

module _ {R : Type 0} (remaining : R → Option (List ℕ)) (start input : Watched R) (source : OrderedRecording) where
  abbrev First : Standing
  First = first_standing remaining start

  abbrev Now : Standing
  Now = standing remaining source.source.reader.held input

  -- it is sound, and it gave some bytes
  abbrev pub IsSound : Type 0
  IsSound = (input.failed ≡ false) × GivesSome First Now

  at-sound : (fault : RecordingFault) (read : List (Item AsRead))
      → StopsAt (HasRead remaining) (HasReadAll remaining) (HasStoppedReading remaining) source.most start source.source
      input read fault → IsSound
  at-sound fault read (inl s) = (s.failed, s.gives)
  at-sound fault read (inr s) = (s.1.sound, (s.1.sorts.read, s.1.sorts.gives))

  pub taken-sound : (past : Numbers) → HasTaken remaining start source input past → IsSound
  taken-sound past h = by source.stage refl
    where
      by : (s : Stage) → source.stage ≡ s → IsSound
      by stage.Reading e = let g = (rw e at h.stands).0 in (g.sound, (g.sorts.read, g.sorts.gives))
      by stage.Over e = let g = (rw e at h.stands).0 in (g.sound, (g.read, g.gives))
      by (stage.Stopped fault) e = at-sound fault h.read (rw e at h.stands).0

  pub all-sound : (past : Numbers) → HasTakenAll remaining start source input past
      → (input.failed ≡ false) × (input.ended ≡ true) × GivesSome First Now
  all-sound past h = (h.ended_so.sound, h.ended_so.ended, (h.ended_so.read, h.ended_so.gives))

  -- where it stopped, it failed if that is the fault
  pub stopped-sound : (past : Numbers) (fault : RunFault) → HasStoppedTaking remaining start source input past fault
      → (input.failed ≡ is_read fault) × GivesSome First Now
  stopped-sound past fault (inl s) =
      let k = at-sound s.why s.read s.stops in (k.0 ∙ sym (ap is_read s.fault_is), k.1)
  stopped-sound past fault (inr (inl s)) = (s.stopped_so.failed, s.stopped_so.gives)
  stopped-sound past fault (inr (inr s)) =
      (s.gave_them.sound ∙ sym (ap is_read s.fault_is), (s.gave_them.sorts.read, s.gave_them.sorts.gives))

-- ---- where all bytes of the input are known

-- what is in order of numbers that were read
sequence-is : (most : ℕ) (place : ℕ → Option TapPoint) (outcome : Outcome) (numbers : Numbers) (all : Forward)
    → outcome.numbers ≡ numbers → forward most numbers ≡ all
    → ((ordered most place outcome).numbers ≡ all_handed most all.numbers)
    × ((ordered most place outcome).known ≡ handed_on most all.numbers)
    × ((ordered most place outcome).ending ≡ ending_or all.back outcome.ending)
sequence-is most place outcome numbers all e f =
    let is : forward most outcome.numbers ≡ all = ap (forward most) e ∙ f in (
      ap (λ (a : Forward). all_handed most a.numbers) is,
      ap (λ (a : Forward). handed_on most a.numbers) is,
      ap (λ (a : Forward). ending_or a.back outcome.ending) is,
    )

module _ {R : Type 0} (remaining : R → Option (List ℕ)) (start input : Watched R) (source : OrderedRecording)
    (set : IsSetInOrder source) (past : Numbers) (bytes : List ℕ) (known : remaining start.inner ≡ Some bytes) where
  -- the sequence of the recording of these bytes
  abbrev pub Sequence-of : List ℕ → Sequence
  Sequence-of = sequence_of_bytes (options_of source.source.options) (ports_of source.source.ports)

  -- what was given are its first numbers
  abbrev pub AreItsFirst : Type 0
  AreItsFirst = (later : Numbers) × ((Sequence-of bytes).numbers ≡ later ++ past)

  abbrev Raw-of : List ℕ → Outcome
  Raw-of = Read-of remaining start input source.source past bytes known

  abbrev place : ℕ → Option TapPoint
  place = place_of source.source.options.interfaces

  -- the sequence, by the order of the source
  by-order : (b : List ℕ) (P : Sequence → Type 0) → P (ordered source.most place (Raw-of b)) → P (Sequence-of b)
  by-order b P h = subst (λ (most : ℕ). P (ordered most place (Raw-of b))) set h

  parts : (b : List ℕ) (numbers : Numbers) (all : Forward) → (Raw-of b).numbers ≡ numbers
      → forward source.most numbers ≡ all
      → ((Sequence-of b).numbers ≡ all_handed source.most all.numbers)
      × ((Sequence-of b).known ≡ handed_on source.most all.numbers)
      × ((Sequence-of b).ending ≡ ending_or all.back (Raw-of b).ending)
  parts b numbers all e f =
      by-order b (λ (s : Sequence). (s.numbers ≡ all_handed source.most all.numbers)
      × (s.known ≡ handed_on source.most all.numbers) × (s.ending ≡ ending_or all.back (Raw-of b).ending))
      (sequence-is source.most place (Raw-of b) numbers all e f)

  -- behind these numbers that were read come some, and these are known
  known-is-first : (read : List (Item AsRead)) → AreForward source.most read
      → past ≡ handed_on source.most (numbers_read read)
      → (later : Numbers) × ((Raw-of bytes).numbers ≡ later ++ numbers_read read) → AreItsFirst
  known-is-first read f e (later, is) =
      let k = known-first source.most (numbers_read read) f.forward_is later in
      let p = parts bytes (later ++ numbers_read read) (forward source.most (later ++ numbers_read read)) is refl in
      (k.0, p.0 ∙ k.1 ∙ ap (λ (xs : Numbers). k.0 ++ xs) (sym e))

  -- these numbers were read and none goes back
  all-parts : (b : List ℕ) (read : List (Item AsRead)) → AreForward source.most read
      → (Raw-of b).numbers ≡ numbers_read read
      → ((Sequence-of b).numbers ≡ all_handed source.most (numbers_read read))
      × ((Sequence-of b).known ≡ handed_on source.most (numbers_read read))
      × ((Sequence-of b).ending ≡ (Raw-of b).ending)
  all-parts b read f e = parts b (numbers_read read) _ e f.forward_is

  -- behind them one goes back
  back-parts : (read : List (Item AsRead)) (x : Item AsRead) → AreForward source.most read
      → goes_back source.most (number_read x) (numbers_read read) ≡ true
      → HasRead remaining start source.source input (x ∷ read)
      → ((Sequence-of bytes).numbers ≡ all_handed source.most (numbers_read read))
      × ((Sequence-of bytes).known ≡ handed_on source.most (numbers_read read))
      × ((Sequence-of bytes).ending ≡ Faulted (TimeBack x.number))
  back-parts read x f back g =
      let k = read-first remaining start input source.source (numbers_read (x ∷ read)) bytes known g in
      parts bytes (k.0 ++ numbers_read (x ∷ read)) _ k.1
      (forward-back source.most (number_read x) (numbers_read read) f.forward_is back k.0)

  at-parts : (read : List (Item AsRead)) (fault : RecordingFault) → AreForward source.most read
      → StopsAt (HasRead remaining) (HasReadAll remaining) (HasStoppedReading remaining) source.most start source.source
      input read fault
      → ((Sequence-of bytes).numbers ≡ all_handed source.most (numbers_read read))
      × ((Sequence-of bytes).ending ≡ Faulted fault)
  at-parts read fault f (inl s) =
      let k = read-fault remaining start input source.source (numbers_read read) bytes known fault s in
      let p = all-parts bytes read f k.numbers in (p.0, p.2 ∙ k.ending)
  at-parts read fault f (inr (x, g, back, is)) =
      let p = back-parts read x f back g in (p.0, p.2 ∙ ap Faulted (sym is))

  left-first : (read : List (Item AsRead)) → AreLeft source.most read source.held past
      → (Sequence-of bytes).numbers ≡ all_handed source.most (numbers_read read) → AreItsFirst
  left-first read l is =
      let t = take source.most (in_order (numbers_read read)) in
      (take l.left t, is ∙ sym (left-behind source.most l.left (numbers_read read) past l.handed))

  pub given-first : HasTaken remaining start source input past → AreItsFirst
  given-first h = by source.stage refl
    where
      by : (s : Stage) → source.stage ≡ s → AreItsFirst
      by stage.Reading e =
          let k = rw e at h.stands in
          known-is-first h.read h.are_forward k.1.handed
          (read-first remaining start input source.source (numbers_read h.read) bytes known k.0)
      by stage.Over e =
          let k = rw e at h.stands in
          let all = read-all remaining start input source.source (numbers_read h.read) bytes known k.0 in
          left-first h.read k.1 (all-parts bytes h.read h.are_forward (ap (λ (o : Outcome). o.numbers) all)).0
      by (stage.Stopped fault) e =
          let k = rw e at h.stands in
          left-first h.read k.1 (at-parts h.read fault h.are_forward k.0).0

  -- they are all
  pub record AreAll : Type 0 where
    pub numbers : (Sequence-of bytes).numbers ≡ past
    pub ending : (Sequence-of bytes).ending ≡ Over
    pub tally : tally_of_source source ≡ (Sequence-of bytes).tally
    pub few : source.source.numbers ≤ most_numbers

  pub ended-all : HasTakenAll remaining start source input past → AreAll
  ended-all h =
      let all = read-all remaining start input source.source (numbers_read h.read) bytes known h.ended_so in
      let p = all-parts bytes h.read h.are_forward (ap (λ (o : Outcome). o.numbers) all) in
      let r = h.ended_so.remembers in record {
        numbers = p.0 ∙ sym h.all;
        ending = p.2 ∙ ap (λ (o : Outcome). o.ending) all;
        tally = rw (all, r.numbers, r.counts) refl;
        few = subst (λ (n : ℕ). n ≤ most_numbers) (sym r.numbers) h.ended_so.few;
      }

  -- a fault of the recording stands behind them
  pub record HasFaultBehind (fault : RecordingFault) : Type 0 where
    pub numbers : (Sequence-of bytes).numbers ≡ past
    pub ending : (Sequence-of bytes).ending ≡ Faulted fault

  same-fault : (f g : RecordingFault) → run.Recording f ≡ run.Recording g → f ≡ g
  same-fault f g e = cc

  pub stopped-fault : (fault : RecordingFault)
      → HasStoppedTaking remaining start source input past (run.Recording fault)
      → HasFaultBehind fault
  stopped-fault fault (inl s) =
      let k = at-parts s.read s.why s.are_forward s.stops in record {
        numbers = k.0 ∙ sym s.all;
        ending = k.1 ∙ ap Faulted (same-fault s.why fault (sym s.fault_is));
      }
  stopped-fault fault (inr (inl s)) = absurd s.other
  stopped-fault fault (inr (inr s)) = absurd (let e = s.fault_is in cc)

  -- a read failed behind them
  pub record IsCutBehind : Type 0 where
    pub read : List ℕ
    pub gave : Consumes (Some bytes) (remaining (device_of input)) read
    pub known_is : (Sequence-of read).known ≡ past
    pub failed : has_failed input ≡ true

  pub stopped-read : HasStoppedTaking remaining start source input past run.Read → IsCutBehind
  stopped-read (inl s) = absurd (let e = s.fault_is in cc)
  stopped-read (inr (inl s)) =
      let k = read-cut remaining start input source.source (numbers_read s.read) bytes known s.stopped_so in record {
        read = k.read;
        gave = k.gave;
        known_is = (all-parts k.read s.read s.are_forward k.numbers).1 ∙ sym s.known;
        failed = k.failed;
      }
  stopped-read (inr (inr s)) = absurd (let e = s.fault_is in cc)

  -- there was no memory
  pub stopped-memory : HasStoppedTaking remaining start source input past run.Memory → AreItsFirst
  stopped-memory (inl s) = absurd (let e = s.fault_is in cc)
  stopped-memory (inr (inl s)) =
      known-is-first s.read s.are_forward s.known
      (read-memory remaining start input source.source (numbers_read s.read) bytes known s.stopped_so)
  stopped-memory (inr (inr s)) =
      let k = read-first remaining start input source.source (numbers_read (s.x ∷ s.read)) bytes known s.gave_them in
      known-is-first s.read s.are_forward s.known (
        k.0 ++ number_read s.x ∷ [],
        k.1 ∙ sym (append_assoc k.0 (number_read s.x ∷ []) (numbers_read s.read)),
      )

-- ---- no other fault stops it

abbrev pub CanStop : RunFault → Type 0
CanStop (run.Recording fault) = ⊤
CanStop run.Read = ⊤
CanStop run.Memory = ⊤
CanStop _ = ⊥

pub can-stop : {R : Type 0} (remaining : R → Option (List ℕ)) (start input : Watched R) (source : OrderedRecording)
    (past : Numbers) (fault : RunFault) → HasStoppedTaking remaining start source input past fault → CanStop fault
can-stop remaining start input source past fault (inl s) = subst CanStop (sym s.fault_is) tt
can-stop remaining start input source past fault (inr (inl s)) =
    by fault s.stopped_so
  where
    by : (fault : RunFault) → HasStopped remaining start source.source input (numbers_read s.read) fault → CanStop fault
    by (run.Recording f) h = tt
    by run.Read h = tt
    by run.Memory h = tt
    by run.Write h = absurd h.stops
    by run.TooManyLines h = absurd h.stops
    by (run.LineTooLong m) h = absurd h.stops
    by (run.BadLine m) h = absurd h.stops
    by (run.BadHex m) h = absurd h.stops
    by (run.TimeBack m) h = absurd h.stops
    by (run.TimeTooLarge m) h = absurd h.stops
    by (run.BadPort m) h = absurd h.stops
    by (run.Of m) h = absurd h.stops
can-stop remaining start input source past fault (inr (inr s)) = subst CanStop (sym s.fault_is) tt
