-- What a run over a recording answers, from what it hands from the recording to its machine.
use Rattle.std.proofs.Common.{◌≡◌, ◌≤◌, ◌+◌, ℕ, List, [], ◌∷◌, ◌++◌, length, length-append, if◌then◌else◌, refl, ap, sym, ◌∙◌, subst}
use Rattle.std.proofs.Common.{Option, Some, None, Result, Err, IfSome, arith, true, false, Bool, inl, inr}
use Rattle.std.specs.Io.KnownBytes.{Consumes}
use Rattle.std.proofs.KnownBytes.{Consumes-nil}
use Rattle.std.proofs.Math.Seq.{take-nil}
use Rattle.std.proofs.lemmas.List.Sorted.{IsPermutation-refl}
use Rattle.afdx_input_lines.specs.Calls.{is_read}
use Rattle.afdx_input_lines.specs.Watching.{has_ended}
use Rattle.afdx_input_lines.specs.declared.fault.RunFault.{RunFault}
use Rattle.afdx_input_lines.specs.declared.fault.RunFault.TheVariants as run
use Rattle.afdx_input_lines.specs.declared.recording_fault.RecordingFault.{RecordingFault}
use Rattle.afdx_input_lines.specs.declared.watched.Watched.{Watched}
use Rattle.afdx_input_files.specs.Holding.{Standing, standing, GivesSome, last_calls}
use Rattle.afdx_input_files.specs.Recordings.{State, Over, Faulted}
use Rattle.afdx_input_files.specs.declared.held.Held.{Held}
use Rattle.afdx_input_sources.specs.Engine.{Item}
use Rattle.afdx_input_sources.specs.declared.becoming.RecordingOptions.{RecordingOptions}
use Rattle.afdx_input_sources.specs.declared.counts.Tally.{Tally}
use Rattle.afdx_input_sources.specs.declared.number.Number.{Number}
use Rattle.afdx_input_sources.specs.declared.senders.SystemPorts.{SystemPorts}
use Rattle.afdx_input_sources.specs.declared.timed_numbers.TimedNumbers.{TimedNumbers}
use Rattle.afdx_input_sources.specs.Becoming.{Options, options_of}
use Rattle.afdx_input_sources.specs.Claims.{Ports, ports_of}
use Rattle.afdx_input_runs.specs.ListText.{lines_themselves}
use Rattle.afdx_input_sources.specs.NumberLines.{Lines, arrivals_listed}
use Rattle.afdx_input_sources.specs.OrderedRecording.{OrderedRecording, IsSetInOrder, IsUnread, tally_of_source}
use Rattle.afdx_input_sources.specs.OrderedRecording.{HasTaken, HasTakenAll, HasStoppedTaking}
use Rattle.afdx_input_sources.specs.OrderedSource.{AreHeld}
use Rattle.afdx_input_sources.specs.Ordering.{Sequence, forward, handed_on, in_order}
use Rattle.afdx_input_runs.specs.ReadPair.{IsNewOne}
use Rattle.afdx_input_runs.specs.RecordingRun.{IsAskedOnce}
use Rattle.afdx_input_sources.specs.RecordingSource.{first_standing, HasRead}
use Rattle.afdx_input_sources.specs.Sequences.{Numbers, counts_of, has_arrival, latest_of}
use Rattle.afdx_input_sources.specs.Taking.{AreCutOff, Taken, fault_of, late_of_one, sequence_of_bytes, taken_of, taken_of_bytes}
use Rattle.afdx_input_runs.specs.TakenRun.{TakenAnswers}
use Rattle.afdx_input_sources.specs.TimedSource.{HasTimed, HasTimedAll, HasStoppedTiming}
use Rattle.afdx_input_sources.specs.Timing.{Timed, fault_or, origin_in, timed}
use Rattle.afdx_input_sources.proofs.OrderedKnownLemmas.{AreAll, CanStop, IsSound, taken-sound, all-sound, stopped-sound}
use Rattle.afdx_input_sources.proofs.OrderedKnownLemmas.{given-first, ended-all, stopped-fault, stopped-read}
use Rattle.afdx_input_sources.proofs.OrderedKnownLemmas.{stopped-memory, can-stop}
use Rattle.afdx_input_runs.specs.Over.{AreFirstLines, AreAllLines, IsAsked, IsSetOne, StopsBehindLines, Takes, way_of_one}
use Rattle.afdx_input_runs.proofs.TakenLemmas.{taken-start}
use Rattle.afdx_input_sources.proofs.TimingLemmas.{timed-extends, timed-stopped}

-- ---- how often an input is asked

last-few : (now : Standing) → last_calls now ≤ 1
last-few now = by now.over
  where
    by : (over : Bool) → (if over then 1 else 0) ≤ 1
    by true = omega arith
    by false = omega arith

-- it wasn't asked
pub unasked : (left : Option (List ℕ)) (calls : ℕ) → IsAskedOnce left left calls calls
unasked None calls = tt
unasked (Some left) calls = omega arith

asked-of : (left rest : Option (List ℕ)) (given : List ℕ) (old new last : ℕ) → Consumes left rest given
    → new ≤ old + length given + last → last ≤ 1 → IsAskedOnce left rest old new
asked-of None rest given old new last c calls few = tt
asked-of (Some left) None given old new last c calls few = tt
asked-of (Some left) (Some rest) given old new last c calls few =
    let n = ap (λ (xs : List ℕ). length xs) c ∙ length-append given rest in
    omega (arith, n, calls, few)

-- where what it gives is known, it was asked once for each byte at most, and once more
asked-once : (first now : Standing) → GivesSome first now → first.over ≡ false
    → IsAskedOnce first.left now.left first.calls now.calls
asked-once first now (given, gives) unasked =
    let calls : now.calls ≤ first.calls + length given + last_calls now =
    (let c = gives.calls in omega (arith, c)) in
    asked-of first.left now.left given first.calls now.calls (last_calls now) gives.consumed calls (last-few now)

pub asked-by : {R : Type 0} (remaining : R → Option (List ℕ)) (start input : Watched R) (held : Held)
    → GivesSome (first_standing remaining start) (standing remaining held input) → IsAsked remaining start input
asked-by remaining start input held gives fresh =
    asked-once (first_standing remaining start) (standing remaining held input) gives fresh

-- ---- its lines

module _ (said : Option ℕ) (outcome : Sequence) where
  abbrev Lines-of : Numbers → Timed
  Lines-of numbers = timed late_of_one said numbers

  pub lines-first : (past later : Numbers) (lines : Lines) (fault : Option RunFault)
      → Lines-of past ≡ record { lines = lines; fault = fault } → outcome.numbers ≡ later ++ past
      → AreFirstLines (taken_of said outcome) lines
  lines-first past later lines fault e is =
      let h = timed-extends late_of_one said past lines fault e later in
      (h.0, ap (λ (all : Numbers). (Lines-of all).lines) is ∙ h.1)

  pub lines-all : (past : Numbers) (lines : Lines) → Lines-of past ≡ record { lines = lines; fault = None }
      → outcome.numbers ≡ past → outcome.ending ≡ Over → AreAllLines (taken_of said outcome) lines
  lines-all past lines e is over =
      let all = ap (λ (all : Numbers). Lines-of all) is ∙ e in record {
        over = ap (λ (t : Timed). fault_or t.fault (fault_of run.Recording outcome.ending)) all
            ∙ ap (λ ending. fault_of run.Recording ending) over;
        lines_are = ap (λ (t : Timed). t.lines) all;
      }

  pub lines-fault : (past : Numbers) (lines : Lines) (fault : RecordingFault)
      → Lines-of past ≡ record { lines = lines; fault = None }
      → outcome.numbers ≡ past → outcome.ending ≡ Faulted fault
      → ((taken_of said outcome).fault ≡ Some (run.Recording fault)) × ((taken_of said outcome).lines ≡ lines)
  lines-fault past lines fault e is stops =
      let all = ap (λ (all : Numbers). Lines-of all) is ∙ e in (
        ap (λ (t : Timed). fault_or t.fault (fault_of run.Recording outcome.ending)) all
            ∙ ap (λ ending. fault_of run.Recording ending) stops,
        ap (λ (t : Timed). t.lines) all,
      )

  -- a number is too late
  pub lines-late : (past later : Numbers) (lines : Lines) (fault : RunFault)
      → Lines-of past ≡ record { lines = lines; fault = Some fault } → outcome.numbers ≡ later ++ past
      → ((taken_of said outcome).fault ≡ Some fault) × ((taken_of said outcome).lines ≡ lines)
  lines-late past later lines fault e is =
      let all = ap (λ (all : Numbers). Lines-of all) is ∙ timed-stopped late_of_one said past lines fault e later in (
        ap (λ (t : Timed). fault_or t.fault (fault_of run.Recording outcome.ending)) all,
        ap (λ (t : Timed). t.lines) all,
      )

abbrev timed-with : Lines → RunFault → Timed
timed-with lines fault = record { lines = lines; fault = Some fault }

-- ---- what is known of a source, from call to call

module _ {R : Type 0} (remaining : R → Option (List ℕ)) (start input : Watched R)
    (source : TimedNumbers OrderedRecording) where
  abbrev pub Gave : Lines → Type 0
  Gave lines = HasTimed (HasTaken remaining) (HasTakenAll remaining) start source input lines

  abbrev pub Ended : Lines → Type 0
  Ended lines = HasTimedAll (HasTaken remaining) (HasTakenAll remaining) start source input lines

  abbrev pub Stopped : Lines → RunFault → Type 0
  Stopped lines fault =
      HasStoppedTiming (HasTaken remaining) (HasTakenAll remaining) (HasStoppedTaking remaining) start source input
      lines fault

  abbrev First : Standing
  First = first_standing remaining start

  abbrev Now : Standing
  Now = standing remaining source.numbers.source.reader.held input

  pub gave-sound : (lines : Lines) → Gave lines → IsSound remaining start input source.numbers
  gave-sound lines g = taken-sound remaining start input source.numbers g.numbers g.gave_them

  pub ended-sound : (lines : Lines) → Ended lines → (input.failed ≡ false) × (input.ended ≡ true) × GivesSome First Now
  ended-sound lines g = all-sound remaining start input source.numbers g.numbers g.ended_so

  pub stopped-so : (lines : Lines) (fault : RunFault) → Stopped lines fault
      → (input.failed ≡ is_read fault) × GivesSome First Now
  stopped-so lines fault (inl s) = stopped-sound remaining start input source.numbers s.numbers fault s.stopped_so
  stopped-so lines fault (inr s) =
      let k = taken-sound remaining start input source.numbers (s.x ∷ s.before) s.gave_them in
      (k.0 ∙ sym (ap is_read s.fault_is), k.1)

  module _ (said : source.clock.said ≡ source.numbers.source.options.origin) (set : IsSetInOrder source.numbers)
      (bytes : List ℕ)
      (e : remaining start.inner ≡ Some bytes) where
    abbrev Options-of : Options
    Options-of = options_of source.numbers.source.options

    abbrev Ports-of : Ports
    Ports-of = ports_of source.numbers.source.ports

    abbrev All : Taken
    All = taken_of_bytes Options-of Ports-of bytes

    abbrev Cut : Lines → Type 0
    Cut lines = AreCutOff Options-of Ports-of bytes (remaining input.inner) lines

    by-said : (numbers : Numbers) (all : Timed) → timed late_of_one source.clock.said numbers ≡ all
        → timed late_of_one source.numbers.source.options.origin numbers ≡ all
    by-said numbers all t = ap (λ (o : Option ℕ). timed late_of_one o numbers) (sym said) ∙ t

    gave-known : (lines : Lines) → Gave lines → AreFirstLines All lines
    gave-known lines g =
        let k = given-first remaining start input source.numbers set g.numbers bytes e g.gave_them in
        lines-first Options-of.origin (sequence_of_bytes Options-of Ports-of bytes) g.numbers k.0 lines None
        (by-said g.numbers _ g.are_timed.timed_as) k.1

    whole-known : (lines : Lines) (g : Ended lines) → AreAll remaining start input source.numbers set g.numbers bytes e
    whole-known lines g = ended-all remaining start input source.numbers set g.numbers bytes e g.ended_so

    ended-known : (lines : Lines) → Ended lines → AreAllLines All lines
    ended-known lines g =
        let k = whole-known lines g in
        lines-all Options-of.origin (sequence_of_bytes Options-of Ports-of bytes) g.numbers lines
        (by-said g.numbers _ g.are_timed.timed_as) k.numbers k.ending

    ended-tally : (lines : Lines) → Ended lines → tally_of_source source.numbers ≡ All.tally
    ended-tally lines g = (whole-known lines g).tally

    no-other : (numbers : Numbers) (fault : RunFault)
        → HasStoppedTaking remaining start source.numbers input numbers fault → CanStop fault
    no-other numbers fault s = can-stop remaining start input source.numbers numbers fault s

    stops-known : (numbers : Numbers) (lines : Lines) (fault : RunFault)
        → timed late_of_one Options-of.origin numbers ≡ record { lines = lines; fault = None }
        → HasStoppedTaking remaining start source.numbers input numbers fault → StopsBehindLines All Cut lines fault
    stops-known numbers lines (run.Recording fault) t s =
        let k = stopped-fault remaining start input source.numbers set numbers bytes e fault s in
        lines-fault Options-of.origin (sequence_of_bytes Options-of Ports-of bytes) numbers lines fault t
        k.numbers k.ending
    stops-known numbers lines run.Read t s =
        let k = stopped-read remaining start input source.numbers set numbers bytes e s in (
          k.read,
          k.gave,
          sym (ap (λ (all : Numbers). (timed late_of_one Options-of.origin all).lines) k.known_is
              ∙ ap (λ (t : Timed). t.lines) t),
        )
    stops-known numbers lines run.Memory t s =
        let k = stopped-memory remaining start input source.numbers set numbers bytes e s in
        lines-first Options-of.origin (sequence_of_bytes Options-of Ports-of bytes) numbers k.0 lines None t k.1
    stops-known numbers lines run.Write t s = absurd (no-other numbers run.Write s)
    stops-known numbers lines (run.Of fault) t s = absurd (no-other numbers (run.Of fault) s)
    stops-known numbers lines run.TooManyLines t s = absurd (no-other numbers run.TooManyLines s)
    stops-known numbers lines (run.LineTooLong m) t s = absurd (no-other numbers (run.LineTooLong m) s)
    stops-known numbers lines (run.BadLine m) t s = absurd (no-other numbers (run.BadLine m) s)
    stops-known numbers lines (run.BadHex m) t s = absurd (no-other numbers (run.BadHex m) s)
    stops-known numbers lines (run.TimeBack m) t s = absurd (no-other numbers (run.TimeBack m) s)
    stops-known numbers lines (run.TimeTooLarge m) t s = absurd (no-other numbers (run.TimeTooLarge m) s)
    stops-known numbers lines (run.BadPort m) t s = absurd (no-other numbers (run.BadPort m) s)

    late-known : (before : Numbers) (x : Item Number) (lines : Lines) (fault : RunFault) → fault ≡ late_of_one x
        → HasTaken remaining start source.numbers input (x ∷ before)
        → timed late_of_one Options-of.origin (x ∷ before) ≡ record { lines = lines; fault = Some fault }
        → StopsBehindLines All Cut lines fault
    late-known before x lines fault is g t =
        let k = given-first remaining start input source.numbers set (x ∷ before) bytes e g in
        let h = lines-late Options-of.origin (sequence_of_bytes Options-of Ports-of bytes) (x ∷ before) k.0 lines
        (late_of_one x) (t ∙ ap (λ (f : RunFault). timed-with lines f) is) k.1 in
        subst (λ (f : RunFault). StopsBehindLines All Cut lines f) (sym is) h

    stopped-known : (lines : Lines) (fault : RunFault) → Stopped lines fault → StopsBehindLines All Cut lines fault
    stopped-known lines fault (inl s) =
        stops-known s.numbers lines fault (by-said s.numbers _ s.are_timed.timed_as) s.stopped_so
    stopped-known lines fault (inr s) =
        late-known s.before s.x lines fault s.fault_is s.gave_them (by-said (s.x ∷ s.before) _ s.is_late.timed_as)

    pub one-takes : Takes lines_themselves All Cut Gave Ended Stopped (tally_of_source source.numbers)
    one-takes = record {
      first = λ lines g. record { lines = lines; known_so = gave-known lines g; items_are = refl };
      all = λ lines g. record { lines = lines; known_so = ended-known lines g; items_are = refl };
      tally = λ lines g. ended-tally lines g;
      stops = λ lines fault s. record { lines = lines; known_so = stopped-known lines fault s; items_are = refl };
    }

-- ---- before the first read

-- nothing was read yet
read-start : {R : Type 0} (remaining : R → Option (List ℕ)) (input : Watched R) (source : OrderedRecording)
    → input.failed ≡ false → has_ended input ≡ false → IsUnread source
    → HasRead remaining input source.source input []
unfolding counts_of has_arrival
read-start remaining input source sound ended new = record {
  sound = sound;
  honest = λ e. absurd (cc);
  numbers = sym (ap (λ (s : State). s.numbers) new.state);
  few = omega arith;
  remembers = record { numbers = new.numbers; counts = new.counts; arrival = new.arrival };
  sorts = record {
    read = [];
    gives = record { consumed = Consumes-nil _; calls = omega arith };
    says = λ more. rw (new.unread_is, new.state) refl;
  };
}

none-held : (most : ℕ) (held : List (Item Number)) → held ≡ [] → AreHeld most [] held []
unfolding in_order handed_on
none-held most held e = record { are_held = rw (e, take-nil most) (IsPermutation-refl []); handed = refl }

pub gave-start : {R : Type 0} (remaining : R → Option (List ℕ)) (input : Watched R) (source : OrderedRecording)
    → input.failed ≡ false → has_ended input ≡ false → IsUnread source → HasTaken remaining input source input []
unfolding latest_of forward
gave-start remaining input source sound ended new = record {
  read = [];
  are_forward = record { numbered = tt; few = omega arith; forward_is = refl };
  latest = new.latest;
  stands = rw new.stage (read-start remaining input source sound ended new, none-held source.most source.held new.held);
}

module _ (o : RecordingOptions) (p : SystemPorts) (source : TimedNumbers OrderedRecording)
    (new : IsNewOne o p source) where
  -- nor was a line given
  pub timed-start : {R : Type 0} (remaining : R → Option (List ℕ)) (input : Watched R) → input.failed ≡ false
      → has_ended input ≡ false → HasTimed (HasTaken remaining) (HasTakenAll remaining) input source input []
  unfolding timed origin_in
  timed-start remaining input sound ended = record {
    numbers = [];
    gave_them = gave-start remaining input source.numbers sound ended new.unread;
    are_timed = record { timed_as = refl; zero = new.zero ∙ sym new.said };
  }

  -- and it is set as its options say
  pub one-set : IsSetOne (way_of_one source)
  one-set = record {
    order = new.order;
    said = new.said
        ∙ sym (ap (λ (o : RecordingOptions). o.origin) new.options_are);
  }

  -- what is answered by the options and the ports that it was made with
  module _ {H : Type 0} (items_of : Lines → List (Item H)) (done told begins : List (Item H) → Type 0)
      (r : Result Tally RunFault) (left rest : Option (List ℕ)) where
    abbrev OneAnswers : RecordingOptions → SystemPorts → Type 0
    OneAnswers o p =
        IfSome left (λ bytes. TakenAnswers (taken_of_bytes (options_of o) (ports_of p) bytes)
        (AreCutOff (options_of o) (ports_of p) bytes rest) items_of done told begins r)

    pub one-by : OneAnswers source.numbers.source.options source.numbers.source.ports → OneAnswers o p
    one-by h =
        subst (λ (q : SystemPorts). OneAnswers o q) new.ports_are
        (subst (λ (q : RecordingOptions). OneAnswers q source.numbers.source.ports) new.options_are h)

-- no lines are no arrivals
pub listed-none : arrivals_listed [] ≡ []
unfolding arrivals_listed
listed-none = refl

-- there was no memory
pub answers-start : {H : Type 0} (options : Options) (ports : Ports) (items_of : Lines → List (Item H))
    (done told begins : List (Item H) → Type 0) (left rest : Option (List ℕ)) → items_of [] ≡ [] → told []
    → IfSome left (λ bytes. TakenAnswers (taken_of_bytes options ports bytes) (AreCutOff options ports bytes rest)
    items_of done told begins (Err run.Memory))
answers-start options ports items_of done told begins None rest e t = tt
answers-start options ports items_of done told begins (Some bytes) rest e t =
    taken-start (taken_of_bytes options ports bytes) (AreCutOff options ports bytes rest) items_of done told begins e t
