-- Where the arrivals of recordings came in: at ports that the options say, or the bytes of frames do.
use Rattle.std.specs.Option.{option_or}
use Rattle.std.proofs.Common.{◌≡◌, ◌+◌, ℕ, List, [], ◌∷◌, ◌++◌, length, take, drop, refl, ap, sym, ◌∙◌, subst}
use Rattle.std.proofs.Common.{◌⊎◌, inl, inr, Bool, true, false, not, Option, Some, None, Result, Ok, Err}
use Rattle.afdx_frame.specs.declared.by_side.BySide.{BySide}
use Rattle.afdx_frame.specs.declared.link.Side.{Side}
use Rattle.afdx_input_lines.specs.declared.fault.RunFault.{RunFault}
use Rattle.afdx_input_lines.specs.declared.fault.RunFault.TheVariants as run
use Rattle.afdx_input_lines.specs.declared.frame_line.FrameKind.{FrameKind}
use Rattle.afdx_input_lines.specs.declared.frame_line.Heading.{Heading}
use Rattle.afdx_input_lines.specs.declared.recording_fault.RecordingFault.{RecordingFault}
use Rattle.afdx_input_lines.specs.declared.recording_fault.RecordingFault.TheVariants as fault
use Rattle.afdx_input_lines.specs.declared.watched.Watched.{Watched}
use Rattle.afdx_input_files.specs.declared.recorded.Recorded.{Recorded}
use Rattle.afdx_input_files.specs.declared.recorded.Recorded.TheVariants as recorded
use Rattle.afdx_input_files.specs.declared.recorded.RecordedFrame.{RecordedFrame}
use Rattle.afdx_input_files.specs.Holding.{standing}
use Rattle.afdx_input_files.specs.Reading as reading
use Rattle.afdx_input_files.specs.Recordings.{Ending, Numbered, Recording, Totals}
use Rattle.afdx_input_sources.specs.Engine.{Item}
use Rattle.afdx_input_sources.specs.declared.ahead.AtHead.{AtHead}
use Rattle.afdx_input_sources.specs.declared.ahead.AtHead.TheVariants as at
use Rattle.afdx_input_sources.specs.declared.entering.Entrance.{Entrance}
use Rattle.afdx_input_sources.specs.declared.becoming.FoundFrame.{FoundFrame}
use Rattle.afdx_input_sources.specs.declared.becoming.NoArrival.{NoArrival}
use Rattle.afdx_input_sources.specs.declared.becoming.NoArrival.TheVariants as no
use Rattle.afdx_input_sources.specs.declared.number.AsRead.{AsRead}
use Rattle.afdx_input_sources.specs.declared.number.Number.{Number}
use Rattle.afdx_input_sources.specs.declared.number.Number.TheVariants.{Arrival, Skipped}
use Rattle.afdx_input_sources.specs.declared.number_line.NumberLine.{NumberLine}
use Rattle.afdx_input_sources.specs.declared.number_line.NumberLine.TheVariants as line
use Rattle.afdx_input_sources.specs.declared.ordered.Stage.{Stage}
use Rattle.afdx_input_sources.specs.declared.ordered.Stage.TheVariants as stage
use Rattle.afdx_input_sources.specs.declared.places.TapPort.{TapPort}
use Rattle.afdx_input_sources.specs.declared.places.TapPoint.{TapPoint}
use Rattle.afdx_input_sources.specs.declared.skipped.Skipped.TheVariants as why
use Rattle.afdx_input_sources.specs.declared.timed_pair.TimedPair.{TimedPair}
use Rattle.afdx_input_sources.specs.Becoming.{Options, becomes, check, ends_with_sequence, entrance_of, entrance_with, entry_of}
use Rattle.afdx_input_sources.specs.Becoming.{found_with, frame_becomes, is_before, is_claimed, is_contradicted}
use Rattle.afdx_input_sources.specs.Becoming.{is_from_start, is_taken, kind_used}
use Rattle.afdx_input_sources.specs.Becoming.{kind_with, line_time, moment_by, options_of, or_else, side_said, whole_moment}
use Rattle.afdx_input_sources.specs.Becoming.{◌>>=◌, ◌>>◌, only_if}
use Rattle.afdx_input_sources.specs.Claims.{Agree, Ports, ports_of, side_claimed}
use Rattle.afdx_input_sources.specs.Entering.{IsEntry}
use Rattle.afdx_input_sources.specs.Laws.{EntriesAgree, GivenAreEntered, GivenOfPairAreEntered}
use Rattle.afdx_input_sources.specs.NumberLines.{Lines, NumberFollows, arrivals_listed, as_arrival, number_order}
use Rattle.afdx_input_sources.specs.OrderedRecording.{HasTaken, HasTakenAll, OrderedRecording, number_taken}
use Rattle.afdx_input_sources.specs.OrderedSource.{AreLeft, StopsAt}
use Rattle.afdx_input_sources.specs.Ordering.{handed_on, in_order}
use Rattle.afdx_input_sources.specs.MergedSource.{IsAheadBy, OfTwo, items_of, taken_of}
use Rattle.afdx_input_sources.specs.TimedPairSource.{IsPaired}
use Rattle.afdx_input_sources.specs.declared.merged.Nth.TheVariants.{First, Second}
use Rattle.afdx_input_sources.specs.Places.{allows, entry_at, entry_said, is_left_out, role_of}
use Rattle.afdx_input_sources.specs.RecordingSource.{HasEnded, HasGiven, HasRead, HasReadAll, HasStopped, HasStoppedReading, first_standing}
use Rattle.afdx_input_sources.specs.Sequences.{Numbers, Outcome, and_then, as_read, number_after, number_by}
use Rattle.afdx_input_sources.specs.Sequences.{numbers_read, read_of_items, with_number}
use Rattle.afdx_input_sources.specs.Taking.{late_of_both, late_of_one}
use Rattle.afdx_input_sources.specs.Timing.{Timed, line_by, origin_in, timed}
use Rattle.afdx_input_sources.proofs.EachLemmas.{Each, each-all, each-append, each-behind, each-drop, each-handed, each-held}
use Rattle.afdx_input_sources.proofs.EachLemmas.{each-both, each-more}
use Rattle.afdx_input_sources.proofs.SequenceLemmas.{sorts-first}
use Rattle.afdx_input_sources.proofs.TimingLemmas.{timed-before}

-- ---- what holds where an arrival came in

module _ (Enters : TapPort → Type 0) where
  abbrev Comes : Number → Type 0
  Comes (Arrival found) = Enters (entry_at found.switch found.port)
  Comes (Skipped reason) = Unit {0}

  abbrev ComesItem : Item Number → Type 0
  ComesItem x = Comes x.head

-- ---- what a frame becomes

abbrev IfGood : {X : Type 0} → (X → Type 0) → Result X NoArrival → Type 0
IfGood P (Ok x) = P x
IfGood P (Err reason) = Unit {0}

module _ (options : Options) (ports : Ports) where
  abbrev HasEntry : FoundFrame → Type 0
  HasEntry found = IsEntry options ports (entry_at found.switch found.port)

  -- where it came in is what is said, or claimed
  abbrev Says : Option TapPoint → List ℕ → Entrance → Type 0
  Says place bytes entrance = entry_of place ports bytes ≡ Some entrance.entry

  entrance-says : (place : Option TapPoint) (bytes : List ℕ)
      → IfGood (Says place bytes) (entrance_of options.network place ports bytes)
  unfolding entrance_of
  entrance-says place bytes =
      by (is_taken (role_of place) bytes) (entry_of place ports bytes) refl
      (option_or (side_said options.network place) (side_claimed bytes))
    where
      by : (named : Bool) (entry : Option TapPort) → entry_of place ports bytes ≡ entry → (side : Option Side)
          → IfGood (Says place bytes) (check named (no.Skipped why.NotAfdx)
          >> (or_else entry (no.Skipped why.UnknownSender) >>= (λ entry.
          or_else side (no.Skipped why.NoNetwork) >>= (λ side.
          Ok (entrance_with (role_of place) side entry (is_claimed options.network place ports)
          (is_contradicted (role_of place) side bytes))))))
      by false entry e side = tt
      by true None e side = tt
      by true (Some entry) e None = tt
      by true (Some entry) e (Some side) = e

  -- once it is known where it came in
  behind-entered : (n : ℕ) (frame : RecordedFrame) (bytes : List ℕ) (stamp : ℕ) (entrance : Entrance)
      → IsEntry options ports entrance.entry → (moment : Result ℕ NoArrival) (kind : Result FrameKind NoArrival)
      → IfGood HasEntry (moment >>= (λ moment.
      check (not (is_before options.origin moment)) (no.Skipped why.BeforeOrigin)
      >> (kind >>= (λ kind. Ok (found_with options.is_second moment entrance (kind_used kind bytes))))))
  behind-entered n frame bytes stamp entrance h (Err reason) kind = tt
  behind-entered n frame bytes stamp entrance h (Ok moment) kind = by (not (is_before options.origin moment)) kind
    where
      by : (early : Bool) (kind : Result FrameKind NoArrival)
          → IfGood HasEntry (check early (no.Skipped why.BeforeOrigin)
          >> (kind >>= (λ kind. Ok (found_with options.is_second moment entrance (kind_used kind bytes)))))
      by false kind = tt
      by true (Err reason) = tt
      by true (Ok kind) = h

  frame-entered : (n : ℕ) (frame : RecordedFrame) (bytes : List ℕ)
      → IfGood HasEntry (frame_becomes options ports n frame bytes)
  unfolding frame_becomes
  frame-entered n frame bytes =
      by (not (is_left_out options.leaves_unsaid place)) (whole_moment options.fcs n frame (length bytes))
      (entrance_of options.network place ports bytes) (entrance-says place bytes)
    where
      place : Option TapPoint
      place = options.place frame.interface

      by : (taken : Bool) (stamp : Result ℕ NoArrival) (entrance : Result Entrance NoArrival)
          → IfGood (Says place bytes) entrance
          → IfGood HasEntry (check taken (no.Skipped why.LeftOut) >> (stamp >>= (λ stamp. entrance >>= (λ entrance.
          moment_by (is_from_start options entrance.role) n stamp (line_time ports entrance.entry
          (ends_with_sequence options.fcs frame.check_sequence) bytes)
          >>= (λ moment. check (not (is_before options.origin moment)) (no.Skipped why.BeforeOrigin)
          >> (or_else (kind_with (ends_with_sequence options.fcs frame.check_sequence) frame.found_wrong bytes)
          (no.Faulted (fault.FcsUnclear n)) >>= (λ kind.
          Ok (found_with options.is_second moment entrance (kind_used kind bytes)))))))))
      by false stamp entrance h = tt
      by true (Err reason) entrance h = tt
      by true (Ok stamp) (Err reason) h = tt
      by true (Ok stamp) (Ok entrance) h =
          behind-entered n frame bytes stamp entrance
          (record { interface = frame.interface; bytes = bytes; says = h })
          (moment_by (is_from_start options entrance.role) n stamp (line_time ports entrance.entry
          (ends_with_sequence options.fcs frame.check_sequence) bytes))
          (or_else (kind_with (ends_with_sequence options.fcs frame.check_sequence) frame.found_wrong bytes)
          (no.Faulted (fault.FcsUnclear n)))

  becomes-entered : (n : ℕ) (what : Recorded) (bytes : List ℕ) → IfGood HasEntry (becomes options ports n what bytes)
  becomes-entered n recorded.NoFrame bytes = tt
  becomes-entered n (recorded.Frame frame) bytes = frame-entered n frame bytes

  -- ---- the numbers of a recording

  -- if it is an arrival it came in so
  abbrev IsIn : Number → Type 0
  IsIn = Comes (IsEntry options ports)

  abbrev IsInItem : Item Number → Type 0
  IsInItem = ComesItem (IsEntry options ports)

  abbrev IfRead : Result Number RecordingFault → Type 0
  IfRead (Ok number) = IsIn number
  IfRead (Err fault) = Unit {0}

  by-entered : (r : Result FoundFrame NoArrival) → IfGood HasEntry r → IfRead (number_by r)
  by-entered (Ok found) h = h
  by-entered (Err (no.Skipped reason)) h = tt
  by-entered (Err (no.Faulted fault)) h = tt

  number-entered : (past : Numbers) (item : Numbered) → IfRead (number_after options ports past item)
  unfolding number_after
  number-entered past item =
      by-entered (becomes options ports (length past + 1) item.what item.bytes)
      (becomes-entered (length past + 1) item.what item.bytes)

  next-entered : (next : Number → Outcome) (past : Numbers) (totals : Totals) (r : Result Number RecordingFault)
      → IfRead r → Each IsInItem past → ((number : Number) → IsIn number → Each IsInItem (next number).numbers)
      → Each IsInItem (and_then next past totals r).numbers
  next-entered next past totals (Ok number) h k f = f number h
  next-entered next past totals (Err fault) h k f = k

  items-entered : (ending : Ending) (totals : Totals) (past : Numbers) (items : List Numbered) → Each IsInItem past
      → Each IsInItem (read_of_items options ports ending totals past items).numbers
  unfolding read_of_items
  items-entered ending totals past [] h = h
  items-entered ending totals past (item ∷ items) h =
      next-entered
      (λ number. read_of_items options ports ending totals (with_number past item.bytes number) items) past totals
      (number_after options ports past item) (number-entered past item) h
      (λ number k. items-entered ending totals (with_number past item.bytes number) items (k, h))

  read-entered : (recording : Recording) → Each IsInItem (as_read options ports recording).numbers
  read-entered recording = items-entered recording.ending recording.totals [] recording.items tt

  part-entered : (recording : Recording) (later past : Numbers)
      → (as_read options ports recording).numbers ≡ later ++ past → Each IsInItem past
  part-entered recording later past e =
      each-behind IsInItem later past (subst (Each IsInItem) e (read-entered recording))

-- ---- a recording as a source

module _ {R : Type 0} (remaining : R → Option (List ℕ)) (start input : Watched R) (source : OrderedRecording) where
  abbrev IsInOf : Item Number → Type 0
  IsInOf = IsInItem (options_of source.source.options) (ports_of source.source.ports)

  part-of : (recording : Recording) (later past : Numbers)
      → (as_read (options_of source.source.options) (ports_of source.source.ports) recording).numbers ≡ later ++ past
      → Each IsInOf past
  part-of recording later past e =
      part-entered (options_of source.source.options) (ports_of source.source.ports) recording later past e

  -- numbers as they are read
  given-read : (past : Numbers) → HasGiven remaining start source.source input past → Each IsInOf past
  given-read past h =
      let first = sorts-first (options_of source.source.options) (ports_of source.source.ports)
      (first_standing remaining start) (standing remaining source.source.reader.held input) past
      (reading.state_of source.source.reader) h.sorts in
      let all = first.numbers [] in
      part-of (reading.recorded (first.read ++ [])) all.0 past all.1

  ended-read : (past : Numbers) → HasEnded remaining start source.source input past → Each IsInOf past
  ended-read past h = part-of (reading.recorded h.read) [] past (ap (λ (o : Outcome). o.numbers) h.says)

  stopped-read : (past : Numbers) (fault : RecordingFault)
      → HasStopped remaining start source.source input past (run.Recording fault) → Each IsInOf past
  stopped-read past fault h =
      part-of (reading.recorded (h.stops.read ++ [])) [] past (h.stops.numbers [] (λ ended. refl))

  -- and in order
  left-entered : (read : List (Item AsRead)) (past : Numbers) → AreLeft source.most read source.held past
      → Each IsInOf (numbers_read read) → Each IsInOf past
  left-entered read past l h =
      subst (Each IsInOf) (sym l.handed)
      (each-append IsInOf (drop l.left (take source.most (in_order (numbers_read read))))
      (handed_on source.most (numbers_read read))
      (each-drop IsInOf l.left (take source.most (in_order (numbers_read read)))
      (each-held IsInOf source.most (numbers_read read) h))
      (each-handed IsInOf source.most (numbers_read read) h))

  at-entered : (read : List (Item AsRead)) (fault : RecordingFault)
      → StopsAt (HasRead remaining) (HasReadAll remaining) (HasStoppedReading remaining) source.most start
      source.source
      input read fault → Each IsInOf (numbers_read read)
  at-entered read fault (inl s) = stopped-read (numbers_read read) fault s
  at-entered read fault (inr s) = (given-read (numbers_read (s.0 ∷ read)) s.1).1

  taken-entered : (past : Numbers) → HasTaken remaining start source input past → Each IsInOf past
  taken-entered past h = by source.stage refl
    where
      by : (s : Stage) → source.stage ≡ s → Each IsInOf past
      by stage.Reading e =
          let k = rw e at h.stands in
          subst (Each IsInOf) (sym k.1.handed)
          (each-handed IsInOf source.most (numbers_read h.read) (given-read (numbers_read h.read) k.0))
      by stage.Over e =
          let k = rw e at h.stands in left-entered h.read past k.1 (ended-read (numbers_read h.read) k.0)
      by (stage.Stopped fault) e =
          let k = rw e at h.stands in left-entered h.read past k.1 (at-entered h.read fault k.0)

  all-entered : (past : Numbers) → HasTakenAll remaining start source input past → Each IsInOf past
  all-entered past h =
      subst (Each IsInOf) (sym h.all)
      (each-all IsInOf source.most (numbers_read h.read) (ended-read (numbers_read h.read) h.ended_so))

  -- those that were taken of it, whatever stands at its head
  ahead-entered : (head : AtHead) (taken : Numbers)
      → IsAheadBy number_order NumberFollows (HasTaken remaining start source input)
      (HasTakenAll remaining start source input) (number_taken source) head taken
      → Each IsInOf taken
  ahead-entered at.Unknown taken h = taken-entered taken h
  ahead-entered (at.Item moment) taken h = (taken-entered (number_taken source ∷ taken) h.0).1
  ahead-entered at.Over taken h = all-entered taken h

-- ---- lines, and the arrivals among them

module _ (Enters : TapPort → Type 0) where
  abbrev IsLineOf : NumberLine → Type 0
  IsLineOf (line.Arrival kind time role side switch port) = Enters (entry_at switch port)
  IsLineOf (line.Skipped reason) = Unit {0}

  abbrev IsLineItem : Item NumberLine → Type 0
  IsLineItem x = IsLineOf x.head

  abbrev IsArrivalOf : Item Heading → Type 0
  IsArrivalOf x = Enters (entry_at x.head.switch x.head.port)

  line-comes : (origin : Option ℕ) (head : Number) → Comes Enters head → IsLineOf (line_by origin head)
  unfolding line_by
  line-comes origin (Arrival found) h = h
  line-comes origin (Skipped reason) h = tt

  lines-come : (late : Item Number → RunFault) (said : Option ℕ) (past : Numbers) (lines : Lines)
      → timed late said past ≡ record { lines = lines; fault = None } → Each (ComesItem Enters) past
      → Each IsLineItem lines
  unfolding timed
  lines-come late said [] lines e h = subst (Each IsLineItem) (ap (λ (t : Timed). t.lines) e) tt
  lines-come late said (x ∷ past) lines e h =
      let b = timed-before late said past x lines e in
      subst (Each IsLineItem) (sym b.all)
      (line-comes (origin_in said past) x.head h.0, lines-come late said past b.first b.is h.1)

  arrival-next : (n : ℕ) (bytes : List ℕ) (head : NumberLine) (past : List (Item Heading)) → IsLineOf head
      → Each IsArrivalOf past → Each IsArrivalOf (as_arrival n bytes head past)
  arrival-next n bytes (line.Arrival kind time role side switch port) past h k = (h, k)
  arrival-next n bytes (line.Skipped reason) past h k = k

  arrivals-come : (lines : Lines) → Each IsLineItem lines → Each IsArrivalOf (arrivals_listed lines)
  unfolding arrivals_listed
  arrivals-come [] h = tt
  arrivals-come (x ∷ lines) h =
      arrival-next x.number x.bytes x.head (arrivals_listed lines) h.0 (arrivals-come lines h.1)

  -- of an arrival that was given last
  arrival-comes : (late : Item Number → RunFault) (said : Option ℕ) (numbers : Numbers) (lines : Lines)
      (past : List (Item Heading)) (x : Item Heading)
      → timed late said numbers ≡ record { lines = lines; fault = None } → Each (ComesItem Enters) numbers
      → x ∷ past ≡ arrivals_listed lines → IsArrivalOf x
  arrival-comes late said numbers lines past x e h is =
      (subst (Each IsArrivalOf) (sym is) (arrivals-come lines (lines-come late said numbers lines e h))).0

pub given-entered : {R : Type 0} (remaining : R → Option (List ℕ)) → GivenAreEntered remaining
given-entered remaining start input source past x g =
    let recording = source.numbers.source in
    let k = g.known_so in
    arrival-comes (IsEntry (options_of recording.options) (ports_of recording.ports)) late_of_one source.clock.said
    k.numbers g.lines past x k.are_timed.timed_as
    (taken-entered remaining start input source.numbers k.numbers k.gave_them) g.items_are

-- ---- of two

pub entry-agrees : EntriesAgree
entry-agrees options p q entry a h = record {
  interface = h.interface;
  bytes = h.bytes;
  says = ap (λ (e : Option TapPort). option_or (entry_said (options.place h.interface))
      (only_if (allows (options.place h.interface)) e)) (sym (a.entries h.bytes)) ∙ h.says;
}

module _ {R : Type 0} (remaining : R → Option (List ℕ)) (start inputs : BySide (Watched R))
    (source : TimedPair OrderedRecording) (ports : Ports)
    (agree_a : Agree (ports_of source.pair.first.source.source.ports) ports)
    (agree_b : Agree (ports_of source.pair.second.source.source.ports) ports) where
  abbrev of_a : Options
  of_a = options_of source.pair.first.source.source.options

  abbrev of_b : Options
  of_b = options_of source.pair.second.source.source.options

  abbrev EntersOne : TapPort → Type 0
  EntersOne entry = IsEntry of_a ports entry ⊎ IsEntry of_b ports entry

  comes-a : (head : Number) → IsIn of_a (ports_of source.pair.first.source.source.ports) head
      → Comes EntersOne head
  comes-a (Arrival found) h =
      inl (entry-agrees of_a (ports_of source.pair.first.source.source.ports) ports (entry_at found.switch found.port)
      agree_a h)
  comes-a (Skipped reason) h = tt

  comes-b : (head : Number) → IsIn of_b (ports_of source.pair.second.source.source.ports) head
      → Comes EntersOne head
  comes-b (Arrival found) h =
      inr (entry-agrees of_b (ports_of source.pair.second.source.source.ports) ports (entry_at found.switch
      found.port)
      agree_b h)
  comes-b (Skipped reason) h = tt

  item-a : (x : Item Number) → IsInOf remaining start.a inputs.a source.pair.first.source x → ComesItem EntersOne x
  item-a x h = comes-a x.head h

  item-b : (x : Item Number) → IsInOf remaining start.b inputs.b source.pair.second.source x → ComesItem EntersOne x
  item-b x h = comes-b x.head h

  paired-come : (past : List (OfTwo Number))
      → IsPaired number_taken (HasTaken remaining) (HasTakenAll remaining) start source inputs past
      → Each (ComesItem EntersOne) (items_of past)
  paired-come past p =
      let a = source.pair.first in
      let b = source.pair.second in
      let P = ComesItem EntersOne in
      each-both P past
      (each-more (IsInOf remaining start.a inputs.a a.source) P item-a (taken_of First past)
      (ahead-entered remaining start.a inputs.a a.source a.head (taken_of First past) p.first.known))
      (each-more (IsInOf remaining start.b inputs.b b.source) P item-b (taken_of Second past)
      (ahead-entered remaining start.b inputs.b b.source b.head (taken_of Second past) p.second.known))

pub given-of-pair-entered : {R : Type 0} (remaining : R → Option (List ℕ)) → GivenOfPairAreEntered remaining
given-of-pair-entered remaining start inputs source ports past x agree_a agree_b g =
    let k = g.known_so in
    arrival-comes (EntersOne remaining start inputs source ports agree_a agree_b) late_of_both source.clock.said
    (items_of k.past) g.lines past x k.are_timed.timed_as
    (paired-come remaining start inputs source ports agree_a agree_b k.past k.is_paired) g.items_are
