-- The frames that a run takes: their times don't go back, and none is too late.
use Rattle.std.proofs.Common.{◌≡◌, ◌≤◌, ℕ, zero, suc, List, [], ◌∷◌, ◌++◌, reverse, length, refl, ap, sym, ◌∙◌, subst, arith}
use Rattle.std.proofs.Common.{Option, Some, None, Result, Ok, Err, slice_index_or, map, inl, inr}
use Rattle.std.proofs.lemmas.List.{reverse-reverse}
use Rattle.afdx_frame.specs.Times.{latest_listed}
use Rattle.afdx_input_lines.specs.FrameLines.{ListedFrame, frame_form, line_says, listed_frame}
use Rattle.afdx_input_lines.specs.Lines.{lines_of}
use Rattle.afdx_input_lines.specs.Watching.{device_of, has_failed}
use Rattle.afdx_input_lines.specs.declared.fault.LineFault.{LineFault}
use Rattle.afdx_input_lines.specs.declared.fault.RunFault.{RunFault}
use Rattle.afdx_input_lines.specs.declared.frame_line.Heading.{Heading}
use Rattle.afdx_input_lines.specs.declared.role.ByRole.{ByRole}
use Rattle.afdx_input_lines.specs.declared.role.Role.{Role}
use Rattle.afdx_input_lines.specs.declared.role.Role.TheVariants.{Came, Left}
use Rattle.afdx_input_lines.specs.declared.watched.Watched.{Watched}
use Rattle.afdx_input_lines.proofs.FieldLemmas.{time_fault-none}
use Rattle.afdx_input_lines.proofs.FormLemmas.{says-from}
use Rattle.afdx_input_lines.proofs.FrameLemmas.{numbers_fault-none}
use Rattle.afdx_police.specs.Arrival.{Arrival}
use Rattle.afdx_input_files.specs.Reading.{recorded}
use Rattle.afdx_input_sources.specs.Causes.{Cause, cause_of, FailedRead, FailedWrite, NoMemory, BadInput}
use Rattle.afdx_input_sources.specs.Engine.{Item, item_of}
use Rattle.afdx_input_sources.specs.Items.{arrivals, thing_of}
use Rattle.afdx_input_sources.specs.Listed.{arrivals_of, frames, said_after}
use Rattle.afdx_input_sources.specs.Lists.{items_of, latest_in, with_item}
use Rattle.afdx_input_sources.specs.Becoming.{Options, message_with, options_of, seal_with}
use Rattle.afdx_input_sources.specs.Claims.{Ports}
use Rattle.afdx_input_sources.specs.Laws.{AreInOrder}
use Rattle.afdx_input_sources.specs.NumberLines.{Lines, arrivals_listed, as_arrival}
use Rattle.afdx_input_sources.specs.Taking.{Taken, AreCutOff, arrivals_in, taken_of_bytes}
use Rattle.afdx_input_sources.specs.declared.becoming.RecordingOptions.{RecordingOptions}
use Rattle.afdx_input_sources.specs.declared.number_line.NumberLine.{NumberLine}
use Rattle.afdx_input_sources.specs.declared.number_line.NumberLine.TheVariants as line
use Rattle.afdx_input_sources.proofs.LawLemmas.{both-in-order, bytes-in-order, cut-in-order, cut-one-in-order}
use Rattle.afdx_input_runs.specs.Joining.{Coming, Frame, Joined, ListsTo, first_of, frames_of, joined}
use Rattle.afdx_input_runs.specs.JoiningLaws.{IsBehind, MayPrecede, of_role, with_one}
use Rattle.afdx_input_runs.specs.JoiningLaws as order
use Rattle.afdx_input_runs.specs.SeenFrames.{GoOn, StopsListed, StopsSeeing, latest_frame}
use Rattle.afdx_input_runs.specs.SeenFrames.{TakesLists, TakesRecording, TakesRecordings}
use Rattle.afdx_input_runs.specs.SeenLines.{as_seen, frames_in, frames_listed, seen_listed}
use Rattle.afdx_input_runs.specs.SeenRun.{AreCutOffByRole, options_of_came, options_of_left, taken_by_role}
use Rattle.afdx_input_runs.specs.TwoListsRun.{AreListed, OneIsCutOff}
use Rattle.afdx_input_runs.specs.declared.seen.Seen.{Seen}
use Rattle.afdx_input_runs.specs.declared.seen_frames.SeenCount.{SeenCount}
use Rattle.afdx_input_runs.specs.declared.seen_frames.SeenCount.TheVariants as count
use Rattle.afdx_input_runs.proofs.JoinLawLemmas.{AreFrom, can-start, each-list, first-from, from-same, order-join}

-- ---- of recordings

-- the arrivals of these frames
abbrev arrivals-of : List Frame → List Arrival
arrivals-of past = map (λ (x : Frame). x.arrival) past

same-next : (n : ℕ) (bytes : List ℕ) (head : NumberLine) (seen : List (Item Seen)) (past : List (Item Heading))
    → arrivals-of (frames_of seen) ≡ arrivals past
    → arrivals-of (frames_of (as_seen n bytes head seen)) ≡ arrivals (as_arrival n bytes head past)
same-next n bytes (line.Arrival kind time role side switch port) seen past e =
    let seal = seal_with kind bytes in
    let x : Item Heading = item_of n (record { time = time; side = side; switch = switch; port = port; seal = seal })
    (message_with kind bytes) in
    ap (λ (xs : List Arrival). thing_of frames listed_frame x ∷ xs) e
same-next n bytes (line.Skipped reason) seen past e = e

pub same-arrivals : (lines : Lines) → arrivals-of (frames_listed lines) ≡ arrivals (arrivals_listed lines)
unfolding seen_listed arrivals_listed
same-arrivals [] = refl
same-arrivals (x ∷ lines) =
    same-next x.number x.bytes x.head (seen_listed lines) (arrivals_listed lines) (same-arrivals lines)

latest-same : (past : List Frame) → latest_in frames (arrivals-of past) ≡ latest_frame past
latest-same [] = refl
latest-same (x ∷ past) = refl

go-on : (past : List Frame) → AreInOrder (arrivals-of past) → GoOn past
go-on [] h = tt
go-on (x ∷ past) (later, early, rest) =
    (subst (λ (n : ℕ). n ≤ x.arrival.time) (latest-same past) later, early, go-on past rest)

pub lines-go-on : (lines : Lines) → AreInOrder (arrivals (arrivals_listed lines)) → GoOn (frames_listed lines)
lines-go-on lines h =
    go-on (frames_listed lines) (subst AreInOrder (sym (same-arrivals lines)) h)

-- so do some first of them
pub first-go-on : (later past : List Frame) → GoOn (later ++ past) → GoOn past
first-go-on [] past h = h
first-go-on (x ∷ later) past (order, early, rest) = first-go-on later past rest

module _ (whole : Taken) (AreCut : Lines → Type 0) (ordered : AreInOrder (arrivals_in whole))
    (cut : (lines : Lines) → AreCut lines → AreInOrder (arrivals (arrivals_listed lines)))
    (past : List Frame) where
  pub all-go-on : frames_in whole ≡ past → GoOn past
  all-go-on e = subst GoOn e (lines-go-on whole.lines ordered)

  some-go-on : (later : List Frame) → frames_in whole ≡ later ++ past → GoOn past
  some-go-on later e = first-go-on later past (subst GoOn e (lines-go-on whole.lines ordered))

  pub stops-go-on : (fault : RunFault) (cause : Cause) → StopsSeeing whole AreCut past fault cause → GoOn past
  stops-go-on fault FailedRead (lines, c, e) = subst GoOn e (lines-go-on lines (cut lines c))
  stops-go-on fault FailedWrite (later, e) = some-go-on later e
  stops-go-on fault NoMemory (later, e) = some-go-on later e
  stops-go-on fault BadInput h = all-go-on h.1

-- ---- of lists

abbrev AreEarly : List Arrival → Type 0
AreEarly [] = Unit {0}
AreEarly (x ∷ past) = (x.time ≤ latest_listed) × AreEarly past

line-early : (latest : ℕ) (line : List ℕ) (frame : ListedFrame) → line_says latest line ≡ Ok (Some frame)
    → frame.time ≤ latest_listed
unfolding line_says
line-early latest line frame h =
    let s = says-from frame_form latest line frame h in
    let parts = numbers_fault-none s.fields.time s.fields.port latest s.sound in
    let early = time_fault-none s.fields.time latest parts.0 in
    let same : s.fields.time ≡ frame.time = ap (λ (f : ListedFrame). f.time) s.is in
    omega (arith, early.0, same)

arrivals-early : (lines : List (List ℕ)) (n : ℕ) → AreEarly (arrivals_of lines n)
unfolding items_of
arrivals-early lines zero = tt
arrivals-early lines (suc n) = by (said_after (arrivals_of lines n) (slice_index_or lines n []))
    refl (arrivals-early lines n)
  where
    by : (r : Result (Option ListedFrame) LineFault)
        → said_after (arrivals_of lines n) (slice_index_or lines n []) ≡ r
        → AreEarly (arrivals_of lines n) → AreEarly (with_item frames (suc n) r (arrivals_of lines n))
    by (Err fault) is early = early
    by (Ok None) is early = early
    by (Ok (Some frame)) is early =
        (line-early (latest_in frames (arrivals_of lines n)) (slice_index_or lines n []) frame is, early)

early-behind : (later past : List Arrival) → AreEarly (later ++ past) → AreEarly past
early-behind [] past h = h
early-behind (x ∷ later) past h = early-behind later past h.1

-- what comes of a list are its first frames
pub record ComesFirst (bytes : List ℕ) (next : List Arrival) : Type 0 where
  pub lines : ℕ
  pub next_is : next ≡ reverse (first_of bytes lines)

comes-early : (bytes : List ℕ) (next : List Arrival) → ComesFirst bytes next → AreEarly (reverse next)
comes-early bytes next c =
    subst AreEarly (sym (ap reverse c.next_is ∙ reverse-reverse (first_of bytes c.lines)))
    (arrivals-early (lines_of bytes) c.lines)

comes-from : (bytes : List ℕ) (next : List Arrival) → ComesFirst bytes next → AreFrom 0 next
comes-from bytes next c = from-same next (reverse (first_of bytes c.lines)) c.next_is (first-from bytes c.lines)

pub listed-first : (role : Role) (bytes : List ℕ) (next : List Arrival) (fault : Option RunFault)
    → ListsTo role bytes next fault → ComesFirst bytes next
listed-first role bytes next None h = record { lines = length (lines_of bytes); next_is = h.1 }
listed-first role bytes next (Some fault) h = record { lines = h.0; next_is = h.4 }

-- frames of both that are early
abbrev AreEarlyFrames : List Frame → Type 0
AreEarlyFrames [] = Unit {0}
AreEarlyFrames (x ∷ past) = (x.arrival.time ≤ latest_listed) × AreEarlyFrames past

early-frames : (past : List Frame) → AreEarly (of_role Came past) → AreEarly (of_role Left past)
    → AreEarlyFrames past
unfolding of_role
early-frames [] h k = tt
early-frames (x ∷ past) h k = by x.role h k (λ h k. early-frames past h k)
  where
    by : (role : Role) → AreEarly (with_one Came role x.arrival (of_role Came past))
        → AreEarly (with_one Left role x.arrival (of_role Left past))
        → (AreEarly (of_role Came past) → AreEarly (of_role Left past) → AreEarlyFrames past)
        → AreEarlyFrames (x ∷ past)
    by Came h k f = (h.0, f h.1 k)
    by Left h k f = (k.0, f h k.1)

precedes : (r : Role) (s : ℕ) (q : Role) (t : ℕ) → MayPrecede r s q t → s ≤ t
precedes Came s Came t h = h
precedes Came s Left t h = h
precedes Left s Came t h = omega (arith, h)
precedes Left s Left t h = h

behind-latest : (x : Frame) (past : List Frame) → IsBehind x past → latest_frame past ≤ x.arrival.time
behind-latest x [] h = omega arith
behind-latest x (y ∷ past) h = precedes y.role y.arrival.time x.role x.arrival.time h

ordered-go-on : (past : List Frame) → order.AreInOrder past → AreEarlyFrames past → GoOn past
ordered-go-on [] h k = tt
ordered-go-on (x ∷ past) h k = (behind-latest x past h.0, k.0, ordered-go-on past h.1 k.1)

module _ (bytes-came bytes-left : List ℕ) (came left : Coming) (first-came : ComesFirst bytes-came came.next)
    (first-left : ComesFirst bytes-left left.next) where
  pub joined-go-on : GoOn (joined came left).items
  joined-go-on =
      let all = (joined came left).items in
      let a = each-list Came came left in
      let b = each-list Left came left in
      ordered-go-on all
      (order-join [] came.next came.fault left.next left.fault tt
      (can-start Came came.next (comes-from bytes-came came.next first-came))
      (can-start Left left.next (comes-from bytes-left left.next first-left)))
      (early-frames all
      (early-behind a.0 (of_role Came all) (subst AreEarly a.1 (comes-early bytes-came came.next first-came)))
      (early-behind b.0 (of_role Left all) (subst AreEarly b.1 (comes-early bytes-left left.next first-left))))

module _ {R : Type 0} (remaining : R → Option (List ℕ)) (bytes : List ℕ × List ℕ) (rest : ByRole (Watched R))
    (past : List Frame) where
  are-listed : (came left : Coming) → AreListed remaining bytes.0 bytes.1 rest came left
      → GoOn (joined came left).items
  are-listed came left (h, k) =
      joined-go-on bytes.0 bytes.1 came left (listed-first Came bytes.0 came.next came.fault h)
      (listed-first Left bytes.1 left.next left.fault k)

  is-cut : (came left : Coming) → OneIsCutOff remaining bytes.0 bytes.1 rest came left
      → GoOn (joined came left).items
  is-cut came left (inl (failed, c, k)) =
      joined-go-on bytes.0 bytes.1 came left (record { lines = c.lines; next_is = c.next_is })
      (listed-first Left bytes.1 left.next left.fault k)
  is-cut came left (inr (failed, h, c)) =
      joined-go-on bytes.0 bytes.1 came left (listed-first Came bytes.0 came.next came.fault h)
      (record { lines = c.lines; next_is = c.next_is })

  lists-stop-go-on : (fault : RunFault) (cause : Cause) → StopsListed remaining bytes rest past fault cause → GoOn past
  lists-stop-go-on fault FailedRead (came, left, c, e) =
      subst GoOn (ap (λ (j : Joined). j.items) e) (is-cut came left c)
  lists-stop-go-on fault FailedWrite (came, left, h, later, e) =
      first-go-on later past (subst GoOn e (are-listed came left h))
  lists-stop-go-on fault NoMemory (came, left, h, later, e) =
      first-go-on later past (subst GoOn e (are-listed came left h))
  lists-stop-go-on fault BadInput (came, left, h, e) =
      subst GoOn (ap (λ (j : Joined). j.items) e) (are-listed came left h)

  pub lists-go-on : (r : Result SeenCount RunFault) → TakesLists remaining bytes rest past r → GoOn past
  lists-go-on (Ok (count.Lists lines)) h =
      subst GoOn (ap (λ (j : Joined). j.items) h.frames_are) (are-listed h.came h.left h.are_listed)
  lists-go-on (Ok (count.Recorded tally)) h = absurd h
  lists-go-on (Ok (count.Both tallies)) h = absurd h
  lists-go-on (Err fault) h = lists-stop-go-on fault (cause_of fault) h

-- ---- what a run takes of recordings

pub one-go-on : {R : Type 0} (remaining : R → Option (List ℕ)) (options : RecordingOptions) (ports : Ports)
    (bytes : List ℕ) (rest : Watched R) (past : List Frame) (r : Result SeenCount RunFault)
    → TakesRecording remaining options ports bytes rest past r → GoOn past
one-go-on remaining options ports bytes rest past r h = by r h
  where
    whole : Taken
    whole = taken_of_bytes (options_of options) ports bytes

    Cut : Lines → Type 0
    Cut = AreCutOff (options_of options) ports bytes (remaining rest.inner)

    by : (r : Result SeenCount RunFault) → TakesRecording remaining options ports bytes rest past r → GoOn past
    by (Ok (count.Recorded tally)) (all, is) =
        all-go-on whole Cut (bytes-in-order (options_of options) ports bytes)
        (λ lines c. cut-one-in-order (options_of options) ports bytes (remaining rest.inner) lines c) past
        all.frames_are
    by (Ok (count.Lists lines)) h = absurd h
    by (Ok (count.Both tallies)) h = absurd h
    by (Err fault) h =
        stops-go-on whole Cut (bytes-in-order (options_of options) ports bytes)
        (λ lines c. cut-one-in-order (options_of options) ports bytes (remaining rest.inner) lines c) past
        fault (cause_of fault) h

pub two-go-on : {R : Type 0} (remaining : R → Option (List ℕ)) (options : ByRole RecordingOptions) (ports : Ports)
    (bytes : List ℕ × List ℕ) (rest : ByRole (Watched R)) (past : List Frame) (r : Result SeenCount RunFault)
    → TakesRecordings remaining options ports bytes rest past r → GoOn past
two-go-on remaining options ports bytes rest past r h = by r h
  where
    of-came : Options
    of-came = options_of_came options

    of-left : Options
    of-left = options_of_left options

    whole : Taken
    whole = taken_by_role options ports bytes.0 bytes.1

    Cut : Lines → Type 0
    Cut = AreCutOffByRole options ports remaining bytes.0 bytes.1 rest

    cut-ordered : (lines : Lines) → Cut lines → AreInOrder (arrivals (arrivals_listed lines))
    cut-ordered lines c =
        cut-in-order of-came of-left ports options.came.origin (has_failed rest.came) (has_failed rest.left)
        bytes.0 bytes.1 (remaining (device_of rest.came)) (remaining (device_of rest.left)) lines c

    by : (r : Result SeenCount RunFault) → TakesRecordings remaining options ports bytes rest past r → GoOn past
    by (Ok (count.Both tallies)) (all, is) =
        all-go-on whole Cut (both-in-order of-came of-left ports options.came.origin (recorded bytes.0)
        (recorded bytes.1)) (λ lines c. cut-ordered lines c) past all.frames_are
    by (Ok (count.Lists lines)) h = absurd h
    by (Ok (count.Recorded tally)) h = absurd h
    by (Err fault) h =
        stops-go-on whole Cut (both-in-order of-came of-left ports options.came.origin (recorded bytes.0)
        (recorded bytes.1)) (λ lines c. cut-ordered lines c) past fault (cause_of fault) h
