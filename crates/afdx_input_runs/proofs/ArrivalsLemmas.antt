-- Of what a run takes of its input: the times don't go back; and what one takes that wants memory at
-- once.
use Rattle.std.proofs.Common.{◌≡◌, ℕ, zero, suc, List, [], ◌∷◌, ◌++◌, refl, sym, append-nil, subst}
use Rattle.std.proofs.Common.{Bool, true, false, Option, Some, None, Result, Ok, Err, IfSome, slice_index_or}
use Rattle.afdx_input_lines.specs.FrameLines.{ListedFrame}
use Rattle.afdx_input_lines.proofs.FrameLemmas.{line_says-later}
use Rattle.afdx_input_lines.specs.Lines.{lines_of}
use Rattle.afdx_input_lines.specs.declared.fault.LineFault.{LineFault}
use Rattle.afdx_input_lines.specs.declared.fault.RunFault.{RunFault}
use Rattle.afdx_input_lines.specs.declared.fault.RunFault.TheVariants as run
use Rattle.afdx_input_lines.specs.declared.frame_line.Heading.{Heading}
use Rattle.afdx_police.specs.Arrival.{Arrival}
use Rattle.afdx_input_sources.specs.Engine.{Item}
use Rattle.afdx_input_sources.specs.Items.{arrivals}
use Rattle.afdx_input_sources.specs.Listed.{arrivals_of, frames, said_after}
use Rattle.afdx_input_sources.specs.Lists.{Kind, items_of, latest_in, with_item}
use Rattle.afdx_input_sources.proofs.RunLemmas.{stops-at-start}
use Rattle.afdx_input_sources.specs.Becoming.{Options}
use Rattle.afdx_input_sources.specs.Claims.{Ports}
use Rattle.afdx_input_sources.specs.Laws.{AreInOrder}
use Rattle.afdx_input_sources.specs.NumberLines.{AreItems, Lines, arrivals_listed}
use Rattle.afdx_input_sources.specs.Taking.{Taken, AreCutOff, arrivals_in, taken_of_bytes}
use Rattle.afdx_input_sources.specs.declared.counts.Tally.{Tally}
use Rattle.afdx_input_sources.proofs.LawLemmas.{bytes-in-order, cut-one-in-order}
use Rattle.afdx_input_sources.specs.Causes.{Cause, cause_of, FailedRead, FailedWrite, NoMemory, BadInput}
use Rattle.afdx_input_sources.specs.Stops as listed
use Rattle.afdx_input_runs.specs.Arrivals.{By, ByCause, DontGoBack, TakesAs, TakesFrames, TakesKind, TakesListed}
use Rattle.afdx_input_runs.specs.Arrivals.{TakesRecorded}
use Rattle.afdx_input_runs.specs.Over.{AreFirstLines, StopsTaking, TakesLines}
use Rattle.afdx_input_runs.specs.declared.input_run.InputCount.{InputCount}
use Rattle.afdx_input_runs.specs.declared.input_run.InputCount.TheVariants as count
use Rattle.afdx_input_runs.proofs.RecordingRunLemmas.{listed-none}
use Rattle.afdx_input_runs.proofs.TakenLemmas.{first-arrivals}

-- ---- of recordings

in-order : (past : List Arrival) → AreInOrder past → DontGoBack past
in-order [] h = tt
in-order (x ∷ past) (later, early, rest) = (later, in-order past rest)

-- so are some first of them
first-in-order : (later past : List Arrival) → DontGoBack (later ++ past) → DontGoBack past
first-in-order [] past h = h
first-in-order (x ∷ later) past (order, rest) = first-in-order later past rest

module _ (whole : Taken) (AreCut : Lines → Type 0) (ordered : AreInOrder (arrivals_in whole))
    (cut : (lines : Lines) → AreCut lines → AreInOrder (arrivals (arrivals_listed lines))) where
  all-ordered : (lines : Lines) → whole.lines ≡ lines → DontGoBack (arrivals (arrivals_listed lines))
  all-ordered lines e =
      subst (λ (all : Lines). DontGoBack (arrivals (arrivals_listed all))) e (in-order (arrivals_in whole) ordered)

  begun-ordered : (lines : Lines) → AreFirstLines whole lines → DontGoBack (arrivals (arrivals_listed lines))
  begun-ordered lines (later, parts) =
      first-in-order (arrivals (arrivals_listed later)) (arrivals (arrivals_listed lines))
      (subst DontGoBack (first-arrivals whole later lines parts) (in-order (arrivals_in whole) ordered))

  stops-ordered : (lines : Lines) (fault : RunFault) (cause : Cause)
      → StopsTaking whole AreCut lines fault cause → DontGoBack (arrivals (arrivals_listed lines))
  stops-ordered lines fault FailedRead h = in-order _ (cut lines h)
  stops-ordered lines fault FailedWrite h = begun-ordered lines h
  stops-ordered lines fault NoMemory h = begun-ordered lines h
  stops-ordered lines fault BadInput h = all-ordered lines h.1

  pub lines-ordered : (lines : Lines) (r : Result Tally RunFault) → TakesLines whole AreCut lines r
      → DontGoBack (arrivals (arrivals_listed lines))
  lines-ordered lines (Ok tally) h = all-ordered lines h.0.lines_are
  lines-ordered lines (Err fault) h = stops-ordered lines fault (cause_of fault) h

  items-ordered : (past : List (Item Heading)) (r : Result Tally RunFault)
      → AreItems arrivals_listed (λ lines. TakesLines whole AreCut lines r) past → DontGoBack (arrivals past)
  items-ordered past r h =
      subst (λ (items : List (Item Heading)). DontGoBack (arrivals items)) (sym h.items_are)
      (lines-ordered h.lines r h.known_so)

  pub recorded-ordered : (past : List (Item Heading)) (r : Result InputCount RunFault)
      → TakesRecorded whole AreCut past r → DontGoBack (arrivals past)
  recorded-ordered past (Ok (count.Recorded tally)) h = items-ordered past (Ok tally) h
  recorded-ordered past (Ok (count.Lines n)) h = absurd h
  recorded-ordered past (Err fault) h = items-ordered past (Err fault) h

-- ---- of a list

pub arrivals-ordered : (lines : List (List ℕ)) (n : ℕ) → DontGoBack (arrivals_of lines n)
unfolding items_of
arrivals-ordered lines zero = tt
arrivals-ordered lines (suc n) = by (said_after (arrivals_of lines n) (slice_index_or lines n []))
    refl (arrivals-ordered lines n)
  where
    by : (r : Result (Option ListedFrame) LineFault)
        → said_after (arrivals_of lines n) (slice_index_or lines n []) ≡ r
        → DontGoBack (arrivals_of lines n) → DontGoBack (with_item frames (suc n) r (arrivals_of lines n))
    by (Err fault) is ordered = ordered
    by (Ok None) is ordered = ordered
    by (Ok (Some frame)) is ordered =
        (line_says-later (latest_in frames (arrivals_of lines n)) (slice_index_or lines n []) frame is, ordered)

module _ (bytes : List ℕ) (rest : Option (List ℕ)) (past : List (Item Heading)) where
  read-ordered : (n : ℕ) → arrivals_of (lines_of bytes) n ≡ arrivals past → DontGoBack (arrivals past)
  read-ordered n e = subst DontGoBack e (arrivals-ordered (lines_of bytes) n)

  lines-stop : (fault : RunFault) (cause : Cause)
      → listed.StopsAs frames (λ all. all ≡ arrivals past) (λ all. all ≡ arrivals past) bytes rest fault cause
      → DontGoBack (arrivals past)
  lines-stop fault FailedRead (n, gave, h) = read-ordered n h.are_told
  lines-stop fault FailedWrite (n, gave, h) = read-ordered n h.are_told
  lines-stop fault NoMemory (n, gave, h) = read-ordered n h.are_told
  lines-stop fault BadInput h = read-ordered h.line h.are_told

  listed-ordered : (r : Result InputCount RunFault) → TakesListed (TakesFrames bytes rest past) r
      → DontGoBack (arrivals past)
  listed-ordered (Ok (count.Lines n)) h = read-ordered _ h.are_told
  listed-ordered (Ok (count.Recorded tally)) h = absurd h
  listed-ordered (Err fault) h = lines-stop fault (cause_of fault) h

pub one-ordered : (options : Options) (ports : Ports) (is : Bool) (bytes : List ℕ) (rest : Option (List ℕ))
    (past : List (Item Heading)) (r : Result InputCount RunFault)
    → TakesAs TakesFrames is options ports bytes rest past r → DontGoBack (arrivals past)
one-ordered options ports true bytes rest past r h =
    recorded-ordered (taken_of_bytes options ports bytes) (AreCutOff options ports bytes rest)
    (bytes-in-order options ports bytes) (λ lines c. cut-one-in-order options ports bytes rest lines c) past r h
one-ordered options ports false bytes rest past r h = listed-ordered bytes rest past r h

-- ---- of nothing

pub none-taken : (whole : Taken) (AreCut : Lines → Type 0) → TakesRecorded whole AreCut [] (Err run.Memory)
none-taken whole AreCut =
    record { lines = []; known_so = (whole.lines, sym (append-nil whole.lines)); items_are = sym listed-none }

pub one-untaken : {Said Thing : Type 0} (k : Kind Said Thing) (said : Item Heading → Thing) (options : Options)
    (ports : Ports) (is : Bool) (bytes : List ℕ)
    → TakesAs (TakesKind k said) is options ports bytes (Some bytes) [] (Err run.Memory)
one-untaken k said options ports true bytes =
    none-taken (taken_of_bytes options ports bytes) (AreCutOff options ports bytes (Some bytes))
one-untaken k said options ports false bytes =
    stops-at-start k (λ all. all ≡ []) (λ all. all ≡ []) (Some bytes) refl

-- ---- where its bytes are known, and by its answer

pub if-known : {B : Type 0} (known : Option B) (P : B → Type 0) → ((bytes : B) → known ≡ Some bytes → P bytes)
    → IfSome known P
if-known None P f = tt
if-known (Some bytes) P f = f bytes refl

-- more is said of each
by-cause : (cause : Cause) (so_far some more_so_far more_some : Type 0) → (so_far → more_so_far)
    → (some → more_some) → ByCause cause so_far some → ByCause cause more_so_far more_some
by-cause FailedRead a b c d g k h = g h
by-cause FailedWrite a b c d g k h = k h
by-cause NoMemory a b c d g k h = k h
by-cause BadInput a b c d g k h = g h

pub by-more : {X : Type 0} (r : Result X RunFault) (all so_far some more_all more_so_far more_some : Type 0)
    → (all → more_all) → (so_far → more_so_far) → (some → more_some)
    → By r all so_far some → By r more_all more_so_far more_some
by-more (Ok x) a b c a' b' c' f g k h = f h
by-more (Err fault) a b c a' b' c' f g k h = by-cause (cause_of fault) b c b' c' g k h
