-- Of the items that a machine was handed: what a run took, and how much was told of it.
use Rattle.std.proofs.Common.{◌≡◌, ℕ, List, map, refl, sym, true≢false}
use Rattle.std.proofs.Common.{Bool, true, false, Option, Some, None, Result, Ok, Err, IfSome, ◌⊎◌}
use Rattle.afdx_input_lines.specs.Lines.{lines_of}
use Rattle.afdx_input_lines.specs.declared.frame_line.Heading.{Heading}
use Rattle.afdx_input_lines.specs.declared.fault.RunFault.{RunFault}
use Rattle.afdx_input_sources.specs.Causes.{Cause, cause_of, FailedRead, FailedWrite, NoMemory, BadInput}
use Rattle.afdx_input_sources.specs.Engine.{Item}
use Rattle.afdx_input_sources.specs.ListRun.{Of, ListAnswers}
use Rattle.afdx_input_sources.specs.Lists.{Kind, items_of}
use Rattle.afdx_input_sources.specs.Stops.{IsToldOf}
use Rattle.afdx_input_sources.specs.Stops as listed
use Rattle.afdx_input_sources.specs.Becoming.{Options}
use Rattle.afdx_input_sources.specs.Claims.{Ports}
use Rattle.afdx_input_sources.specs.NumberLines.{AreItems, Lines, arrivals_listed}
use Rattle.afdx_input_sources.specs.Taking.{Taken, AreCutOff, taken_of_bytes}
use Rattle.afdx_input_sources.specs.declared.counts.Tally.{Tally}
use Rattle.afdx_input_runs.specs.Arrivals.{ByCause, TookAndTold, TakesAs, TakesKind, TakesListed, TakesRecorded}
use Rattle.afdx_input_runs.specs.InputRun.{InputAnswers}
use Rattle.afdx_input_runs.specs.Over.{AreFirstLines, StopsTaking, both}
use Rattle.afdx_input_runs.specs.RecordingRun.{IfBoth, RecordingAnswers}
use Rattle.afdx_input_runs.specs.TakenRun.{FirstAreBegun, TakenAnswers, TakenStops}
use Rattle.afdx_input_runs.specs.declared.input_run.InputCount.{InputCount}
use Rattle.afdx_input_runs.specs.declared.input_run.InputCount.TheVariants as count

-- what was read of recordings
abbrev pub counted : Result Tally RunFault → Result InputCount RunFault
counted (Ok tally) = Ok (count.Recorded tally)
counted (Err fault) = Err fault

abbrev pub lines_counted : Result ℕ RunFault → Result InputCount RunFault
lines_counted (Ok n) = Ok (count.Lines n)
lines_counted (Err fault) = Err fault

-- what is answered for an input that is read as a recording, or as a list
module _ {Said Thing : Type 0} (kind : Kind Said Thing) (thing : Item Heading → Thing) (options : Options)
    (ports : Ports) (done told begins : List (Item Heading) → Type 0) where
  abbrev Answers-as : Bool → List ℕ → Option (List ℕ) → Result InputCount RunFault → Type 0
  Answers-as is bytes rest r = InputAnswers kind thing (options, ports) done told begins is bytes rest r

  pub as-recorded : (is : Bool) (left rest : Option (List ℕ)) (r : Result Tally RunFault) → is ≡ true
      → IfSome left (λ bytes. RecordingAnswers options ports done told begins bytes rest r)
      → IfSome left (λ bytes. Answers-as is bytes rest (counted r))
  as-recorded true None rest r e h = tt
  as-recorded true (Some bytes) rest (Ok tally) e h = h
  as-recorded true (Some bytes) rest (Err fault) e h = h
  as-recorded false left rest r e h = absurd (true≢false (sym e))

module _ (done told begins : List (Item Heading) → Type 0) where
  -- a run took some items, and told of them what its answer says
  abbrev pub Took : (takes : List (Item Heading) → Result InputCount RunFault → Type 0) →
      Result InputCount RunFault → Type 0
  Took takes answer = TookAndTold takes answer done told begins

  -- ---- of recordings

  module _ (whole : Taken) (AreCut : Lines → Type 0) where
    first : FirstAreBegun whole AreCut arrivals_listed done told begins
        → (items : List (Item Heading)) × AreItems arrivals_listed (AreFirstLines whole) items
        × (told items ⊎ begins items)
    first s = (
      arrivals_listed s.past,
      record { lines = s.past; known_so = (s.later, s.parts); items_are = refl },
      s.begun,
    )

    stops-took : (fault : RunFault) (cause : Cause)
        → TakenStops whole AreCut arrivals_listed done told begins fault cause
        → (items : List (Item Heading))
        × AreItems arrivals_listed (λ lines. StopsTaking whole AreCut lines fault cause) items
        × ByCause cause (told items) (told items ⊎ begins items)
    stops-took fault FailedRead h =
        (arrivals_listed h.0, record { lines = h.0; known_so = h.1; items_are = refl }, h.2)
    stops-took fault FailedWrite h = first h
    stops-took fault NoMemory h = first h
    stops-took fault BadInput h = (
      arrivals_listed whole.lines,
      record { lines = whole.lines; known_so = (h.0, refl); items_are = refl },
      h.1,
    )

    pub recorded-took : (r : Result Tally RunFault)
        → TakenAnswers whole AreCut arrivals_listed done told begins r
        → Took (TakesRecorded whole AreCut) (counted r)
    recorded-took (Ok tally) h = (
      arrivals_listed whole.lines,
      record {
        lines = whole.lines;
        known_so = (record { over = h.over; lines_are = refl }, h.tally_is);
        items_are = refl;
      },
      h.are_told,
    )
    recorded-took (Err fault) h = stops-took fault (cause_of fault) h

  -- ---- of two

  pub two-took : (whole : (a b : List ℕ) → Taken) (AreCut : (a b : List ℕ) → Lines → Type 0)
      (a b : Option (List ℕ)) (r : Result Tally RunFault)
      → IfBoth a b (λ a b. TakenAnswers (whole a b) (AreCut a b) arrivals_listed done told begins r)
      → IfSome (both a b) (λ of. Took (TakesRecorded (whole of.0 of.1) (AreCut of.0 of.1)) (counted r))
  two-took whole AreCut None b r h = tt
  two-took whole AreCut (Some a) None r h = tt
  two-took whole AreCut (Some a) (Some b) r h = recorded-took (whole a b) (AreCut a b) r h

-- ---- of a list whose lines are of some kind

module _ {Said Thing : Type 0} (k : Kind Said Thing) (said : Item Heading → Thing)
    (done told begins : List (Item Heading) → Type 0) where
  module _ (bytes : List ℕ) (rest : Option (List ℕ)) where
    so : {told told' : List Thing → Type 0} (n : ℕ) → IsToldOf k told (lines_of bytes) n
        → told' (items_of k (lines_of bytes) n) → IsToldOf k told' (lines_of bytes) n
    so n h t = record { within = h.within; sound = h.sound; are_told = t }

    lines-took : (fault : RunFault) (cause : Cause)
        → listed.StopsAs k (Of said told) (Of said (λ items. told items ⊎ begins items)) bytes rest fault cause
        → (items : List (Item Heading))
        × listed.StopsAs k (λ all. all ≡ map said items) (λ all. all ≡ map said items) bytes rest fault cause
        × ByCause cause (told items) (told items ⊎ begins items)
    lines-took fault FailedRead (n, gave, h) = (h.are_told.0, (n, gave, so n h h.are_told.1), h.are_told.2)
    lines-took fault FailedWrite (n, gave, h) = (h.are_told.0, (n, gave, so n h h.are_told.1), h.are_told.2)
    lines-took fault NoMemory (n, gave, h) = (h.are_told.0, (n, gave, so n h h.are_told.1), h.are_told.2)
    lines-took fault BadInput h = (
      h.are_told.0,
      record { line = h.line; read = h.read; first = h.first; are_told = h.are_told.1 },
      h.are_told.2,
    )

    pub listed-took : (r : Result ℕ RunFault) → ListAnswers k said done told begins bytes rest r
        → Took done told begins (λ past. TakesListed (TakesKind k said bytes rest past)) (lines_counted r)
    listed-took (Ok n) h = (
      h.are_told.0,
      record { all = h.all; sound = h.sound; are_told = h.are_told.1 },
      h.are_told.2,
    )
    listed-took (Err fault) h = lines-took fault (cause_of fault) h

  -- ---- of an input, which is a recording or such a list

  pub input-took : (options : Options) (ports : Ports) (is : Bool) (bytes : List ℕ)
      (rest : Option (List ℕ)) (r : Result InputCount RunFault)
      → InputAnswers k said (options, ports) done told begins is bytes rest r
      → Took done told begins (TakesAs (TakesKind k said) is options ports bytes rest) r
  input-took options ports true bytes rest (Ok (count.Recorded tally)) h =
      recorded-took done told begins (taken_of_bytes options ports bytes) (AreCutOff options ports bytes rest)
      (Ok tally) h
  input-took options ports true bytes rest (Ok (count.Lines n)) h = absurd h
  input-took options ports true bytes rest (Err fault) h =
      recorded-took done told begins (taken_of_bytes options ports bytes) (AreCutOff options ports bytes rest)
      (Err fault) h
  input-took options ports false bytes rest (Ok (count.Recorded tally)) h = absurd h
  input-took options ports false bytes rest (Ok (count.Lines n)) h = listed-took bytes rest (Ok n) h
  input-took options ports false bytes rest (Err fault) h = listed-took bytes rest (Err fault) h

  pub one-took : (options : Options) (ports : Ports) (is : List ℕ → Bool)
      (left rest : Option (List ℕ)) (r : Result InputCount RunFault)
      → IfSome left (λ bytes. InputAnswers k said (options, ports) done told begins (is bytes) bytes rest r)
      → IfSome left (λ bytes.
      Took done told begins (TakesAs (TakesKind k said) (is bytes) options ports bytes rest) r)
  one-took options ports is None rest r h = tt
  one-took options ports is (Some bytes) rest r h =
      input-took options ports (is bytes) bytes rest r h
