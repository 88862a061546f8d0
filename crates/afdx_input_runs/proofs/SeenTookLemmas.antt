-- Of the frames that a machine was handed: what a run took, and how much was told of them.
use Rattle.std.proofs.Common.{◌≡◌, ℕ, List, [], ◌++◌, append-nil, refl, ap, sym, ◌∙◌, subst, option_map}
use Rattle.std.proofs.Common.{Option, Some, None, Result, Ok, Err, IfSome, ◌⊎◌, inl, inr}
use Rattle.afdx_input_lines.specs.Faults.{fault_by_role}
use Rattle.afdx_input_lines.specs.declared.fault.RunFault.{RunFault}
use Rattle.afdx_input_lines.specs.declared.fault.RunFault.TheVariants as run
use Rattle.afdx_input_lines.specs.declared.role.ByRole.{ByRole}
use Rattle.afdx_input_lines.specs.declared.watched.Watched.{Watched}
use Rattle.afdx_input_sources.specs.Causes.{Cause, cause_of, FailedRead, FailedWrite, NoMemory, BadInput}
use Rattle.afdx_input_sources.specs.Engine.{Item}
use Rattle.afdx_input_sources.specs.Becoming.{options_of}
use Rattle.afdx_input_sources.specs.Claims.{Ports}
use Rattle.afdx_input_sources.specs.NumberLines.{Lines}
use Rattle.afdx_input_sources.specs.Taking.{Taken, AreCutOff, taken_of_bytes}
use Rattle.afdx_input_sources.specs.declared.becoming.RecordingOptions.{RecordingOptions}
use Rattle.afdx_input_sources.specs.declared.counts.Tally.{Tally}
use Rattle.afdx_input_runs.specs.Arrivals.{ByCause, TookAndTold}
use Rattle.afdx_input_runs.specs.Joining.{Frame, frames_of}
use Rattle.afdx_input_runs.specs.Over.{both}
use Rattle.afdx_input_runs.specs.RecordingRun.{IfBoth}
use Rattle.afdx_input_runs.specs.SeenFrames.{AllAreSeen, StopsListed, StopsSeeing, TakesLists, TakesRecording, TakesRecordings}
use Rattle.afdx_input_runs.specs.SeenLines.{frames_in, frames_listed, seen_listed}
use Rattle.afdx_input_runs.specs.SeenRun.{AreCutOffByRole, RolesAnswer, named_by_role, taken_unnamed}
use Rattle.afdx_input_runs.specs.TakenRun.{FirstAreBegun, TakenAnswers, TakenStops}
use Rattle.afdx_input_runs.specs.TwoListsRun.{TwoListsAnswer, TwoListsStop}
use Rattle.afdx_input_runs.specs.declared.seen.Seen.{Seen}
use Rattle.afdx_input_runs.specs.declared.seen_frames.SeenCount.{SeenCount}
use Rattle.afdx_input_runs.specs.declared.seen_frames.SeenCount.TheVariants as count
use Rattle.afdx_input_runs.proofs.SeeingLemmas.{first-frames}
use Rattle.afdx_input_runs.proofs.SeenRunLemmas.{by-role-cause}
use Rattle.afdx_input_runs.proofs.TwoListsRunLemmas.{memory-answer}

-- what was read
abbrev pub lists_counted : Result (ByRole ℕ) RunFault → Result SeenCount RunFault
lists_counted (Ok lines) = Ok (count.Lists lines)
lists_counted (Err fault) = Err fault

abbrev pub one_counted : Result Tally RunFault → Result SeenCount RunFault
one_counted (Ok tally) = Ok (count.Recorded tally)
one_counted (Err fault) = Err fault

abbrev pub both_counted : Result (ByRole Tally) RunFault → Result SeenCount RunFault
both_counted (Ok tallies) = Ok (count.Both tallies)
both_counted (Err fault) = Err fault

module _ (done told begins : List (Item Seen) → Type 0) where
  -- a run took the frames of some items, and told of them what its answer says
  abbrev pub Took : (takes : List Frame → Result SeenCount RunFault → Type 0) →
      Result SeenCount RunFault → Type 0
  Took takes answer = TookAndTold (λ items. takes (frames_of items)) answer done told begins

  -- ---- of recordings

  module _ (whole : Taken) (AreCut : Lines → Type 0) where
    -- it stopped so
    abbrev pub Stopped : RunFault → Cause → Type 0
    Stopped fault cause =
        (items : List (Item Seen)) × StopsSeeing whole AreCut (frames_of items) fault cause
        × ByCause cause (told items) (told items ⊎ begins items)

    first : FirstAreBegun whole AreCut seen_listed done told begins
        → (items : List (Item Seen)) × ((later : List Frame) × (frames_in whole ≡ later ++ frames_of items))
        × (told items ⊎ begins items)
    first s = (
      seen_listed s.past,
      (frames_listed s.later, first-frames whole s.later s.past s.parts),
      s.begun,
    )

    stops-took : (fault : RunFault) (cause : Cause)
        → TakenStops whole AreCut seen_listed done told begins fault cause → Stopped fault cause
    stops-took fault FailedRead h = (seen_listed h.0, (h.0, h.1, refl), h.2)
    stops-took fault FailedWrite h = first h
    stops-took fault NoMemory h = first h
    stops-took fault BadInput h = (seen_listed whole.lines, (h.0, refl), h.1)

    all-took : (tally : Tally) → TakenAnswers whole AreCut seen_listed done told begins (Ok tally)
        → (items : List (Item Seen)) × AllAreSeen whole AreCut (frames_of items) × done items
    all-took tally h = (seen_listed whole.lines, record { over = h.over; frames_are = refl }, h.are_told)

  -- ---- of one

  module _ {R : Type 0} (remaining : R → Option (List ℕ)) (options : RecordingOptions) (ports : Ports)
      (rest : Watched R) where
    abbrev OneTakes : List ℕ → List Frame → Result SeenCount RunFault → Type 0
    OneTakes bytes = TakesRecording remaining options ports bytes rest

    one-by : (bytes : List ℕ) (r : Result Tally RunFault)
        → TakenAnswers (taken_of_bytes (options_of options) ports bytes)
        (AreCutOff (options_of options) ports bytes (remaining rest.inner)) seen_listed done told begins r
        → Took (OneTakes bytes) (one_counted r)
    one-by bytes (Ok tally) h =
        let all = all-took (taken_of_bytes (options_of options) ports bytes)
        (AreCutOff (options_of options) ports bytes (remaining rest.inner)) tally h in
        (all.0, (all.1, h.tally_is), all.2)
    one-by bytes (Err fault) h =
        stops-took (taken_of_bytes (options_of options) ports bytes)
        (AreCutOff (options_of options) ports bytes (remaining rest.inner)) fault (cause_of fault) h

    pub one-took : (left : Option (List ℕ)) (r : Result Tally RunFault)
        → IfSome left (λ bytes. TakenAnswers (taken_of_bytes (options_of options) ports bytes)
        (AreCutOff (options_of options) ports bytes (remaining rest.inner)) seen_listed done told begins r)
        → IfSome left (λ bytes. Took (OneTakes bytes) (one_counted r))
    one-took None r h = tt
    one-took (Some bytes) r h = one-by bytes r h

  -- ---- of two

  named-fault : (fault : Option RunFault) (unnamed : RunFault) → fault ≡ Some unnamed
      → option_map fault_by_role fault ≡ Some (fault_by_role unnamed)
  named-fault fault unnamed e = rw e refl

  named-stop : (whole : Taken) (AreCut : Lines → Type 0) (past : List Frame) (unnamed : RunFault) (cause : Cause)
      → StopsSeeing whole AreCut past unnamed cause
      → StopsSeeing (named_by_role whole) AreCut past (fault_by_role unnamed) cause
  named-stop whole AreCut past unnamed FailedRead h = h
  named-stop whole AreCut past unnamed FailedWrite h = h
  named-stop whole AreCut past unnamed NoMemory h = h
  named-stop whole AreCut past unnamed BadInput h = (named-fault whole.fault unnamed h.0, h.1)

  module _ {R : Type 0} (remaining : R → Option (List ℕ)) (options : ByRole RecordingOptions) (ports : Ports)
      (rest : ByRole (Watched R)) where
    abbrev TwoTake : List ℕ × List ℕ → List Frame → Result SeenCount RunFault → Type 0
    TwoTake bytes = TakesRecordings remaining options ports bytes rest

    abbrev Whole : List ℕ × List ℕ → Taken
    Whole bytes = taken_unnamed options ports bytes.0 bytes.1

    abbrev Cut : List ℕ × List ℕ → Lines → Type 0
    Cut bytes = AreCutOffByRole options ports remaining bytes.0 bytes.1 rest

    two-stop : (bytes : List ℕ × List ℕ) (unnamed : RunFault) (cause : Cause) → cause_of (fault_by_role unnamed) ≡ cause
        → Stopped (Whole bytes) (Cut bytes) unnamed cause
        → Took (TwoTake bytes) (Err (fault_by_role unnamed))
    two-stop bytes unnamed cause same (items, stops, tells) =
        rw same (
          items,
          named-stop (Whole bytes) (Cut bytes) (frames_of items) unnamed cause stops,
          tells,
        )

    two-by : (bytes : List ℕ × List ℕ) (r : Result (ByRole Tally) RunFault)
        → RolesAnswer options ports remaining bytes rest done told begins r → Took (TwoTake bytes) (both_counted r)
    two-by bytes (Ok tallies) (tally, h, are) =
        let all = all-took (Whole bytes) (Cut bytes) tally h in
        (all.0, (record { over = rw all.1.over refl; frames_are = all.1.frames_are }, are), all.2)
    two-by bytes (Err fault) (unnamed, h, is) =
        subst (λ (f : RunFault). Took (TwoTake bytes) (Err f)) (sym is)
        (two-stop bytes unnamed (cause_of unnamed) (by-role-cause unnamed)
        (stops-took (Whole bytes) (Cut bytes) unnamed (cause_of unnamed) h))

    pub two-took : (left : Option (List ℕ × List ℕ)) (r : Result (ByRole Tally) RunFault)
        → IfSome left (λ bytes. RolesAnswer options ports remaining bytes rest done told begins r)
        → IfSome left (λ bytes. Took (TwoTake bytes) (both_counted r))
    two-took None r h = tt
    two-took (Some bytes) r h = two-by bytes r h

  -- ---- of two lists

  module _ {R : Type 0} (remaining : R → Option (List ℕ)) (rest : ByRole (Watched R)) where
    abbrev ListsTake : List ℕ × List ℕ → List Frame → Result SeenCount RunFault → Type 0
    ListsTake bytes = TakesLists remaining bytes rest

    lists-stop : (came left : List ℕ) (fault : RunFault) (cause : Cause)
        → TwoListsStop remaining came left rest done told begins fault cause
        → (items : List (Item Seen)) × StopsListed remaining (came, left) rest (frames_of items) fault cause
        × ByCause cause (told items) (told items ⊎ begins items)
    lists-stop came left fault FailedRead (a, b, cut, (items, e, tells)) = (items, (a, b, cut, e), tells)
    lists-stop came left fault FailedWrite (a, b, are, (items, later, e, tells)) = (items, (a, b, are, later, e), tells)
    lists-stop came left fault NoMemory (a, b, are, (items, later, e, tells)) = (items, (a, b, are, later, e), tells)
    lists-stop came left fault BadInput (a, b, are, (items, e, tells)) = (items, (a, b, are, e), tells)

    lists-by : (came left : List ℕ) (r : Result (ByRole ℕ) RunFault)
        → TwoListsAnswer remaining came left rest done told begins r
        → Took (ListsTake (came, left)) (lists_counted r)
    lists-by came left (Ok lines) (a, b, are, (items, e, tells), lines-came, lines-left) = (
      items,
      record {
        came = a;
        left = b;
        are_listed = are;
        frames_are = e;
        lines_came = lines-came;
        lines_left = lines-left;
      },
      tells,
    )
    lists-by came left (Err fault) h = lists-stop came left fault (cause_of fault) h

    pub lists-took : (a b : Option (List ℕ)) (r : Result (ByRole ℕ) RunFault)
        → IfBoth a b (λ came left. TwoListsAnswer remaining came left rest done told begins r)
        → IfSome (both a b) (λ bytes. Took (ListsTake bytes) (lists_counted r))
    lists-took None b r h = tt
    lists-took (Some a) None r h = tt
    lists-took (Some a) (Some b) r h = lists-by a b r h

-- ---- of nothing

pub none-seen : (whole : Taken) (AreCut : Lines → Type 0) → StopsSeeing whole AreCut [] run.Memory NoMemory
none-seen whole AreCut = (frames_in whole, sym (append-nil (frames_in whole)))

pub none-listed : {R : Type 0} (remaining : R → Option (List ℕ)) (came left : List ℕ) (rest : ByRole (Watched R))
    → TwoListsAnswer remaining came left rest (λ items. items ≡ []) (λ items. items ≡ []) (λ items. items ≡ [])
    (Err run.Memory)
    → TakesLists remaining (came, left) rest [] (Err run.Memory)
none-listed remaining came left rest (a, b, are, (items, later, e, inl none)) =
    (a, b, are, later, e ∙ ap (λ (xs : List (Item Seen)). later ++ frames_of xs) none)
none-listed remaining came left rest (a, b, are, (items, later, e, inr none)) =
    (a, b, are, later, e ∙ ap (λ (xs : List (Item Seen)). later ++ frames_of xs) none)

if-both-known : (a b : Option (List ℕ)) (x y : List ℕ) (P : List ℕ → List ℕ → Type 0) → a ≡ Some x → b ≡ Some y
    → IfBoth a b P → P x y
if-both-known a b x y P e f h = rw (e, f) at h

pub lists-untaken : {R : Type 0} (remaining : R → Option (List ℕ)) (inputs : ByRole (Watched R))
    (bytes : List ℕ × List ℕ) → remaining inputs.came.inner ≡ Some bytes.0 → remaining inputs.left.inner ≡ Some bytes.1
    → TakesLists remaining bytes inputs [] (Err run.Memory)
lists-untaken remaining inputs bytes e f =
    none-listed remaining bytes.0 bytes.1 inputs
    (if-both-known (remaining inputs.came.inner) (remaining inputs.left.inner) bytes.0 bytes.1
    (λ came left. TwoListsAnswer remaining came left inputs (λ items. items ≡ []) (λ items. items ≡ [])
    (λ items. items ≡ []) (Err run.Memory)) e f
    (memory-answer remaining inputs (λ items. items ≡ []) (λ items. items ≡ []) (λ items. items ≡ []) refl))
