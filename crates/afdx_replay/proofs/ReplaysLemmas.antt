-- What a replay, or a run that polices one link, does with the arrivals that it has taken.
use Rattle.std.proofs.Common.{◌≡◌, ℕ, List, [], ◌∷◌, Option, Some, None, Result, Ok, Err, refl, ap, arith, Bool, ◌⊎◌, inl, inr}
use Rattle.std.proofs.KnownBytes.{Appends-nil}
use Rattle.std.specs.Io.KnownBytes.{Appends}
use Rattle.std.specs.Prelude.{IfSome, IfErr, OnOk}
use Rattle.std.specs.Result.{result_ok}
use Rattle.afdx_config.proofs.AmongOthersLemmas.{admitted-serving}
use Rattle.afdx_config.specs.Admission.{IsAdmitted}
use Rattle.afdx_config.specs.Lawful.{IsLawfulSwitch}
use Rattle.afdx_config.specs.Rows.{Rows}
use Rattle.afdx_police.specs.Arrival.{Arrival}
use Rattle.afdx_police.specs.Rule.{Rule}
use Rattle.afdx_law_bounds.specs.Outputs.{AreTimed}
use Rattle.afdx_input_lines.specs.Calls.{is_failed_read, is_failed_write}
use Rattle.afdx_input_lines.specs.declared.fault.RunFault.{RunFault}
use Rattle.afdx_input_lines.specs.declared.fault.RunFault.TheVariants as run
use Rattle.afdx_input_lines.specs.declared.watched.Watched.{Watched}
use Rattle.afdx_text.specs.Telling.{TellsFault}
use Rattle.afdx_network.specs.Order.{events_of}
use Rattle.afdx_switch.specs.Admitted.{IsAdmittedRun}
use Rattle.afdx_input_runs.specs.Arrivals.{By, DontGoBack, TookAndTold}
use Rattle.afdx_input_runs.specs.declared.input_run.InputCount.{InputCount}
use Rattle.afdx_input_runs.proofs.ArrivalsLemmas.{by-more}
use Rattle.afdx_input_sources.specs.Engine.{Item}
use Rattle.afdx_input_sources.specs.Items.{arrivals}
use Rattle.afdx_input_lines.specs.declared.frame_line.Heading.{Heading}
use Rattle.afdx_replay.specs.declared.replaying.run.Replay.{Replay}
use Rattle.afdx_replay.proofs.ReplayLemmas.{are-some, are-so-far, told-done}
use Rattle.afdx_input_lines.specs.FrameLines.{listed_frame}
use Rattle.afdx_input_lines.specs.Lines.{lines_of}
use Rattle.afdx_input_sources.specs.Items.{thing_of}
use Rattle.afdx_input_sources.specs.ListRun.{ListAnswers}
use Rattle.afdx_input_sources.specs.Listed.{frames}
use Rattle.afdx_input_sources.specs.Stops.{StopsAt}
use Rattle.afdx_input_sources.proofs.ListRunLemmas.{answers-err, answers-ok}
use Rattle.afdx_command_tables.specs.Counts.{with_lines}
use Rattle.afdx_command_tables.specs.Commands.{status_of_answer}
use Rattle.afdx_command_tables.specs.declared.summary.Summary.{Summary}
use Rattle.afdx_replay.specs.Inputs.{Taking, answer_of, summary_in, tally_in, EndsInputAs}
use Rattle.afdx_replay.specs.declared.input_ending.InputEnded.{InputEnded}
use Rattle.afdx_replay.specs.declared.input_ending.InputSummary.{InputSummary}
use Rattle.afdx_replay.specs.policing.Input.{Polices}
use Rattle.afdx_replay.specs.policing.Policed.{WritesText, WritesBeginning}
use Rattle.afdx_replay.specs.policing.Text as policing
use Rattle.afdx_replay.specs.policing.Told as police_told
use Rattle.afdx_replay.specs.declared.policing.run.Police.{Police}
use Rattle.afdx_text.proofs.OutputLemmas.{whole_front as front-whole}
use Rattle.afdx_replay.specs.replaying.Early.{AreEarlyLines, HearsEarly, HearsMost}
use Rattle.afdx_replay.specs.replaying.Input.{Hearing, Hears, Replays, Writes, WritesPromised, counts_of}
use Rattle.afdx_replay.specs.replaying.PromisedRun.{IsAsPromised, WritesPromisedSoFar, WritesPromisedSome}
use Rattle.afdx_replay.specs.replaying.Replayed.{Known, ToldAll, WritesAll, WritesSoFar, WritesSome}
use Rattle.afdx_replay.specs.replaying.Text.{replay_text}
use Rattle.afdx_replay.proofs.AdmittedRunLemmas.{latest-most, as-promised, so-far-promised, some-promised}
use Rattle.afdx_replay.specs.replaying.Told.{BeginsItems, TellsAll, TellsItems}
use Rattle.afdx_replay.proofs.EarlyLemmas.{hears-start}

-- ---- the arrivals are a run of admitted tables

timed-of : (past : List Arrival) → DontGoBack past → AreTimed past
timed-of [] h = tt
timed-of (x ∷ past) (later, rest) =
    let timed = timed-of past rest in
    ((λ k d lt. let most = latest-most past timed k d lt in omega (arith, most, later)), timed)

module _ (t : Rows) (past : List Arrival) (ordered : DontGoBack past) where
  run-of : IsLawfulSwitch t → IsAdmitted t → IsAdmittedRun t past
  run-of lawful admitted = record {
    lawful = lawful;
    admitted = admitted-serving t admitted;
    timed = timed-of past ordered;
  }

  promised-of : (count : Result InputCount RunFault) (old new : Known) → IsLawfulSwitch t → IsAdmitted t
      → Writes t past count old new → WritesPromised t past count old new
  promised-of count old new lawful admitted h =
      let run = run-of lawful admitted in
      by-more count (Appends old new (replay_text t (events_of t past))) (WritesSoFar t old new past)
      (WritesSome t old new past) (IsAsPromised t past old new (counts_of t past))
      (WritesPromisedSoFar t old new past) (WritesPromisedSome t old new past)
      (λ written. as-promised t past old new (counts_of t past) run written refl refl)
      (λ written. so-far-promised t past old new run written)
      (λ written. some-promised t past old new run written) h

-- ---- a replay

answers-so : (t : Rows) (past : List Arrival) (counts : Summary) (old new : Known) (A B C : Type 0)
    (count : Result InputCount RunFault)
    → By count (ToldAll t counts old new past × A) B C → answer_of counts count ≡ answer_of (counts_of t past) count
answers-so t past counts old new A B C (Ok n) h =
    ap (λ (c : Summary). answer_of c (Ok n)) h.0.counted
answers-so t past counts old new A B C (Err fault) h = refl

module _ {D : Type 0} (contents : D → Option (List ℕ)) (t : Rows) (takes : Taking) (early now : Option (Watched D))
    (old new : Known) where
  abbrev pub HearsSo : Hearing
  HearsSo past count = Hears t past count contents early now

  pub replays-by : (items : List (Item Heading)) (count : Result InputCount RunFault) (counts : Summary)
      → takes items count → DontGoBack (arrivals items)
      → By count (ToldAll t counts old new (arrivals items) × HearsEarly contents t early now (arrivals items))
      (WritesSoFar t old new (arrivals items) × HearsEarly contents t early now (arrivals items))
      (WritesSome t old new (arrivals items) × HearsMost contents t early now (arrivals items))
      → Replays t takes HearsSo old new (answer_of counts count)
  replays-by items count counts taken ordered h =
      let past = arrivals items in
      let written : Writes t past count old new =
      by-more count (ToldAll t counts old new past × HearsEarly contents t early now past)
      (WritesSoFar t old new past × HearsEarly contents t early now past)
      (WritesSome t old new past × HearsMost contents t early now past)
      (Appends old new (replay_text t (events_of t past))) (WritesSoFar t old new past) (WritesSome t old new past)
      (λ a. a.0.written) (λ a. a.0) (λ a. a.0) h in
      record {
        items = items;
        count = count;
        taken = taken;
        answered = answers-so t past counts old new (HearsEarly contents t early now past)
            (WritesSoFar t old new past × HearsEarly contents t early now past)
            (WritesSome t old new past × HearsMost contents t early now past) count h;
        written = written;
        promised = λ lawful admitted. promised-of t past ordered count old new lawful admitted written;
        heard = by-more count (ToldAll t counts old new past × HearsEarly contents t early now past)
            (WritesSoFar t old new past × HearsEarly contents t early now past)
            (WritesSome t old new past × HearsMost contents t early now past)
            (HearsEarly contents t early now past) (HearsEarly contents t early now past)
            (HearsMost contents t early now past) (λ a. a.1) (λ a. a.1) (λ a. a.1) h;
      }

-- what the machine has told of the items that it was handed
module _ {D : Type 0} (contents : D → Option (List ℕ)) (t : Rows) (early : Option (Watched D)) (replay : Replay D)
    (old new : Known) where
  either : (items : List (Item Heading))
      → TellsItems contents (t, early) replay old new items ⊎ BeginsItems contents (t, early) replay old new items
      → WritesSome t old new (arrivals items) × HearsMost contents t early replay.early (arrivals items)
  either items (inl a) = (are-some _ _ _ _ _ _ _ a.told, inl a.heard)
  either items (inr b) = b

  pub replays-told : (takes : Taking) (r : Result InputCount RunFault)
      → ((items : List (Item Heading)) (answer : Result InputCount RunFault) → takes items answer
      → DontGoBack (arrivals items))
      → TookAndTold takes r (TellsAll contents (t, early) replay old new)
      (TellsItems contents (t, early) replay old new) (BeginsItems contents (t, early) replay old new)
      → Replays t takes (HearsSo contents t takes early replay.early old new) old new (answer_of replay.counts r)
  replays-told takes r orders (items, taken, told) =
      let hears = HearsEarly contents t early replay.early (arrivals items) in
      replays-by contents t takes early replay.early old new items r replay.counts taken
      (orders items r taken)
      (by-more r (TellsAll contents (t, early) replay old new items)
      (TellsItems contents (t, early) replay old new items)
      (TellsItems contents (t, early) replay old new items ⊎ BeginsItems contents (t, early) replay old new items)
      (ToldAll t replay.counts old new (arrivals items) × hears) (WritesSoFar t old new (arrivals items) × hears)
      (WritesSome t old new (arrivals items) × HearsMost contents t early replay.early (arrivals items))
      (λ a. a) (λ a. (are-so-far _ _ _ _ _ _ _ a.told, a.heard)) (λ a. either items a) told)

  -- the same where the input's bytes are known
  pub replays-known : {B : Type 0} (takes : B → Taking) (known : Option B) (r : Result InputCount RunFault)
      → ((bytes : B) (items : List (Item Heading)) (answer : Result InputCount RunFault) → takes bytes items answer
      → DontGoBack (arrivals items))
      → IfSome known (λ bytes. TookAndTold (takes bytes) r (TellsAll contents (t, early) replay old new)
      (TellsItems contents (t, early) replay old new) (BeginsItems contents (t, early) replay old new))
      → IfSome known (λ bytes. Replays t (takes bytes) (HearsSo contents t (takes bytes) early replay.early old new)
      old new (answer_of replay.counts r))
  replays-known takes None r orders h = tt
  replays-known takes (Some bytes) r orders h = replays-told (takes bytes) r (orders bytes) h

  -- of a list that ended with a fault, and of one that was told to its end
  pub listed-err : (input rest : Known) (fault : RunFault)
      → IfSome input (λ bytes. ListAnswers frames (thing_of frames listed_frame)
      (TellsAll contents (t, early) replay old new) (TellsItems contents (t, early) replay old new)
      (BeginsItems contents (t, early) replay old new) bytes rest (Err fault))
      → IfSome input (λ bytes. StopsAt (WritesSoFar t old new) (WritesSome t old new) bytes rest fault)
  listed-err input rest fault h =
      answers-err frames (thing_of frames listed_frame) (TellsAll contents (t, early) replay old new)
      (TellsItems contents (t, early) replay old new) (BeginsItems contents (t, early) replay old new)
      (WritesSoFar t old new) (WritesSome t old new) input rest fault
      (λ past h. (are-so-far _ _ _ _ _ _ _ h.told, are-some _ _ _ _ _ _ _ h.told)) (λ past h. h.0) h

  pub listed-ok : (input rest : Known) (n : ℕ)
      → IfSome input (λ bytes. ListAnswers frames (thing_of frames listed_frame)
      (TellsAll contents (t, early) replay old new) (TellsItems contents (t, early) replay old new)
      (BeginsItems contents (t, early) replay old new) bytes rest (Ok n))
      → IfSome input (λ bytes. WritesAll t (lines_of bytes) old new (with_lines replay.counts n))
  listed-ok input rest n h =
      told-done t (ToldAll t replay.counts old new) replay.counts (with_lines replay.counts n) n input old new
      (answers-ok frames (thing_of frames listed_frame) (TellsAll contents (t, early) replay old new)
      (TellsItems contents (t, early) replay old new) (BeginsItems contents (t, early) replay old new)
      (ToldAll t replay.counts old new) input rest n (λ past h. h.0) h) (λ past h. h) refl

-- ---- nothing was told yet

-- whoever is told of frames that came too early
pub told-anew : {D : Type 0} (contents : D → Option (List ℕ)) (t : Rows) (replay : Replay D)
    (early : Option (Watched D)) (output : Known)
    → TellsItems contents (t, replay.early) replay output output []
    → TellsItems contents (t, early) (record replay { early = early }) output output []
told-anew contents t replay early output h = record {
  told = h.told;
  heard = hears-start contents (AreEarlyLines t []) early refl;
  early = h.early;
  clock = h.clock;
  few = h.few;
  room = h.room;
}

pub replays-none : {D : Type 0} (contents : D → Option (List ℕ)) (t : Rows) (takes : Taking)
    (early : Option (Watched D)) (output : Known) → takes [] (Err run.Memory)
    → Replays t takes (HearsSo contents t takes early early output output) output output (Err run.Memory)
replays-none contents t takes early output taken =
    replays-by contents t takes early early output output [] (Err run.Memory) (counts_of t []) taken tt (
      ([], replay_text t (events_of t []), refl, Appends-nil output),
      inl (hears-start contents (AreEarlyLines t []) early refl),
    )

-- ---- a command ends as its run answered

pub ends-in : {E : Type 0} (error_bytes : E → Option (List ℕ)) (all_read : Type 0) (input_failed failed : Bool)
    (old new : Watched E) (ended : InputEnded) (r : Result InputSummary RunFault)
    → ended.ended.status ≡ status_of_answer (summary_in r) → ended.ended.summary ≡ result_ok (summary_in r)
    → ended.tally ≡ tally_in r
    → IfErr (summary_in r) (TellsFault error_bytes old new) → OnOk (summary_in r) (new ≡ old)
    → OnOk r all_read → input_failed ≡ is_failed_read r → failed ≡ is_failed_write r
    → EndsInputAs error_bytes all_read input_failed failed old new ended r
ends-in error_bytes all_read input_failed failed old new ended (Ok all) a b t c d e f g = record {
  ends = record { status_is = a; summary_is = b; told = c; silent = d; ended = e; read = f; write = g };
  tally = t;
}
ends-in error_bytes all_read input_failed failed old new ended (Err fault) a b t c d e f g = record {
  ends = record { status_is = a; summary_is = b; told = c; silent = d; ended = e; read = f; write = g };
  tally = t;
}

-- ---- a run that polices one link

module _ (rule : Rule) (takes : Taking) (police : Police) (old new : Known) where
  abbrev pub Counts : Summary
  Counts = record {
    lines = 0;
    accepted = police.accepted;
    dropped = police.dropped;
    lost = 0;
    departed = 0;
    too_old = 0;
    delivered = 0;
  }

  policed-so : (items : List (Item Heading)) (B C : Type 0) (count : Result InputCount RunFault)
      → By count (police_told.TellsItems rule police old new items) B C
      → answer_of Counts count ≡ answer_of (policing.counts_of rule 0 (arrivals items)) count
  policed-so items B C (Ok n) h = rw (h.told.accepted_is, h.told.dropped_is) refl
  policed-so items B C (Err fault) h = refl

  begun : (items : List (Item Heading))
      → police_told.TellsItems rule police old new items ⊎ police_told.BeginsItems rule old new items
      → WritesBeginning rule old new (arrivals items)
  begun items (inl a) = front-whole _ _ _ a.told.written
  begun items (inr b) = b

  pub polices-told : (r : Result InputCount RunFault)
      → TookAndTold takes r (police_told.TellsItems rule police old new) (police_told.TellsItems rule police old new)
      (police_told.BeginsItems rule old new)
      → Polices rule takes old new (answer_of Counts r)
  polices-told r (items, taken, told) = record {
    items = items;
    count = r;
    taken = taken;
    answered = policed-so items _ _ r told;
    written = by-more r (police_told.TellsItems rule police old new items)
        (police_told.TellsItems rule police old new items)
        (police_told.TellsItems rule police old new items ⊎ police_told.BeginsItems rule old new items)
        (WritesText rule old new (arrivals items)) (WritesText rule old new (arrivals items))
        (WritesBeginning rule old new (arrivals items))
        (λ a. a.told.written) (λ a. a.told.written) (λ a. begun items a) told;
  }

pub polices-known : {B : Type 0} (rule : Rule) (takes : B → Taking) (police : Police) (old new : Known)
    (known : Option B) (r : Result InputCount RunFault)
    → IfSome known (λ bytes. TookAndTold (takes bytes) r (police_told.TellsItems rule police old new)
    (police_told.TellsItems rule police old new) (police_told.BeginsItems rule old new))
    → IfSome known (λ bytes. Polices rule (takes bytes) old new (answer_of (Counts rule (takes bytes) police old new)
    r))
polices-known rule takes police old new None r h = tt
polices-known rule takes police old new (Some bytes) r h = polices-told rule (takes bytes) police old new r h
