-- What a call that emits does, by what it answers.
use Rattle.std.proofs.Common.{◌≡◌, ℕ, ◌+◌, ◌<◌, ◌≤◌}
use Rattle.std.specs.Prelude.{Ok, Err, Some, None}
use Rattle.afdx_port.specs.Schedule.{Turn}
use Rattle.afdx_send.specs.Calls.{Emits}
use Rattle.afdx_send.specs.Frames.{Frame}
use Rattle.afdx_send.specs.Laws.{EmissionsAreInTime, EmissionsAreBuildable, EmissionsAreLawful}
use Rattle.afdx_send.specs.Sender.{SenderHistory, StandsFor, IsQuiet, IsNextIn, Gives, AreAllEmitted}
use Rattle.afdx_send.specs.Sender.{at, frames_held, last_time}
use Rattle.afdx_send.specs.declared.sender.Emission.{Emission}
use Rattle.afdx_send.specs.declared.sender_state.SenderState.{SenderState}
use Rattle.afdx_send.proofs.StreamLemmas.{goes_on}

module _ {E : Type 0} (old new : SenderState) (until : ℕ) (in_time : EmissionsAreInTime)
    (buildable : EmissionsAreBuildable) (lawful : EmissionsAreLawful) where
  -- an emission is given
  pub emitted : (e : Emission) → ((h : SenderHistory) → StandsFor old h → Gives h until e new) →
      last_time new ≡ until → frames_held new + 1 ≡ frames_held old →
      Emits {E = E} old new until (Ok (Some e))
  emitted e gives clock held = record {
    given = gives;
    goes_on = λ h st. goes_on new h until e lawful (gives h st);
    lawful = λ h st. lawful new h st;
    in_time = λ h st. in_time new h st;
    buildable = λ h st. buildable new h st;
    none = λ h st. tt;
    no_more = λ h s st n. tt;
    all_done = λ h st late. tt;
    quiet = tt;
    due = λ h st. tt;
    again = λ h st. tt;
    clock = clock;
    held = held;
    kept = tt;
  }

  -- or none ends by then
  pub none_ends : ((h : SenderHistory) → StandsFor old h → StandsFor new (at h until)) →
      ((h : SenderHistory) (s : Turn Frame) → StandsFor old h → IsNextIn h s → until < s.end) →
      ((h : SenderHistory) → StandsFor old h → 1200000000000000 ≤ until → AreAllEmitted h) →
      IsQuiet new until → last_time new ≡ until → frames_held new ≡ frames_held old →
      Emits {E = E} old new until (Ok None)
  none_ends stands no_more all_done quiet clock held = record {
    given = λ h st. tt;
    goes_on = λ h st. tt;
    lawful = λ h st. lawful new h st;
    in_time = λ h st. in_time new h st;
    buildable = λ h st. buildable new h st;
    none = stands;
    no_more = no_more;
    all_done = all_done;
    quiet = quiet;
    due = λ h st. tt;
    again = λ h st. tt;
    clock = clock;
    held = held;
    kept = tt;
  }

  -- or memory is lacked for one that does
  pub lacked : (fault : E) → ((h : SenderHistory) → StandsFor old h → StandsFor new (at h until)) →
      ((h : SenderHistory) → StandsFor old h → (s : Turn Frame) × IsNextIn h s × (s.end ≤ until)) →
      last_time new ≡ until → frames_held new ≡ frames_held old → Emits old new until (Err fault)
  lacked fault stands due clock kept = record {
    given = λ h st. tt;
    goes_on = λ h st. tt;
    lawful = λ h st. lawful new h st;
    in_time = λ h st. in_time new h st;
    buildable = λ h st. buildable new h st;
    none = λ h st. tt;
    no_more = λ h s st n. tt;
    all_done = λ h st late. tt;
    quiet = tt;
    due = due;
    again = stands;
    clock = clock;
    held = tt;
    kept = kept;
  }
