-- What a call of a switch does, by what it answers.
use Rattle.std.proofs.Common.{◌≡◌, ℕ, ◌+◌, ◌≤◌, List, false, true, refl, arith}
use Rattle.std.specs.Prelude.{Result, Ok, Err, IsErr, Option, Some, None}
use Rattle.afdx_frame.specs.declared.link.Side.{Side}
use Rattle.afdx_frame.specs.declared.link.Side.TheVariants.{A}
use Rattle.afdx_frame.proofs.BuiltLemmas.{built_is_computed}
use Rattle.afdx_config.specs.Rows.{Rows}
use Rattle.afdx_police.specs.Arrival.{arrival_with}
use Rattle.afdx_port.specs.Due.{IsAfter}
use Rattle.afdx_port.specs.History.{due_at}
use Rattle.afdx_port.specs.Schedule.{Turn}
use Rattle.afdx_switch.specs.Calls.{Arrives, Takes}
use Rattle.afdx_switch.specs.Departures.{giving_side}
use Rattle.afdx_switch.specs.HeldFrames.{HeldFrame}
use Rattle.afdx_switch.specs.Switching.{SwitchHistory, StandsFor, IsQuiet, IsNextAt, IsDone}
use Rattle.afdx_switch.specs.Switching.{Gives, with_arrival, at, frames_held, last_time}
use Rattle.afdx_switch.specs.Verdicts.{IsVerdict, shape_fault}
use Rattle.afdx_switch.specs.declared.switch.Departure.{Departure}
use Rattle.afdx_switch.specs.declared.switch_state.SwitchState.{SwitchState}
use Rattle.afdx_switch.specs.declared.verdict.Verdict.{Verdict}
use Rattle.afdx_switch.proofs.AdmittedLemmas.{verdict-kept, each-in-time, none-left}
use Rattle.afdx_switch.proofs.LinkFrameLemmas.{given-own}
use Rattle.afdx_switch.proofs.RegularLemmas.{regular-reason, verdict-accepted}
use Rattle.afdx_switch.proofs.StreamLemmas.{next-accepted}

module _ {E : Type 0} (w new : SwitchState) (tag time port : ℕ) (bytes : List ℕ) where
  -- an arrival has a verdict
  pub arrived : (v : Verdict) →
      ((t : Rows) (side : Side) (h : SwitchHistory) → StandsFor t side w h
      → IsVerdict t h.arrivals (arrival_with tag time side port bytes) v) →
      ((t : Rows) (side : Side) (h : SwitchHistory) → StandsFor t side w h
      → StandsFor t side new (with_arrival h (arrival_with tag time side port bytes))) →
      IsQuiet new time → frames_held new ≤ frames_held w + 24 → last_time new ≡ time →
      Arrives {E = E} w new tag time port bytes (Ok v)
  arrived v verdict stands quiet held clock = record {
    verdict = verdict;
    stands = stands;
    kept = λ t side h st run.
        verdict-kept {E = E} (Ok v) t h.arrivals (arrival_with tag time side port bytes) run (verdict t side h st);
    regular = λ t side h place l st lawful there named here is.
        verdict-accepted {E = E} (Ok v) t h.arrivals (arrival_with tag time side port bytes)
        (regular-reason t h.arrivals (arrival_with tag time side port bytes) place l lawful there named here is)
        (verdict t side h st);
    accepted = λ t side h place l st lawful there is.
        next-accepted {E = E} built_is_computed (Ok v) t h.arrivals (arrival_with tag time side port bytes)
        place l lawful there is (verdict t side h st);
    judged = λ t side h st. tt;
    refused = tt;
    quiet = quiet;
    held = held;
    clock = clock;
  }

  -- or memory is lacked
  pub lacked : (r : Result Verdict E) → IsErr r → new ≡ w →
      ((t : Rows) (side : Side) (h : SwitchHistory) → StandsFor t side w h
      → shape_fault t (arrival_with tag time side port bytes) ≡ None) →
      IsQuiet w time → Arrives w new tag time port bytes r
  lacked (Ok v) lacks same judged quiet = absurd (let no : false ≡ true = lacks in cc)
  lacked (Err e) lacks same judged quiet = rw same (record {
    verdict = λ t side h st. tt;
    stands = λ t side h st. tt;
    kept = λ t side h st run. tt;
    regular = λ t side h place l st lawful there named here is. tt;
    accepted = λ t side h place l st lawful there is. tt;
    judged = judged;
    refused = refl;
    quiet = quiet;
    held = omega arith;
    clock = tt;
  })

module _ (w new : SwitchState) (until : ℕ) where
  -- a turn is given
  pub given : (d : Departure) → giving_side d ≡ A →
      ((t : Rows) (side : Side) (h : SwitchHistory) → StandsFor t side w h → Gives t side h until d new) →
      frames_held new + 1 ≡ frames_held w → last_time new ≡ until → Takes w new until (Some d)
  given d side gives held clock = record {
    given = gives;
    side = side;
    own = λ t side h vl lawful. given-own (Some d) t side h until vl new lawful;
    in_time = λ t side h run. each-in-time (Some d) t side h until new run;
    none = λ t side h st. tt;
    no_more = λ t side h port s st low high next. tt;
    left = λ t side h port place l st run low high there. tt;
    all_done = λ t side h port st late low high. tt;
    gives = tt;
    quiet = tt;
    held = held;
    clock = clock;
  }

  -- or none is over by then
  pub none-given : (r : Option Departure) → r ≡ None →
      ((t : Rows) (side : Side) (h : SwitchHistory) → StandsFor t side w h → StandsFor t side new (at h until)) →
      ((t : Rows) (side : Side) (h : SwitchHistory) (port : ℕ) (s : Turn HeldFrame) → StandsFor t side w h
      → 1 ≤ port → port ≤ 24 → IsNextAt t side h port s → IsAfter until (due_at s)) →
      ((t : Rows) (side : Side) (h : SwitchHistory) (port : ℕ) → StandsFor t side w h
      → 1200000000000000 ≤ until → 1 ≤ port → port ≤ 24 → IsDone t side h port) →
      IsQuiet w until → IsQuiet new until → frames_held new ≡ frames_held w → last_time new ≡ until →
      Takes w new until r
  none-given r is stands no_more all_done gives quiet held clock = rw is (record {
    given = λ t side h st. tt;
    side = tt;
    own = λ t side h vl lawful. tt;
    in_time = λ t side h run. tt;
    none = stands;
    no_more = no_more;
    left = λ t side h port place l st run low high there.
        none-left None t side w h port place l until st run low high there
        (λ s next. no_more t side h port s st low high next);
    all_done = all_done;
    gives = gives;
    quiet = quiet;
    held = held;
    clock = clock;
  })
