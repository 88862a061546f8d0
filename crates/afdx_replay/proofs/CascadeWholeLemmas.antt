-- All events of lines that came in time, in an admitted cascade.
use Rattle.std.proofs.Common.{◌≡◌, ◌≤◌, List, [], ◌∷◌, reverse, ap, sym, ◌∙◌, subst, arith, append-nil}
use Rattle.std.specs.List.{AllByRecursion}
use Rattle.std.proofs.lemmas.List.{reverse-reverse}
use Rattle.afdx_admit.specs.Cascade.{IsCascadeAdmitted}
use Rattle.afdx_config.specs.Switches.{NamedRows, AreSwitches}
use Rattle.afdx_police.specs.Arrival.{Arrival}
use Rattle.afdx_cascade.specs.Admitted.{IsListInTime, latest_listed}
use Rattle.afdx_cascade.specs.Cascade.{StandsFor}
use Rattle.afdx_cascade.specs.EndToEnd.{AreAllEvents}
use Rattle.afdx_cascade.specs.Parts.{frames_of}
use Rattle.afdx_cascade.specs.Plans.{plan_of}
use Rattle.afdx_cascade.specs.Runs.{Line, Runs, AreAll}
use Rattle.afdx_cascade.specs.SwitchEvents.{SwitchEvent, listed}
use Rattle.afdx_cascade.specs.declared.cascade.Cascade.{Cascade}
use Rattle.afdx_cascade.proofs.PartLemmas.{are-taken}
use Rattle.afdx_cascade.proofs.WayHopLemmas.{cascade-admitted}
use Rattle.afdx_replay.specs.cascading.Told.{AreInTime}

abbrev FramesInTime : List Arrival → Type 0
FramesInTime xs = AllByRecursion (λ x. x.time ≤ latest_listed) xs

frames-in-time : (past : List Line) → AreInTime past → FramesInTime (frames_of past)
frames-in-time [] all = tt
frames-in-time (line ∷ past) all = ((let soon = all.0 in omega (arith, soon)), frames-in-time past all.1)

-- the frames of the list are those of its lines
pub frames-listed : (s : List NamedRows) (past : List Line) (events : List SwitchEvent)
    → Runs (plan_of s) (reverse past) events [] → listed (plan_of s) events ≡ frames_of past
frames-listed s past events runs =
    let some = are-taken (plan_of s) (reverse past) [] events runs in
    let all : past ≡ some.taken =
    sym (reverse-reverse past) ∙ ap reverse (some.are ∙ append-nil (reverse some.taken))
    ∙ reverse-reverse some.taken in
    some.listed_is ∙ sym (ap frames_of all)

list-in-time : (s : List NamedRows) (past : List Line) (events : List SwitchEvent)
    → Runs (plan_of s) (reverse past) events [] → AreInTime past → IsListInTime s events
list-in-time s past events runs soon =
    subst FramesInTime (sym (frames-listed s past events runs)) (frames-in-time past soon)

pub whole-events : (s : List NamedRows) (past : List Line) (w : Cascade) (events : List SwitchEvent)
    → StandsFor (plan_of s) w events → AreAll (plan_of s) (reverse past) events → AreInTime past
    → AreSwitches s → IsCascadeAdmitted s → AreAllEvents s events
whole-events s past w events stands all soon are admitted = record {
  cascade = cascade-admitted s w events are admitted stands;
  soon = list-in-time s past events all.runs soon;
  none = all.none;
}
