-- The promises of a network whose tables are admitted.
use Rattle.std.proofs.Common.{◌≡◌, ℕ, true, false, List, [], ◌∷◌, ◌++◌, map, filter, refl, sym, ap, ◌∙◌, subst}
use Rattle.std.specs.Prelude.{Some, None, reverse, slice_get, if◌then◌else◌}
use Rattle.afdx_frame.specs.declared.link.Side.{Side}
use Rattle.afdx_frame.specs.Sides.{is_side}
use Rattle.afdx_config.specs.Rows.{SystemRow, LinkRow, Rows, is_to}
use Rattle.std.specs.List.{AllByRecursion}
use Rattle.afdx_config.specs.Lawful.{IsLawfulSwitch}
use Rattle.afdx_police.specs.Arrival.{Arrival, names, own}
use Rattle.afdx_police.specs.Shape.{fault_of}
use Rattle.afdx_police.specs.Verdicts.{accepted_arrivals, reason_after}
use Rattle.afdx_law_bounds.specs.Outputs.{Row, AreTimed}
use Rattle.afdx_law_bounds.proofs.TableLemmas.{port-of-system}
use Rattle.afdx_receive.specs.Arrivals.{Arrived, frames_of}
use Rattle.afdx_receive.specs.Integrity.{Incoming}
use Rattle.afdx_switch.specs.Admitted.{IsAdmittedRun, passing, accepted_on, frames_left, slots}
use Rattle.afdx_switch.specs.Tables.{rule_of, rows_of, row_of, goes_to, row_named}
use Rattle.afdx_switch.specs.Verdicts.{reason_on, reason_of}
use Rattle.afdx_switch.proofs.AdmittedLemmas.{accepted-kept, link-reason}
use Rattle.afdx_switch.proofs.ListLemmas.{find-none}
use Rattle.afdx_switch.proofs.NewLemmas.{row-is}
use Rattle.afdx_network.specs.Events.{turns_at}
use Rattle.afdx_law_promises.specs.Receptions.{AreReceptions}
use Rattle.afdx_law_promises.specs.NetworkPromises.{IsJudgedAlone, IsReceivedAlone, PortsAreAsPromised, LinksAreApart}
use Rattle.afdx_law_promises.proofs.PortLemmas.{its-turns, in-time, left-are-accepted, left-back}
use Rattle.afdx_police.proofs.FrameLemmas.{IsFrameOn}
use Rattle.afdx_law_promises.proofs.ReceiverLemmas.{answers-own, frames-by-side}
use Rattle.afdx_law_promises.proofs.ReceiverLemmas.{accepted-frames, bytes-of-slots, vl-is}

-- ---- verdicts

timed-from : (later : List Arrival) (past : List Arrival) → AreTimed (later ++ past) → AreTimed past
timed-from [] past timed = timed
timed-from (y ∷ later) past timed = timed-from later past timed.1

pub run-from : (t : Rows) (arrivals later past : List Arrival) → arrivals ≡ later ++ past
    → IsAdmittedRun t arrivals → IsAdmittedRun t past
run-from t arrivals later past same run =
    record {
      lawful = run.lawful;
      admitted = run.admitted;
      timed = timed-from later past (subst AreTimed same run.timed);
    }

rule-vl : (t : Rows) (l : LinkRow) → (row_of t l).rule.vl ≡ l.vl
unfolding rule_of
rule-vl t l = refl

pub no-row : (t : Rows) (bytes : List ℕ) → IsLawfulSwitch t
    → ((place : ℕ) (l : LinkRow) → slice_get t.links place ≡ Some l → names l.vl bytes ≡ false)
    → row_named t bytes ≡ None
unfolding row_named
no-row t bytes lawful none = find-none (λ (r : Row). names r.rule.vl bytes) (rows_of t) (λ j r at.
    let l = row-is t lawful j r at in
    subst (λ (q : Row). names q.rule.vl bytes ≡ false) l.2 (ap (λ vl. names vl bytes) (rule-vl t l.0) ∙ none j l.0 l.1))

pub unknown-reason : (t : Rows) (past : List Arrival) (x : Arrival) → row_named t x.bytes ≡ None
    → reason_of t past x ≡ fault_of None x.port x.bytes
unfolding reason_of
unknown-reason t past x none = ap (reason_on past x) none

pub judged-alone : (t : Rows) (past : List Arrival) (x : Arrival) → IsAdmittedRun t (x ∷ past) → IsJudgedAlone t past x
judged-alone t past x run = record {
  by_own = λ place l at named. link-reason t past x place l run.lawful at named;
  unknown = λ none. unknown-reason t past x (no-row t x.bytes run.lawful none);
  kept = λ port. accepted-kept t past x port run;
}

-- ---- receptions

pub goes-there : (t : Rows) (system : ℕ) (s : SystemRow) (l : LinkRow)
    → IsLawfulSwitch t
    → slice_get t.systems system ≡ Some s → is_to system l ≡ true → goes_to t l s.port ≡ true
goes-there t system s l lawful stands goes = (port-of-system t system s lawful stands).goes l ∙ goes

pub accepted-on-frames : (t : Rows) (arrivals : List Arrival) (system place : ℕ) (s : SystemRow)
    (l : LinkRow) (came : List Arrived) (side : Side) → IsAdmittedRun t arrivals
    → slice_get t.systems system ≡ Some s →
    slice_get t.links place ≡ Some l → is_to system l ≡ true → AreReceptions t s.port arrivals came →
    map (λ (f : Incoming). f.bytes) (filter (λ f. is_side f.side side) (frames_of l.vl came))
    ≡ map (λ (x : Arrival). x.bytes) (accepted_on t l side arrivals)
accepted-on-frames t arrivals system place s l came side run stands at goes are =
    let ss = slots (turns_at t side s.port arrivals) in
    let frames = subst (λ vl. AllByRecursion (λ (x : Arrival). IsFrameOn vl x.bytes)
    (accepted_arrivals (rule_of t l) (own l.vl side arrivals))) (vl-is t l)
    (accepted-frames (rule_of t l) (own l.vl side arrivals)) in
    ap (map (λ (f : Incoming). f.bytes)) (frames-by-side l.vl side came ∙ ap (frames_of l.vl) (are.by_side side))
    ∙ bytes-of-slots l.vl side ss (accepted_on t l side arrivals) frames
    (left-back t arrivals side s.port place l run at (goes-there t system s l run.lawful stands goes))

received-alone : (t : Rows) (arrivals : List Arrival) (system place : ℕ) (s : SystemRow)
    (l : LinkRow) (came : List Arrived) → IsAdmittedRun t arrivals → slice_get t.systems system ≡ Some s →
    slice_get t.links place ≡ Some l → is_to system l ≡ true → AreReceptions t s.port arrivals came
    → IsReceivedAlone t arrivals system l came
received-alone t arrivals system place s l came run stands at goes are = record {
  frames = λ side. accepted-on-frames t arrivals system place s l came side run stands at goes are;
  answers = answers-own t system place l run.lawful at goes came;
}

pub promises-kept : PortsAreAsPromised
promises-kept t arrivals run = record {
  verdicts = λ later past x same. judged-alone t past x (run-from t arrivals later (x ∷ past) same run);
  turns = λ side port. its-turns t side port arrivals run.timed;
  frames = λ side port place l at. left-are-accepted t arrivals side port place l run at;
  in_time = λ side port place l at. in-time t arrivals side port place l run at;
  receptions = λ system place s l came stands at goes are. received-alone t arrivals system place s
      l came run stands at goes are;
}

-- ---- alone

frames-apart : (t : Rows) (arrivals others : List Arrival) (side : Side) (port place : ℕ)
    (l : LinkRow) → IsAdmittedRun t arrivals → IsAdmittedRun t others → slice_get t.links place ≡ Some l →
    own l.vl side arrivals ≡ own l.vl side others → frames_left l.vl (turns_at t side port arrivals)
    ≡ frames_left l.vl (turns_at t side port others)
frames-apart t arrivals others side port place l run also at same =
    left-are-accepted t arrivals side port place l run at
    ∙ ap (λ xs. if goes_to t l port then map passing (reverse (accepted_arrivals (rule_of t l) xs)) else []) same
    ∙ sym (left-are-accepted t others side port place l also at)

verdict-apart : (t : Rows) (arrivals others : List Arrival) (place : ℕ)
    (l : LinkRow) (x : Arrival)
    → IsLawfulSwitch t → slice_get t.links place ≡ Some l → names l.vl x.bytes ≡ true →
    own l.vl x.side arrivals ≡ own l.vl x.side others → reason_of t arrivals x ≡ reason_of t others x
verdict-apart t arrivals others place l x lawful at named same =
    link-reason t arrivals x place l lawful at named
    ∙ ap (λ xs. reason_after (rule_of t l) xs x) same
    ∙ sym (link-reason t others x place l lawful at named)

pub links-apart : LinksAreApart
links-apart t arrivals others side place l run also at same = record {
  verdicts = λ x on named. verdict-apart t arrivals others place l x run.lawful at named
      (subst (λ s. own l.vl s arrivals ≡ own l.vl s others) (sym on) same);
  frames = λ port. frames-apart t arrivals others side port place l run also at same;
}
