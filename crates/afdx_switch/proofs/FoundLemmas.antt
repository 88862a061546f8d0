-- An arrival once the switch has judged the frame's shape.
use Rattle.std.proofs.Common.{◌≡◌, ℕ, ◌≤◌, ◌&&◌, List, [], length, refl, sym, ap, ◌∙◌}
use Rattle.std.proofs.Common.{arith, subst, inl, inr}
use Rattle.std.specs.Prelude.{Option, Some, None, All, find, slice_get}
use Rattle.std.proofs.lemmas.Option.{slice_get_within}
use Rattle.afdx_frame.proofs.ListLemmas.{slice_get-set_here}
use Rattle.afdx_config.specs.Rows.{Rows}
use Rattle.afdx_police.specs.Arrival.{Arrival, is_side, names, own}
use Rattle.afdx_police.specs.LinkAccounts.{IsOfferedAs}
use Rattle.afdx_police.specs.Rule.{Rule}
use Rattle.afdx_police.specs.Shape.{fault_of}
use Rattle.afdx_police.specs.Verdicts.{verdict_in}
use Rattle.afdx_police.specs.declared.shape.Reason.{Reason}
use Rattle.afdx_police.proofs.VerdictLemmas.{reason-fault, fault_changes_nothing}
use Rattle.afdx_law_bounds.specs.Outputs.{Row, Output, sends}
use Rattle.afdx_switch.specs.Found.{Found, IsFaulted}
use Rattle.afdx_switch.specs.Lines.{IsLine, IsNamed, IsNamedAt, IsCharged}
use Rattle.afdx_switch.specs.Sound.{IsLineSound}
use Rattle.afdx_switch.specs.Switching.{SwitchHistory, StandsFor, with_arrival}
use Rattle.afdx_switch.specs.Tables.{rows_of, row_named, output_at}
use Rattle.afdx_switch.specs.Verdicts.{fault_on, shape_fault, reason_on, reason_of}
use Rattle.afdx_switch.specs.declared.line.Line.{Line}
use Rattle.afdx_switch.specs.declared.switch_state.SwitchState.{SwitchState}
use Rattle.afdx_switch.proofs.ArrivalLemmas.{no-row-named, shape-named, reason-named, sends-named}
use Rattle.afdx_switch.proofs.ArrivalLemmas.{not-accepted}
use Rattle.afdx_switch.proofs.ListLemmas.{all-at, all-set, bool_cases, find-none}
use Rattle.afdx_switch.proofs.StandsLemmas.{LinesAfter, line-other, line-named, lines-with, stands-dropped}
use Rattle.afdx_switch.proofs.TakeLemmas.{lines-later}

-- a fault by any rule, or by none
pub any-fault : (t : Rows) (x : Arrival) (reason : Reason)
    → ((rule : Option Rule) → fault_of rule x.port x.bytes ≡ Some reason) → IsFaulted t x reason
unfolding shape_fault
any-fault t x reason all = record {
  is = by (row_named t x.bytes);
  named = λ j r at named. all (Some r.rule);
}
  where
    by : (o : Option Row) → fault_on x o ≡ Some reason
    by None = all None
    by (Some r) = all (Some r.rule)

-- the fault of an arrival that names no row
pub stranger-fault : (t : Rows) (x : Arrival) (reason : Reason) → IsNamed (rows_of t) x.bytes None
    → fault_of None x.port x.bytes ≡ Some reason → IsFaulted t x reason
unfolding shape_fault
stranger-fault t x reason none is = record {
  is = ap (fault_on x) (no-row-named t x [] none) ∙ is;
  named = λ j r at named. absurd (let other = none j r at in cc);
}

-- the fault by the row that it names
pub row-fault : (t : Rows) (x : Arrival) (reason : Reason) (place : ℕ) (n : IsNamedAt (rows_of t) x.bytes place)
    → fault_of (Some n.row.rule) x.port x.bytes ≡ Some reason → IsFaulted t x reason
row-fault t x reason place n is = record {
  is = shape-named t x [] place n ∙ is;
  named = λ j r at named. (
      let same : j ≡ place = n.only j r at named in
      let there : slice_get (rows_of t) place ≡ Some r = subst (λ k. slice_get (rows_of t) k ≡ Some r) same at in
      let stands = n.stands in
      let same_row : n.row ≡ r = cc in
      subst (λ (z : Row). fault_of (Some z.rule) x.port x.bytes ≡ Some reason) same_row is);
}

module _ (t : Rows) (x : Arrival) (reason : Reason) (f : IsFaulted t x reason) where
  -- it is dropped for its fault, whatever came before
  pub faulted-reason : (past : List Arrival) → reason_of t past x ≡ Some reason
  unfolding reason_of shape_fault
  faulted-reason past = by (row_named t x.bytes) f.is
    where
      by : (o : Option Row) → fault_on x o ≡ Some reason → reason_on past x o ≡ Some reason
      by None is = is
      by (Some r) is = reason-fault r.rule (own r.rule.vl x.side past) x reason is

  -- and sent nowhere
  faulted-sent : (o : Output) (past : List Arrival) → find (sends o past x) (rows_of t) ≡ None
  faulted-sent o past = find-none (sends o past x) (rows_of t) (λ j r at. elim (bool_cases (sends o past x r)) [
    | inr kept ↦ kept
    | inl sent ↦ not-accepted (verdict_in r.rule past x) reason (is_side o.side x.side && r.goes_to o.number)
        (reason-fault r.rule (own r.rule.vl x.side past) x reason (f.named j r at (sends-named t x past o r sent)))
  ])

  -- it leaves each line as it was
  faulted-lines : (w : SwitchState) (h : SwitchHistory) → StandsFor t x.side w h → LinesAfter t x h w.lines.items
  faulted-lines w h st i r line at_r at_line = elim (bool_cases (names r.rule.vl x.bytes)) [
    | inr other ↦ line-other t x w h st r line (st.lines i r line at_r at_line) other
    | inl named ↦
        (let is : IsLine x.side h.arrivals r line = st.lines i r line at_r at_line in
        line-named t x w h st r line line.account is named
        ((fault_changes_nothing r.rule line.account (own r.rule.vl x.side h.arrivals) x reason
        (f.named i r at_r named)).stands is.account))
  ]

  pub stands-faulted : (w new : SwitchState) (h : SwitchHistory) → StandsFor t x.side w h
      → new ≡ record w { clock = x.time } → StandsFor t x.side new (with_arrival h x)
  stands-faulted w new h st is = subst (λ z. StandsFor t x.side z (with_arrival h x)) (sym is)
      (stands-dropped t x w h st (record w { clock = x.time })
      (λ port. faulted-sent (output_at t x.side port) h.arrivals)
      (faulted-lines w h st) refl refl refl refl)

-- a line that was offered a frame stands where it stood
pub charged-at : (time size place : ℕ) (line : Line) (dropped : Option Reason) (old new : List Line)
    → (charged : IsCharged time size place line dropped old new) → slice_get old place ≡ Some line
    → slice_get new place ≡ Some (record line { account = charged.account })
charged-at time size place line dropped old new charged at =
    ap (λ ls. slice_get ls place) charged.set
    ∙ slice_get-set_here old place (record line { account = charged.account }) (slice_get_within old place line at)

-- and all lines are sound at its time
pub charged-sound : (clock time size place : ℕ) (line : Line) (dropped : Option Reason) (old new : List Line)
    → IsCharged time size place line dropped old new → slice_get old place ≡ Some line → clock ≤ time
    → All (IsLineSound clock) old → All (IsLineSound time) new
charged-sound clock time size place line dropped old new charged at later sound =
    let one = all-at (IsLineSound clock) old place line sound at in
    subst (All (IsLineSound time)) (sym charged.set)
    (all-set (IsLineSound time) old place _ (slice_get_within old place line at)
    (lines-later old clock time later sound)
    (record { in_time = omega (arith, charged.time_is); wait = one.wait; goes = one.goes }))

-- what becomes of an arrival whose link is found, by its account
module _ (t : Rows) (x : Arrival) (w : SwitchState) (h : SwitchHistory) (st : StandsFor t x.side w h) (place : ℕ)
    (f : Found t x w h place) (dropped : Option Reason) (lines : List Line)
    (charged : IsCharged x.time (length x.bytes) place f.line dropped w.lines.items lines) where
  offered-as : IsOfferedAs f.named.row.rule x (record { time = x.time; length = length x.bytes })
  offered-as = record { sound = f.sound; same = refl }

  pub charged-reason : reason_of t h.arrivals x ≡ dropped
  charged-reason =
      reason-named t x h.arrivals place f.named
      ∙ sym (charged.answer f.named.row.rule (own f.named.row.rule.vl x.side h.arrivals) x f.is.account offered-as)

  pub charged-lines : LinesAfter t x h lines
  charged-lines = subst (LinesAfter t x h) (sym charged.set)
      (lines-with t x w h st place f.named f.line f.stands charged.account
      (charged.stands f.named.row.rule (own f.named.row.rule.vl x.side h.arrivals) x f.is.account offered-as))
