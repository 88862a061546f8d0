-- By how much an arrival comes too early at a switch.
use Rattle.std.proofs.Common.{◌≡◌, ℕ, List, ◌∷◌, length, refl, sym, ap, ◌∙◌}
use Rattle.std.specs.Prelude.{Option, Some, None}
use Rattle.afdx_config.specs.Rows.{Rows}
use Rattle.afdx_police.specs.Arrival.{Arrival, own}
use Rattle.afdx_police.specs.Early as account
use Rattle.afdx_police.specs.Early.{arrival_later}
use Rattle.afdx_police.specs.LinkAccounts.{IsOfferedAs}
use Rattle.afdx_police.specs.Shape.{fault_of}
use Rattle.afdx_police.specs.Verdicts.{reason_after}
use Rattle.afdx_police.specs.declared.shape.Reason.{Reason}
use Rattle.afdx_police.specs.declared.shape.Reason.TheVariants.{OverRate}
use Rattle.afdx_police.proofs.EarlyLemmas.{fault-not_rate, reason-refused}
use Rattle.afdx_police.proofs.VerdictLemmas.{reason-fault, sound-own}
use Rattle.afdx_law_bounds.specs.Outputs.{Row}
use Rattle.afdx_switch.specs.Early.{IsEarlyBy}
use Rattle.afdx_switch.specs.Found.{Found, IsFaulted}
use Rattle.afdx_switch.specs.Switching.{SwitchHistory}
use Rattle.afdx_switch.specs.Tables.{row_named}
use Rattle.afdx_switch.specs.Verdicts.{fault_on, reason_of, reason_on, shape_fault}
use Rattle.afdx_switch.specs.declared.switch_state.SwitchState.{SwitchState}
use Rattle.afdx_switch.proofs.ArrivalLemmas.{reason-named}

-- an arrival has a fault in its shape, or not
pub fault-stays : (t : Rows) (x : Arrival) (reason : Reason) → IsFaulted t x reason → shape_fault t x ≡ None → ⊥
fault-stays t x reason f none = let is = f.is in absurd (cc)

-- one whose link is found
module _ (t : Rows) (x : Arrival) (w : SwitchState) (h : SwitchHistory) (place : ℕ)
    (f : Found t x w h place) where
  -- is offered to the link's account
  pub found-offered : IsOfferedAs f.named.row.rule x (record { time = x.time; length = length x.bytes })
  found-offered = record { sound = f.sound; same = refl }

  -- and too early by what it is by that
  pub found-early : (wait : ℕ)
      → account.IsEarlyBy f.named.row.rule (own f.named.row.rule.vl x.side h.arrivals) x wait
      → IsEarlyBy t h.arrivals x wait
  found-early wait is = record {
    accepted_then = reason-named t (arrival_later wait x) h.arrivals place f.named ∙ is.accepted_then;
    dropped_before = λ less below.
        reason-named t (arrival_later less x) h.arrivals place f.named ∙ is.dropped_before less below;
  }

-- one that is dropped for its link's rate has no fault in its shape
pub over-rate-sound : (t : Rows) (past : List Arrival) (x : Arrival) → reason_of t past x ≡ Some OverRate
    → shape_fault t x ≡ None
unfolding reason_of shape_fault
over-rate-sound t past x over = by (row_named t x.bytes) over
  where
    sound : (r : Row) (fault : Option Reason) → fault_of (Some r.rule) x.port x.bytes ≡ fault
        → reason_on past x (Some r) ≡ Some OverRate → fault_on x (Some r) ≡ None
    sound r None is e = is
    sound r (Some fault) is e =
        absurd (fault-not_rate (Some r.rule) x.port x.bytes
        (is ∙ sym (reason-fault r.rule (own r.rule.vl x.side past) x fault is) ∙ e))

    by : (o : Option Row) → reason_on past x o ≡ Some OverRate → fault_on x o ≡ None
    by None e = absurd (fault-not_rate None x.port x.bytes e)
    by (Some r) e = sound r (fault_of (Some r.rule) x.port x.bytes) refl e

-- a dropped arrival leaves the reasons of those that name its link
dropped-later : (t : Rows) (past : List Arrival) (x : Arrival) (wait : ℕ) (reason : Reason)
    → reason_of t past x ≡ Some reason
    → reason_of t (x ∷ past) (arrival_later wait x) ≡ reason_of t past (arrival_later wait x)
unfolding reason_of
dropped-later t past x wait reason dropped = by (row_named t x.bytes) dropped
  where
    with_row : (r : Row) (fault : Option Reason) → fault_of (Some r.rule) x.port x.bytes ≡ fault
        → reason_on past x (Some r) ≡ Some reason
        → reason_on (x ∷ past) (arrival_later wait x) (Some r) ≡ reason_on past (arrival_later wait x) (Some r)
    with_row r (Some fault) is dropped =
        reason-fault r.rule (own r.rule.vl x.side (x ∷ past)) (arrival_later wait x) fault is
        ∙ sym (reason-fault r.rule (own r.rule.vl x.side past) (arrival_later wait x) fault is)
    with_row r None is dropped =
        ap (λ (list : List Arrival). reason_after r.rule list (arrival_later wait x)) (sound-own r.rule x past is)
        ∙ reason-refused r.rule (own r.rule.vl x.side past) x (arrival_later wait x) reason dropped

    by : (o : Option Row) → reason_on past x o ≡ Some reason
        → reason_on (x ∷ past) (arrival_later wait x) o ≡ reason_on past (arrival_later wait x) o
    by None is = refl
    by (Some r) is = with_row r (fault_of (Some r.rule) x.port x.bytes) refl is

-- and so does not change by how much it came too early
pub early-dropped : (t : Rows) (past : List Arrival) (x : Arrival) (reason : Reason) (wait : ℕ)
    → reason_of t past x ≡ Some reason → IsEarlyBy t (x ∷ past) x wait → IsEarlyBy t past x wait
early-dropped t past x reason wait dropped early = record {
  accepted_then = sym (dropped-later t past x wait reason dropped) ∙ early.accepted_then;
  dropped_before = λ less below. sym (dropped-later t past x less reason dropped) ∙ early.dropped_before less below;
}
