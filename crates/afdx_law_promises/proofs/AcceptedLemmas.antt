-- The verdicts on a link's lawful stream at its sender's port are accept.
use Rattle.std.proofs.Common.{◌≡◌, ℕ, ◌==◌, ◌&&◌, Bool, true, false, List, [], ◌∷◌, ap, ◌∙◌}
use Rattle.std.proofs.Common.{subst, inl, inr}
use Rattle.std.specs.Prelude.{Some, None, slice_get, if◌then◌else◌, filter}
use Rattle.std.proofs.lemmas.Bool.{and_parts}
use Rattle.afdx_frame.specs.Reading.{BuiltIsComputed}
use Rattle.afdx_frame.specs.declared.link.Side.{Side}
use Rattle.afdx_frame.proofs.SideLemmas.{is_side-same}
use Rattle.afdx_config.specs.Lawful.{IsLawfulSwitch}
use Rattle.afdx_config.specs.LawfulStream.{Sending}
use Rattle.afdx_config.specs.Rows.{LinkRow, Rows}
use Rattle.afdx_config.specs.SentList.{Message}
use Rattle.afdx_police.specs.Arrival.{Arrival, is_side, names, own}
use Rattle.afdx_switch.specs.Tables.{rule_of}
use Rattle.afdx_network.specs.Order.{events_of, events_so_far}
use Rattle.afdx_network.proofs.OrderedLemmas.{are-events, are-so-far}
use Rattle.afdx_law_promises.specs.Lines.{Line, Judged, IsIn, judged_in}
use Rattle.afdx_switch.specs.Streams.{IsStreamOf}
use Rattle.afdx_law_promises.specs.Promises.{StreamsAreAccepted, StreamsAreToldAccepted}
use Rattle.afdx_law_promises.specs.Promises.{StreamsAreToldAcceptedSoFar, told, told_so_far}
use Rattle.afdx_switch.specs.Streams.{at_own_port, AreFirstOf}
use Rattle.afdx_law_promises.proofs.LineLemmas.{in-filter, verdicts-told, verdicts-told-so-far}
use Rattle.afdx_law_promises.proofs.RuleLemmas.{verdicts_of}
use Rattle.afdx_switch.proofs.StreamLemmas.{stream-accepted}

-- what came before the newest arrival are the first frames too
first-before : (t : Rows) (l : LinkRow) (side : Side) (stream : List Sending) (x : Arrival)
    (past : List Arrival) → AreFirstOf side stream (at_own_port t l side (x ∷ past))
    → AreFirstOf side stream (at_own_port t l side past)
first-before t l side stream x past are = by-name (is_side side x.side && names l.vl x.bytes) are
  where
    by-port : (b : Bool) → AreFirstOf side stream
        (if b then x ∷ at_own_port t l side past else at_own_port t l side past)
        → AreFirstOf side stream (at_own_port t l side past)
    by-port true first = first.1
    by-port false first = first

    by-name : (b : Bool) → AreFirstOf side stream (filter (λ y. (rule_of t l).port == y.port)
        (if b then x ∷ own l.vl side past else own l.vl side past))
        → AreFirstOf side stream (at_own_port t l side past)
    by-name true first = by-port ((rule_of t l).port == x.port) first
    by-name false first = first

module _ (computed : BuiltIsComputed) (t : Rows) (l : LinkRow) (side : Side) (place : ℕ)
    (messages : List Message) (stream : List Sending) (lawful : IsLawfulSwitch t)
    (at : slice_get t.links place ≡ Some l) (is : IsStreamOf t l messages stream) where
  stream-verdicts : (arrivals : List Arrival) → AreFirstOf side stream (at_own_port t l side arrivals)
      → (v : Judged) → IsIn v (verdicts_of t arrivals) → is_side side v.arrival.side ≡ true
      → names l.vl v.arrival.bytes ≡ true → (rule_of t l).port ≡ v.arrival.port → v.reason ≡ None
  unfolding verdicts_of
  stream-verdicts [] are v h on named port = absurd h
  stream-verdicts (x ∷ past) are v (inl same) on named port =
      let this : v.arrival ≡ x = ap (λ (w : Judged). w.arrival) same in
      let here : side ≡ x.side =
      is_side-same side x.side (subst (λ (y : Arrival). is_side side y.side ≡ true) this on) in
      ap (λ (w : Judged). w.reason) same
      ∙ stream-accepted computed t past x place l messages stream lawful at is
      (subst (λ (y : Arrival). names l.vl y.bytes ≡ true) this named)
      (subst (λ (y : Arrival). (rule_of t l).port ≡ y.port) this port)
      (subst (λ (s : Side). AreFirstOf s stream (at_own_port t l s (x ∷ past))) here are)
  stream-verdicts (x ∷ past) are v (inr earlier) on named port =
      stream-verdicts past (first-before t l side stream x past are) v earlier on named port

streams-accepted : BuiltIsComputed → (t : Rows) (arrivals : List Arrival) (lines : List Line)
    → IsLawfulSwitch t → judged_in lines ≡ verdicts_of t arrivals → StreamsAreAccepted t arrivals lines
streams-accepted computed t arrivals lines lawful same side place l messages stream at is are v h port =
    let own_one = in-filter (λ (w : Judged). is_side side w.arrival.side && names l.vl w.arrival.bytes)
    v (judged_in lines) h in
    let parts = and_parts (is_side side v.arrival.side) (names l.vl v.arrival.bytes) own_one.1 in
    stream-verdicts computed t l side place messages stream lawful at is arrivals are v
    (subst (IsIn v) same own_one.0) parts.0 parts.1 port

-- ---- the laws

pub told-accepted : BuiltIsComputed → StreamsAreToldAccepted
told-accepted computed t arrivals lawful timed =
    streams-accepted computed t arrivals (told t arrivals) lawful
    (verdicts-told t arrivals (events_of t arrivals) timed (are-events t arrivals))

pub told-so-far-accepted : BuiltIsComputed → StreamsAreToldAcceptedSoFar
told-so-far-accepted computed t arrivals lawful timed =
    streams-accepted computed t arrivals (told_so_far t arrivals) lawful
    (verdicts-told-so-far t arrivals (events_so_far t arrivals) timed (are-so-far t arrivals))
