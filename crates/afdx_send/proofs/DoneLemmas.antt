-- Where nothing is released any more, all has been emitted.
use Rattle.std.proofs.Common.{◌≡◌, ℕ, ◌<◌, ◌≤◌, Bool, true, false, List, ◌∷◌, length, Option, Some}
use Rattle.std.proofs.Common.{None, option_map, IfNone, refl, ap, subst, arith, ◌∙◌}
use Rattle.std.specs.List.{slice_get}
use Rattle.std.proofs.lemmas.Option.{slice_get_within, slice_get-map}
use Rattle.afdx_frame.proofs.ListLemmas.{slice_get-within}
use Rattle.afdx_config.specs.Admission.{byte_ns}
use Rattle.afdx_config.specs.Rows.{LinkRow}
use Rattle.afdx_port.specs.Schedule.{Turn, IsSchedule}
use Rattle.afdx_port.specs.declared.left.Left.{Left}
use Rattle.afdx_send.specs.declared.line.SystemLink.{SystemLink}
use Rattle.afdx_send.specs.declared.regulator.Queued.{Queued}
use Rattle.afdx_send.specs.declared.sender_state.SenderState.{SenderState}
use Rattle.afdx_send.specs.Agenda.{NoneBefore}
use Rattle.afdx_send.specs.Emissions.{own, own_submissions, entries_of}
use Rattle.afdx_send.specs.Frames.{Frame}
use Rattle.afdx_send.specs.Regulator.{HasQueue, waiting_of, next_time_of}
use Rattle.afdx_send.specs.Releases.{Submission, has_release}
use Rattle.afdx_send.specs.Sender.{SenderHistory, at, HasGiven, AreAllEmitted, StandsFor, nexts_of}
use Rattle.afdx_send.proofs.RegulatorLemmas.{not_none}
use Rattle.afdx_send.proofs.ReleaseLemmas.{waits}
use Rattle.afdx_send.proofs.StandLemmas.{in_limits}

all_released : (w : SenderState) (h : SenderHistory) (st : StandsFor w h) (t : ℕ) → NoneBefore (nexts_of w) t
    → 1000032768000000 < t → (i place : ℕ) (l : LinkRow) → slice_get h.links i ≡ Some l
    → place < length (own_submissions h.taken i) → has_release (own i st.released) place ≡ true
all_released w h st t none late i place l row lt =
    let r = slice_get-within w.lines.items i (let k = slice_get_within h.links i l row in let c = st.count in
    omega arith) in
    let d = slice_get-within (own_submissions h.taken i) place lt in
    by r.0 r.1 d.0 d.1 (has_release (own i st.released) place) refl
  where
    never : (line : SystemLink) → slice_get w.lines.items i ≡ Some line
        → (index : ℕ) (m : Queued) (ms : List Queued)
        → HasQueue (waiting_of line.regulator) index (m ∷ ms) → (o : Option ℕ)
        → next_time_of line.regulator ≡ o → ⊥
    never line has index m ms q None e = not_none line.regulator index m ms q e
    never line has index m ms q (Some u) e =
        let is : slice_get (nexts_of w) i ≡ Some (Some u) =
        slice_get-map (λ l. next_time_of l.regulator) w.lines.items i
        ∙ ap (λ z. option_map (λ l. next_time_of l.regulator) z) has ∙ ap (λ z. Some z) e in
        let le = none i u is in
        let k = in_limits w h u i line st
        (record { below = slice_get_within w.lines.items i line has; has = has; due = e }) in
        let m = k.limit in omega arith

    by : (line : SystemLink) → slice_get w.lines.items i ≡ Some line → (d : Submission)
        → slice_get (own_submissions h.taken i) place ≡ Some d → (b : Bool)
        → has_release (own i st.released) place ≡ b → has_release (own i st.released) place ≡ true
    by line has d g true e = e
    by line has d g false e = absurd (let ls = st.lines i line l has row in
        let q = waits line.regulator (own_submissions h.taken i) (own i st.released) ls.regulates
        place d (record { stands = g; without = e }) in
        never line has q.0 q.2 q.3 q.4 (next_time_of line.regulator) refl)

none_is : {Y : Type 0} (o : Option Y) (P : Type 0) → o ≡ None → IfNone o P → P
none_is None P e h = h
none_is (Some y) P e h = absurd (cc e)

pub all_emitted : (w : SenderState) (h : SenderHistory) (st : StandsFor w h) (t : ℕ)
    (left : Option (Left Frame)) → w.ready ≡ None → NoneBefore (nexts_of w) t → 1200000000000000 ≤ t
    → left ≡ None →
    IfNone left (IsSchedule (byte_ns h.system) (entries_of st.released) st.given) → AreAllEmitted h
all_emitted w h st t left idle none late gone done =
    let given : st.given ≡ h.emitted =
    subst (λ (o : Option (Left Frame)). HasGiven o h.emitted st.given) idle st.has_given in
    record {
      released = st.released;
      are_releases = st.are_releases;
      all_released = all_released w h st t none (omega arith);
      schedule = subst (λ (z : List (Turn Frame)). IsSchedule (byte_ns h.system)
          (entries_of st.released) z) given (none_is left _ gone done);
    }

-- the last time used doesn't matter
pub emitted_at : (h : SenderHistory) (t : ℕ) → AreAllEmitted (at h t) → AreAllEmitted h
emitted_at h t k = record {
  released = k.released;
  are_releases = k.are_releases;
  all_released =
      k.all_released;
  schedule = k.schedule;
}
