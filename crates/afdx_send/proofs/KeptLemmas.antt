-- What a sender releases isn't lost.
use Rattle.std.proofs.Common.{◌≡◌, ℕ, ◌+◌, ◌<◌, ◌≤◌, List, [], ◌∷◌, ◌++◌, length, Option, Some}
use Rattle.std.proofs.Common.{None, inl, inr, refl, sym, ap, subst, arith, suc, zero}
use Rattle.std.specs.List.{slice_get}
use Rattle.std.proofs.lemmas.Option.{slice_get_within}
use Rattle.afdx_frame.proofs.ListLemmas.{slice_get-push_cases}
use Rattle.afdx_config.specs.Admission.{byte_ns}
use Rattle.afdx_config.specs.Rows.{LinkRow}
use Rattle.afdx_law_bounds.specs.Sender.{SenderIsNeverFull}
use Rattle.afdx_port.specs.Schedule.{Entry, IsSchedule, IsLost}
use Rattle.afdx_port.specs.ScheduleOf.{AreInOrder, schedule_of}
use Rattle.afdx_send.specs.declared.line.SystemLink.{SystemLink}
use Rattle.afdx_send.specs.declared.sender_state.SenderState.{SenderState}
use Rattle.afdx_send.specs.Agenda.{IsSoonest}
use Rattle.afdx_send.specs.Emissions.{LinkRelease, own, own_submissions, entry_for, entries_of}
use Rattle.afdx_send.specs.Frames.{Frame, facts}
use Rattle.afdx_send.specs.Lines.{LineStands, LineReleases}
use Rattle.afdx_send.specs.Releases.{Submission, Release}
use Rattle.afdx_send.specs.Sender.{SenderHistory, nexts_of, StandsFor}
use Rattle.afdx_send.proofs.FullLemmas.{AllFit, not_lost}
use Rattle.afdx_send.proofs.StandLemmas.{IsDueLine, line_at, next_of_all, entry_is}

pub order_push : (es : List (Entry Frame)) (e : Entry Frame) (t : ℕ) → AreInOrder es
    → ((i : ℕ) (d : Entry Frame) → slice_get es i ≡ Some d → d.time ≤ t) → t ≤ e.time
    → AreInOrder (es ++ e ∷ [])
order_push es e t order come late i j c d le h k = elim (slice_get-push_cases es e j d k) [
  | inl old ↦ elim (slice_get-push_cases es e i c h) [
    | inl first ↦ order i j c d le first old
    | inr last ↦ absurd (let n = slice_get_within es j d old in let m = last.0 in omega arith)
  ]
  | inr new ↦ elim (slice_get-push_cases es e i c h) [
    | inl first ↦ (let a = come i c first in let b : d.time ≡ e.time = ap (λ z. z.time) new.1 in omega arith)
    | inr last ↦ (let a : c.time ≡ e.time = ap (λ z. z.time) last.1 in let b : d.time ≡ e.time =
        ap (λ z. z.time) new.1 in omega arith)
  ]
]

pub all_fit : (w : SenderState) (h : SenderHistory) → StandsFor w h → AllFit h.links h.taken
all_fit w h st i j l s g k = by_line (slice_get w.lines.items i) refl
  where
    none : (xs : List SystemLink) (m : ℕ) → m < length xs → slice_get xs m ≡ None → ⊥
    none [] m lt e = omega arith
    none (x ∷ xs) zero lt e = cc e
    none (x ∷ xs) (suc m) lt e = none xs m (omega arith) e

    by_line : (o : Option SystemLink) → slice_get w.lines.items i ≡ o → length s.message.payload + 47 ≤ l.lmax
    by_line None e = absurd (none w.lines.items i
        (let m = slice_get_within h.links i l g in let c = st.count in omega arith) e)
    by_line (Some line) e = (st.lines i line l e g).fits j s k

pub kept : (w : SenderState) (h : SenderHistory) (st : StandsFor w h) (time place : ℕ) (line line' : SystemLink)
    (f : Frame) → SenderIsNeverFull Frame →
    ((b : ℕ) (es : List (Entry Frame)) → AreInOrder es → IsSchedule b es (schedule_of b es))
    → IsSoonest (nexts_of w) time place → IsDueLine w time place line →
    f.vl ≡ line.vl.0 → f.least ≡ line.least → f.number ≡ line.number →
    ((l : LinkRow) (ss : List Submission) (rs : List Release) → LineStands line l ss rs
    → LineReleases line l ss rs time f line') → w.output.clock ≡ time →
    IsLost 65536 (entries_of st.released) (schedule_of (byte_ns h.system) (entries_of st.released))
    time (facts f).bytes → ⊥
kept w h st time place line line' f never exists soonest due vl least number rel clock lost =
    let a = line_at w h st place line due.has in
    let k = rel a.row (own_submissions h.taken place) (own place st.released) a.stands in
    let x : LinkRelease = record { place = place; row = a.row; release = k.r } in
    let n : ℕ = length (own place st.released) in
    let e = entry_is line a.row (own_submissions h.taken place) (own place st.released) place time f
    line' a.stands k vl least number in
    let item : f ≡ (entry_for x n).item = ap (λ z. z.item) e in
    let es = entries_of st.released in
    let at : x.release.time ≡ time = k.at in
    let late : w.output.clock ≤ (entry_for x n).time = omega arith in
    let order : AreInOrder (es ++ entry_for x n ∷ []) =
    order_push es (entry_for x n) w.output.clock st.output.in_order st.output.come late in
    let lost' : IsLost 65536 es (schedule_of (byte_ns h.system) es) x.release.time (facts (entry_for x n).item).bytes =
    subst (λ (z : Frame). IsLost 65536 es (schedule_of (byte_ns h.system) es) x.release.time (facts z).bytes) item
    (subst (λ (t : ℕ). IsLost 65536 es (schedule_of (byte_ns h.system) es) t (facts f).bytes) (sym at) lost) in
    not_lost h.system h.links h.taken st.are_sent (all_fit w h st) never x st.released
    (schedule_of (byte_ns h.system) es)
    (next_of_all w h st time place line a.row f line' soonest a.link k, st.are_releases) order
    (exists (byte_ns h.system) es st.output.in_order) lost'
