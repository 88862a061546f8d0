-- The output ports after all that arrived.
use Rattle.std.proofs.Common.{◌≡◌, ℕ, suc, ◌<◌, ◌≤◌, Bool, true, false, not, List, [], ◌∷◌, ◌++◌}
use Rattle.std.proofs.Common.{length, map, filter, refl, sym, ap, ◌∙◌, arith, inl, inr}
use Rattle.std.specs.Prelude.{Option, Some, None, All, find, slice_get, slice_index_or, reverse, if◌then◌else◌}
use Rattle.std.proofs.lemmas.List.{append-nil, append_assoc, map-append}
use Rattle.std.proofs.lemmas.List.Elements.{filter-append, All-push}
use Rattle.afdx_frame.specs.declared.link.Side.{Side}
use Rattle.afdx_config.specs.Rows.{LinkRow, Rows}
use Rattle.afdx_police.specs.Arrival.{Arrival}
use Rattle.afdx_port.specs.Classes.{entries_in}
use Rattle.afdx_port.specs.Schedule.{Entry, Turn}
use Rattle.afdx_port.specs.ScheduleOf.{AreInOrder}
use Rattle.afdx_port.proofs.ClassLemmas.{all_go_in_order}
use Rattle.afdx_port.proofs.ScheduleLemmas.{schedule_of_is}
use Rattle.afdx_port.proofs.TurnLemmas.{schedule_begins}
use Rattle.afdx_law_bounds.specs.Offered.{is_lost, entries_of}
use Rattle.afdx_law_bounds.specs.Outputs.{Row, AreTimed, sends, entry_of, with_sent, offers_at}
use Rattle.afdx_law_bounds.proofs.NextLemmas.{order-push}
use Rattle.afdx_switch.specs.Admitted.{IsAdmittedRun, passing, passing_in, accepted_on}
use Rattle.afdx_switch.specs.Admitted.{accepted_frames, frames_among, slots, frames_left, AreInTime}
use Rattle.afdx_switch.specs.HeldFrames.{HeldFrame}
use Rattle.afdx_switch.specs.Laws.{is_of}
use Rattle.afdx_switch.specs.Tables.{goes_to, rows_of, output_at, byte_ns_at, carried, entries_at}
use Rattle.afdx_switch.proofs.AdmittedLemmas.{accepted-enter, turns-in-time}
use Rattle.afdx_switch.proofs.LawLemmas.{one-class}
use Rattle.afdx_switch.proofs.ListLemmas.{bool_cases}
use Rattle.afdx_network.specs.Events.{turns_at}
use Rattle.afdx_law_promises.specs.Ports.{AreItsTurns}
use Rattle.afdx_law_promises.specs.NetworkPromises.{LeftSoFarAreFirst}
use Rattle.afdx_law_promises.proofs.ListLemmas.{reverse-cons, filter-reverse, map-reverse, same-reversed}

-- ---- entries stand in the order of their times

record Ordered (arrivals : List Arrival) (es : List (Entry HeldFrame)) : Type 0 where
  order : AreInOrder es
  come : (time : ℕ) → All (λ y. y.time ≤ time) arrivals → All (λ e. e.time ≤ time) es

stays : (x : Arrival) (past : List Arrival) (es : List (Entry HeldFrame)) → Ordered past es → Ordered (x ∷ past) es
stays x past es inv = record {
  order = inv.order;
  come = λ time all. inv.come time (λ k d lt. all (suc k) d (omega (arith, lt)));
}

module _ (t : Rows) (x : Arrival) (past : List Arrival) (times : All (λ y. y.time ≤ x.time) past) where
  grows : (r : Row) (es : List (Entry HeldFrame)) → Ordered past es
      → Ordered (x ∷ past) (es ++ entry_of (carried t) r x ∷ [])
  grows r es inv = record {
    order = order-push es (entry_of (carried t) r x) inv.order (inv.come x.time times);
    come = λ time all. All-push (λ e. e.time ≤ time) es (entry_of (carried t) r x)
        (inv.come time (λ k d lt. all (suc k) d (omega (arith, lt)))) (all 0 x (omega arith));
  }

  with-one : (b : Bool) (r : Row) (es : List (Entry HeldFrame)) → Ordered past es
      → Ordered (x ∷ past) (if b then es else es ++ entry_of (carried t) r x ∷ [])
  with-one true r es inv = stays x past es inv
  with-one false r es inv = grows r es inv

  with-row : (byte_ns buffer : ℕ) (offers : List (Entry HeldFrame)) (o : Option Row)
      → Ordered past (entries_of byte_ns buffer offers)
      → Ordered (x ∷ past) (entries_of byte_ns buffer (with_sent (carried t) x o offers))
  with-row byte_ns buffer offers None inv = stays x past (entries_of byte_ns buffer offers) inv
  with-row byte_ns buffer offers (Some r) inv =
      with-one (is_lost byte_ns buffer (entries_of byte_ns buffer offers)
      (entry_of (carried t) r x)) r (entries_of byte_ns buffer offers) inv

ordered : (t : Rows) (side : Side) (port : ℕ) (arrivals : List Arrival) → AreTimed arrivals
    → Ordered arrivals (entries_at t side port arrivals)
unfolding offers_at
ordered t side port [] timed =
    record {
      order = λ i j d e le g k. absurd (cc g);
      come = λ time all k d lt. absurd (omega (arith, lt));
    }
ordered t side port (x ∷ past) timed =
    with-row t x past timed.0 (byte_ns_at t port) t.buffer
    (offers_at (carried t) (rows_of t) (output_at t side port) past)
    (find (sends (output_at t side port) past x) (rows_of t))
    (ordered t side port past timed.1)

-- ---- the turns of a port

pub its-turns : (t : Rows) (side : Side) (port : ℕ) (arrivals : List Arrival) → AreTimed arrivals
    → AreItsTurns t side port arrivals (turns_at t side port arrivals)
unfolding turns_at
its-turns t side port arrivals timed =
    schedule_of_is (byte_ns_at t port) (entries_at t side port arrivals)
    (ordered t side port arrivals timed).order

pub in-time : (t : Rows) (arrivals : List Arrival) (side : Side) (port place : ℕ) (l : LinkRow)
    → IsAdmittedRun t arrivals → slice_get t.links place ≡ Some l
    → AreInTime l (turns_at t side port arrivals)
in-time t arrivals side port place l run at =
    turns-in-time t arrivals side port place l (turns_at t side port arrivals) run at
    (its-turns t side port arrivals run.timed).each_next

-- ---- the frames of a link that leave

-- none of its turns is a drop
abbrev pub NoneIsOld : ℕ → List (Turn HeldFrame) → Type 0
NoneIsOld vl turns = (k : ℕ) (d : Turn HeldFrame) → k < length turns
    → is_of vl (slice_index_or turns k d).entry ≡ true → (slice_index_or turns k d).too_old ≡ false

older : (vl : ℕ) (s : Turn HeldFrame) (earlier : List (Turn HeldFrame)) → NoneIsOld vl (s ∷ earlier)
    → NoneIsOld vl earlier
older vl s earlier none k d lt = none (suc k) d (omega (arith, lt))

push-same : (vl : ℕ) (xs ys : List (Entry HeldFrame)) (e : Entry HeldFrame)
    → filter (is_of vl) xs ≡ filter (is_of vl) ys → filter (is_of vl) (xs ++ e ∷ [])
    ≡ filter (is_of vl) (ys ++ e ∷ [])
push-same vl xs ys e same = filter-append (is_of vl) xs (e ∷ [])
    ∙ ap (λ zs. zs ++ filter (is_of vl) (e ∷ [])) same ∙ sym (filter-append (is_of vl) ys (e ∷ []))

pass-same : (vl : ℕ) (xs ys : List (Entry HeldFrame)) (e : Entry HeldFrame) → is_of vl e ≡ false
    → filter (is_of vl) xs ≡ filter (is_of vl) ys
    → filter (is_of vl) xs ≡ filter (is_of vl) (ys ++ e ∷ [])
pass-same vl xs ys e other same =
    same ∙ sym (filter-append (is_of vl) ys (e ∷ [])
    ∙ ap (λ b. filter (is_of vl) ys ++ (if b then e ∷ [] else [])) other
    ∙ none (filter (is_of vl) ys))
  where
    none : (zs : List (Entry HeldFrame)) → zs ++ [] ≡ zs
    none [] = refl
    none (z ∷ zs) = ap (λ ws. z ∷ ws) (none zs)

pub slots-are-all : (vl : ℕ) (turns : List (Turn HeldFrame)) → NoneIsOld vl turns
    → filter (is_of vl) (entries_in (slots turns)) ≡ filter (is_of vl) (entries_in turns)
slots-are-all vl [] none = refl
slots-are-all vl (s ∷ earlier) none = by s.too_old refl (slots-are-all vl earlier (older vl s earlier none))
  where
    by : (b : Bool) → s.too_old ≡ b → filter (is_of vl) (entries_in (slots earlier))
        ≡ filter (is_of vl) (entries_in earlier) →
        filter (is_of vl) (entries_in (if not b then s ∷ slots earlier else slots earlier))
        ≡ filter (is_of vl) (entries_in earlier ++ s.entry ∷ [])
    by false slot rest = push-same vl (entries_in (slots earlier)) (entries_in earlier) s.entry rest
    by true drop rest = elim (bool_cases (is_of vl s.entry)) [
      | inl own ↦ absurd (let kept = none 0 s (omega arith) own in cc)
      | inr other ↦ pass-same vl (entries_in (slots earlier)) (entries_in earlier) s.entry other rest
    ]

pub left-are-accepted : (t : Rows) (arrivals : List Arrival) (side : Side) (port place : ℕ)
    (l : LinkRow) → IsAdmittedRun t arrivals → slice_get t.links place ≡ Some l →
    frames_left l.vl (turns_at t side port arrivals)
    ≡ (if goes_to t l port then accepted_frames t l side arrivals else [])
left-are-accepted t arrivals side port place l run at =
    let turns = turns_at t side port arrivals in
    let soon = in-time t arrivals side port place l run at in
    ap (map passing_in) (slots-are-all l.vl turns (λ k d lt own. (soon k d lt own).0)
    ∙ sym (all_go_in_order (byte_ns_at t port) (is_of l.vl) (entries_at t side port arrivals) turns
    (one-class t side port l.vl arrivals run.lawful) (its-turns t side port arrivals run.timed)))
    ∙ accepted-enter t arrivals side port place l run at

-- ---- the same, the newest first

abbrev pub entries_back : List (Turn HeldFrame) → List (Entry HeldFrame)
entries_back turns = map (λ s. s.entry) turns

pub in-reverse : (turns : List (Turn HeldFrame)) → entries_in turns ≡ reverse (entries_back turns)
in-reverse [] = refl
in-reverse (s ∷ earlier) = ap (λ es. es ++ s.entry ∷ []) (in-reverse earlier)
    ∙ sym (reverse-cons s.entry (entries_back earlier))

pub left-back : (t : Rows) (arrivals : List Arrival) (side : Side) (port place : ℕ) (l : LinkRow)
    → IsAdmittedRun t arrivals → slice_get t.links place ≡ Some l → goes_to t l port ≡ true →
    frames_among l.vl (entries_back (slots (turns_at t side port arrivals)))
    ≡ map passing (accepted_on t l side arrivals)
left-back t arrivals side port place l run at goes =
    let es = entries_back (slots (turns_at t side port arrivals)) in
    let back : frames_left l.vl (turns_at t side port arrivals) ≡ reverse (frames_among l.vl es) =
    ap (frames_among l.vl) (in-reverse (slots (turns_at t side port arrivals)))
    ∙ ap (map passing_in) (filter-reverse (is_of l.vl) es)
    ∙ map-reverse passing_in (filter (is_of l.vl) es) in
    let accepted : accepted_frames t l side arrivals
    ≡ reverse (map passing (accepted_on t l side arrivals)) =
    map-reverse passing (accepted_on t l side arrivals) in
    same-reversed (frames_among l.vl es) (map passing (accepted_on t l side arrivals))
    (sym back ∙ left-are-accepted t arrivals side port place l run at
    ∙ ap (λ b. if b then accepted_frames t l side arrivals else []) goes ∙ accepted)

-- ---- so far

entries-more : (later begun : List (Turn HeldFrame)) → entries_in (slots (later ++ begun))
    ≡ entries_in (slots begun) ++ entries_in (slots later)
entries-more [] begun = sym (append-nil (entries_in (slots begun)))
entries-more (s ∷ later) begun = by s.too_old (entries-more later begun)
  where
    by : (b : Bool) → entries_in (slots (later ++ begun)) ≡ entries_in (slots begun) ++ entries_in (slots later) →
        entries_in (if not b then s ∷ slots (later ++ begun) else slots (later ++ begun))
        ≡ entries_in (slots begun) ++ entries_in (if not b then s ∷ slots later else slots later)
    by true rest = rest
    by false rest = ap (λ es. es ++ s.entry ∷ []) rest
        ∙ append_assoc (entries_in (slots begun)) (entries_in (slots later)) (s.entry ∷ [])

pub frames-more : (vl : ℕ) (later begun : List (Turn HeldFrame)) → frames_left vl (later ++ begun)
    ≡ frames_left vl begun ++ frames_left vl later
frames-more vl later begun =
    ap (λ es. map passing_in (filter (is_of vl) es)) (entries-more later begun)
    ∙ ap (map passing_in) (filter-append (is_of vl) (entries_in (slots begun))
    (entries_in (slots later)))
    ∙ map-append passing_in (filter (is_of vl) (entries_in (slots begun)))
    (filter (is_of vl) (entries_in (slots later)))

pub left-so-far : LeftSoFarAreFirst
left-so-far t arrivals side port place l begun run at are =
    let all = turns_at t side port arrivals in
    let more = schedule_begins (byte_ns_at t port) (entries_at t side port arrivals) all begun
    (its-turns t side port arrivals run.timed) are in (
      frames_left l.vl more.0,
      sym (left-are-accepted t arrivals side port place l run at)
          ∙ ap (frames_left l.vl) more.1 ∙ frames-more l.vl more.0 begun,
    )
