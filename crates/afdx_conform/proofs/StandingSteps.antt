-- A stream decides its next event, before the end is known and once it is.
use Rattle.std.proofs.Common.{◌≡◌, ℕ, ◌-◌, ◌<◌, ◌≤◌, false, List, ◌∷◌, length, refl, sym, ap, ◌∙◌, subst, arith}
use Rattle.std.specs.Prelude.{Option, Some, None}
use Rattle.afdx_police.specs.Arrival.{Arrival}
use Rattle.afdx_conform.specs.Ahead.{until_then}
use Rattle.afdx_conform.specs.Events.{event_time, moment_at}
use Rattle.afdx_conform.specs.Findings.{Finding, Judged}
use Rattle.afdx_conform.specs.Growing.{Decides, IsAfter, IsEarly, IsKnownBy, closed_too}
use Rattle.afdx_conform.specs.Histories.{AreOver, coming, judged_by, next_of, shown, uncut, unclosed}
use Rattle.afdx_conform.specs.Standing.{Finds, IsEnding, StandsFor, due_of}
use Rattle.afdx_conform.specs.States.{Event}
use Rattle.afdx_conform.specs.Streams.{Gone, Terms}
use Rattle.afdx_conform.specs.declared.streaming.Stream.{Stream}
use Rattle.afdx_conform.proofs.HistoryLemmas.{over-moment}
use Rattle.afdx_conform.proofs.StandingDecides.{due-sure, finds, next-due}
use Rattle.afdx_conform.proofs.StandingLemmas.{judged-until, next-until, none-open, time-until}

module _ (z : Terms) (xs : List Arrival) (ys : List Gone) (j : Judged) (time moment : ℕ) (old : Stream)
    (h : StandsFor z xs ys j time old) (due : due_of old ≡ Some moment) (lt : moment < time) where
  abbrev At : Terms
  At = until_then time z

  abbrev first : IsAfter At xs ys 0 h.over old.growth
  first = h.is_after time (omega arith)

  abbrev pub event : Event
  event = (next-due At xs ys 0 h.over old.growth moment first due).0

  here : next_of At (coming xs h.over) (unclosed ys h.over) ≡ Some event
  here = (next-due At xs ys 0 h.over old.growth moment first due).1

  is-due : moment_at At (event_time At event) ≡ moment
  is-due = (next-due At xs ys 0 h.over old.growth moment first due).2

  pub next-at : (until : ℕ) → next_of (until_then until z) (coming xs h.over) (unclosed ys h.over) ≡ Some event
  next-at until =
      next-until z until (coming xs h.over) (unclosed ys h.over)
      ∙ sym (next-until z time (coming xs h.over) (unclosed ys h.over)) ∙ here

  moment-at : (until : ℕ) → moment_at z (event_time (until_then until z) event) ≡ moment
  moment-at until = (let a = time-until z time event in let b = time-until z until event in let c = is-due in
      omega (arith, a, b, c))

  pub known-at : (until : ℕ) → time ≤ until → (end : Option ℕ) → end ≡ None → IsKnownBy (until_then until z) end event
  known-at until le end none =
      subst (λ (o : Option ℕ). IsKnownBy (until_then until z) o event) (sym none)
      (let m = moment-at until in omega (arith, m, lt, le))

  before-event : AreOver z time (event ∷ h.over)
  unfolding AreOver
  before-event = (
    (let m = is-due in let s = time-until z time event in let le = over-moment z event h.over in
        omega (arith, m, s, lt, le)),
    h.before,
  )

  before-next : (closed : Option ℕ) → IsEarly At (moment_at At (event_time At event)) closed
      → AreOver z time (closed_too closed (event ∷ h.over))
  unfolding AreOver
  before-next None early = before-event
  before-next (Some t) early = ((let m = is-due in omega (arith, m, early, lt)), before-event)

  sure-before : (judged_by At xs ys h.over).is_unsure ≡ false
  sure-before = sym first.unsure ∙ due-sure old.growth moment due

  pub stands-next : (new : Stream) (closed : Option ℕ) (found : List Finding)
      → ((until : ℕ) → time ≤ until → Decides (until_then until z) xs ys 0 h.over new.growth event closed found)
      → (k : Judged) × StandsFor z xs ys k time new × Finds z moment found j k (due_of new)
  stands-next new closed found d =
      let here-at = d time (omega arith) in
      let before = before-next closed here-at.2.early in
      let one = finds At xs ys 0 h.over event moment new.growth closed found first.told here is-due sure-before
      here-at in
      let at = h.judged time (omega arith) in
      let two =
      subst (λ (k : Judged). Finds At moment found k
      (shown (judged_by At xs ys (closed_too closed (event ∷ h.over))))
      (due_of new)) at
      (subst (λ (k : Judged). Finds At moment found (shown (judged_by At xs ys h.over)) (shown k) (due_of new))
      (sym here-at.2.same) one) in (
        shown (judged_by At xs ys (closed_too closed (event ∷ h.over))),
        record {
          over = closed_too closed (event ∷ h.over);
          before = before;
          is_after = λ until le. (d until le).0;
          judged = λ until le. ap (λ (k : Judged). shown k)
              (judged-until z xs ys time until time (closed_too closed (event ∷ h.over)) le (omega arith) before);
          lean = here-at.3 (none-open z time time (closed_too closed (event ∷ h.over)) (omega arith) before);
        },
        record {
          is_moment = two.is_moment;
          are_found = two.are_found;
          later = two.later;
          sure = two.sure;
          unsure = two.unsure;
        },
      )

module _ (z : Terms) (xs : List Arrival) (ys : List Gone) (j : Judged) (moment : ℕ) (old : Stream)
    (h : IsEnding z xs ys j old) (due : due_of old ≡ Some moment) where
  abbrev pub Cut : ℕ
  Cut = length ys - length (uncut z ys)

  abbrev pub last-event : Event
  last-event = (next-due z xs (uncut z ys) Cut h.over old.growth moment h.is_after due).0

  pub last-next : next_of z (coming xs h.over) (unclosed (uncut z ys) h.over) ≡ Some last-event
  last-next = (next-due z xs (uncut z ys) Cut h.over old.growth moment h.is_after due).1

  pub known-last : (end : Option ℕ) → end ≡ Some z.until → IsKnownBy z end last-event
  known-last end is = subst (λ (o : Option ℕ). IsKnownBy z o last-event) (sym is) refl

  pub ends-next : (new : Stream) (closed : Option ℕ) (found : List Finding)
      → Decides z xs (uncut z ys) Cut h.over new.growth last-event closed found
      → (k : Judged) × IsEnding z xs ys k new × Finds z moment found j k (due_of new)
  ends-next new closed found d =
      let one = finds z xs (uncut z ys) Cut h.over last-event moment new.growth closed found h.is_after.told last-next
      (next-due z xs (uncut z ys) Cut h.over old.growth moment h.is_after due).2
      (sym h.is_after.unsure ∙ due-sure old.growth moment due) d in (
        shown (judged_by z xs (uncut z ys) (closed_too closed (last-event ∷ h.over))),
        record { over = closed_too closed (last-event ∷ h.over); is_after = d.0; judged = refl },
        subst (λ (k : Judged). Finds z moment found k
            (shown (judged_by z xs (uncut z ys) (closed_too closed (last-event ∷ h.over)))) (due_of new)) h.judged
            (subst (λ (k : Judged). Finds z moment found (shown (judged_by z xs (uncut z ys) h.over)) (shown k)
            (due_of new))
            (sym d.2.same) one),
      )
