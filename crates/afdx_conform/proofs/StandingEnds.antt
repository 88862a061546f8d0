-- What a stream stands for at its end: all its events are over.
use Rattle.std.proofs.Common.{◌≡◌, ℕ, ◌+◌, ◌-◌, ◌≤◌, Bool, true, false, List, [], ◌∷◌, ◌++◌, reverse, length, refl, sym, ap, ◌∙◌}
use Rattle.std.proofs.lemmas.List.{append-nil, append_assoc, reverse-append, reverse-reverse}
use Rattle.std.specs.Prelude.{if◌then◌else◌, Option, Some, None, option_map}
use Rattle.afdx_police.specs.Arrival.{Arrival}
use Rattle.afdx_police.specs.Shape.{fault_of}
use Rattle.afdx_conform.specs.Ahead.{until_then}
use Rattle.afdx_conform.specs.Events.{closes_before, event_time, events_of, judged_whole, moment_at}
use Rattle.afdx_conform.specs.Explanations.{last_time}
use Rattle.afdx_conform.specs.Findings.{Judged, came_by, came_to, closed_by, closed_to, judged_after, sound_events}
use Rattle.afdx_conform.specs.Growing.{IsAfter, due_by}
use Rattle.afdx_conform.specs.Histories.{AreEvents, AreOver, coming, counts_by, counts_with, judged_by, least_waiting, next_of, nothing_judged, shown, uncut, unclosed}
use Rattle.afdx_conform.specs.Standing.{IsEnding, StandsFor}
use Rattle.afdx_conform.specs.States.{Event, Came, Closing, are_behind, arrivals_came, kept}
use Rattle.afdx_conform.specs.Streams.{Gone, Terms}
use Rattle.afdx_conform.specs.declared.counts.Counts.{Counts}
use Rattle.afdx_conform.specs.declared.growth.Growth.{Growth}
use Rattle.afdx_conform.specs.declared.streaming.Stream.{Stream}
use Rattle.afdx_conform.proofs.CuttingLemmas.{are-late, split}
use Rattle.afdx_conform.proofs.EventLemmas.{came-all}
use Rattle.afdx_conform.proofs.EveryLemmas.{reverse-first}
use Rattle.afdx_conform.proofs.GrowthFrames.{shown-late}
use Rattle.afdx_conform.proofs.HistoryLemmas.{events-so-far}
use Rattle.afdx_conform.proofs.LeanLemmas.{lean-none}
use Rattle.afdx_conform.proofs.StandingDecides.{due-is}

-- ---- an unsure stream stays so

module _ (z : Terms) (ys : List Gone) where
  came-unsure : (behind : List Arrival) (last : ℕ) (x : Arrival) (j : Judged) → j.is_unsure ≡ true
      → came_to z behind last x j ≡ j
  unfolding came_to
  came-unsure behind last x j e =
      ap (λ (b : Bool). if b then j else came_by z behind last x (fault_of (Some z.rule) x.port x.bytes) j) e

  closed-unsure : (time : ℕ) (j : Judged) → j.is_unsure ≡ true → closed_to z time j ≡ j
  unfolding closed_to
  closed-unsure time j e =
      ap (λ (b : Bool). if b then j else closed_by z time (kept (λ s. are_behind time s.rest) j.states) j) e

  unsure-stays : (behind : List Arrival) (more before : List Event)
      → (judged_after z ys (reverse (arrivals_came more) ++ behind) before).is_unsure ≡ true
      → judged_after z ys behind (more ++ before) ≡ judged_after z ys (reverse (arrivals_came more) ++ behind) before
  unfolding judged_after
  unsure-stays behind [] before e = refl
  unsure-stays behind (Came x ∷ more) before e =
      let same : reverse (x ∷ arrivals_came more) ++ behind ≡ reverse (arrivals_came more) ++ (x ∷ behind) =
      ap (λ (l : List Arrival). l ++ behind) (reverse-first x (arrivals_came more))
      ∙ append_assoc (reverse (arrivals_came more)) (x ∷ []) behind in
      let at = ap (λ (l : List Arrival). judged_after z ys l before) same in
      let un = ap (λ (j : Judged). j.is_unsure) (sym at) ∙ e in
      ap (λ (j : Judged). came_to z behind (last_time z.by (arrivals_came (sound_events z (more ++ before)))) x j)
      (unsure-stays (x ∷ behind) more before un)
      ∙ came-unsure behind (last_time z.by (arrivals_came (sound_events z (more ++ before)))) x
      (judged_after z ys (reverse (arrivals_came more) ++ (x ∷ behind)) before) un
      ∙ sym at
  unsure-stays behind (Closing time ∷ more) before e =
      ap (λ (j : Judged). closed_to z time j) (unsure-stays behind more before e)
      ∙ closed-unsure time (judged_after z ys (reverse (arrivals_came more) ++ behind) before) e

came-append : (a b : List Event) → arrivals_came (a ++ b) ≡ arrivals_came a ++ arrivals_came b
came-append [] b = refl
came-append (Came x ∷ a) b = ap (λ (l : List Arrival). x ∷ l) (came-append a b)
came-append (Closing t ∷ a) b = came-append a b

came-reverse : (l : List Event) → arrivals_came (reverse l) ≡ reverse (arrivals_came l)
came-reverse [] = refl
came-reverse (Came x ∷ l) =
    ap (λ (k : List Event). arrivals_came k) (reverse-first (Came x) l) ∙ came-append (reverse l) (Came x ∷ [])
    ∙ ap (λ (k : List Arrival). k ++ (x ∷ [])) (came-reverse l) ∙ sym (reverse-first x (arrivals_came l))
came-reverse (Closing t ∷ l) =
    ap (λ (k : List Event). arrivals_came k) (reverse-first (Closing t) l) ∙ came-append (reverse l) (Closing t ∷ [])
    ∙ append-nil (arrivals_came (reverse l)) ∙ came-reverse l

module _ (z : Terms) where
  -- ---- all events

  pub whole-unsure : (xs : List Arrival) (ys : List Gone) (over : List Event) → AreEvents z xs ys over
      → (judged_by z xs ys over).is_unsure ≡ true → judged_whole z xs ys ≡ judged_by z xs ys over
  whole-unsure xs ys over events e =
      let left = events_of z (coming xs over) (unclosed ys over) in
      let back : reverse (arrivals_came (reverse (events_of z (coming xs over) (unclosed ys over)))) ++ []
      ≡ coming xs over =
      append-nil (reverse (arrivals_came (reverse (events_of z (coming xs over) (unclosed ys over)))))
      ∙ ap (λ (l : List Arrival). reverse l) (came-reverse (events_of z (coming xs over) (unclosed ys over)))
      ∙ reverse-reverse (arrivals_came (events_of z (coming xs over) (unclosed ys over)))
      ∙ came-all z (coming xs over) (unclosed ys over) in
      let at = ap (λ (l : List Arrival). judged_after z ys l over) back in
      ap (λ (l : List Event). judged_after z ys [] (reverse l)) (events-so-far z xs ys over events)
      ∙ ap (λ (l : List Event). judged_after z ys [] l)
      (reverse-append (reverse over) (events_of z (coming xs over) (unclosed ys over))
      ∙ ap (λ (l : List Event). reverse (events_of z (coming xs over) (unclosed ys over)) ++ l) (reverse-reverse over))
      ∙ unsure-stays z ys [] (reverse (events_of z (coming xs over) (unclosed ys over))) over
      (ap (λ (j : Judged). j.is_unsure) at ∙ e)
      ∙ at

  none-left : (cs : List Arrival) (us : List Gone) → next_of z cs us ≡ None → (cs ≡ []) × (us ≡ [])
  none-left [] [] h = (refl, refl)
  none-left [] (u ∷ us) h = absurd (cc)
  none-left (c ∷ cs) [] h = absurd (cc)
  none-left (c ∷ cs) (u ∷ us) h = by (closes_before z u c) h
    where
      by : (b : Bool) → (if b then Some (Closing u.time) else Some (Came c)) ≡ None → (c ∷ cs ≡ []) × (u ∷ us ≡ [])
      by true k = absurd (cc)
      by false k = absurd (cc)

  no-events : events_of z [] [] ≡ []
  unfolding events_of
  no-events = refl

  pub whole-over : (xs : List Arrival) (ys : List Gone) (over : List Event) → AreEvents z xs ys over
      → next_of z (coming xs over) (unclosed ys over) ≡ None → judged_whole z xs ys ≡ judged_by z xs ys over
  whole-over xs ys over events none =
      let n = none-left (coming xs over) (unclosed ys over) none in
      let left = ap (λ (l : List Arrival). events_of z l (unclosed ys over)) n.0
      ∙ ap (λ (l : List Gone). events_of z [] l) n.1 ∙ no-events in
      ap (λ (l : List Event). judged_after z ys [] (reverse l))
      (events-so-far z xs ys over events ∙ ap (λ (l : List Event). reverse over ++ l) left ∙ append-nil (reverse over))
      ∙ ap (λ (l : List Event). judged_after z ys [] l) (reverse-reverse over)
      ∙ ap (λ (l : List Arrival). judged_after z ys l over) (sym n.0)

  -- ---- nothing is due

  none-due : (o : Option Event) → option_map (λ e. moment_at z (event_time z e)) o ≡ None → o ≡ None
  none-due None h = refl
  none-due (Some e) h = absurd (cc)

  pub next-none : (xs : List Arrival) (ys : List Gone) (cut : ℕ) (over : List Event) (s : Growth)
      → IsAfter z xs ys cut over s
      → s.judging.is_unsure ≡ false → due_by s ≡ None → next_of z (coming xs over) (unclosed ys over) ≡ None
  next-none xs ys cut over s f sure due =
      none-due (next_of z (coming xs over) (unclosed ys over)) (sym (due-is z xs ys cut over s f sure) ∙ due)

  pub whole-is : (xs : List Arrival) (ys : List Gone) (cut : ℕ) (over : List Event) (s : Growth)
      → IsAfter z xs ys cut over s
      → due_by s ≡ None → judged_whole z xs ys ≡ judged_by z xs ys over
  whole-is xs ys cut over s f due = by s.judging.is_unsure refl
    where
      by : (b : Bool) → s.judging.is_unsure ≡ b → judged_whole z xs ys ≡ judged_by z xs ys over
      by true e = whole-unsure xs ys over f.events (sym f.unsure ∙ e)
      by false e = whole-over xs ys over f.events (next-none xs ys cut over s f e due)

  -- ---- the end

  pub ends : (xs : List Arrival) (ys : List Gone) (j : Judged) (time : ℕ) (old new : Stream)
      (h : StandsFor z xs ys j time old)
      → time ≤ z.until
      → IsAfter z xs (uncut z ys) (length ys - length (uncut z ys)) h.over new.growth
      → AreOver z time h.over → IsEnding z xs ys j new
  ends xs ys j time old new h le f o =
      let s = split z ys (h.is_after z.until le).told.left in
      record {
        over = h.over;
        is_after = f;
        judged = sym (shown-late z xs (uncut z ys) s.off time h.over f.told f.events le
            (are-late z time s.off le s.are_off) o)
            ∙ ap (λ (l : List Gone). shown (judged_by z xs l h.over)) (sym s.same) ∙ h.judged z.until le;
      }

  counts-unsure : (frames cut : ℕ) (j : Judged) → j.is_unsure ≡ true → counts_by frames cut j ≡ counts_with 0 0 0
  counts-unsure frames cut j e =
      ap (λ (b : Bool). if b then counts_with 0 0 0
      else counts_with (frames - j.frames) (cut + least_waiting j.states) j.uncertain) e

  pub counted : (xs : List Arrival) (ys : List Gone) (cut : ℕ) (over : List Event) (s : Growth) (result : Counts)
      → IsAfter z xs ys cut over s → due_by s ≡ None
      → (s.judging.is_unsure ≡ true → result ≡ counts_with 0 0 0)
      → (next_of z (coming xs over) (unclosed ys over) ≡ None → result ≡ counts_by (length ys) cut
      (judged_by z xs ys over))
      → result ≡ counts_by (length ys) cut (judged_whole z xs ys)
  counted xs ys cut over s result f due un all =
      by s.judging.is_unsure refl
      ∙ ap (λ (j : Judged). counts_by (length ys) cut j) (sym (whole-is xs ys cut over s f due))
    where
      by : (b : Bool) → s.judging.is_unsure ≡ b → result ≡ counts_by (length ys) cut (judged_by z xs ys over)
      by true e = un e ∙ sym (counts-unsure (length ys) cut (judged_by z xs ys over) (sym f.unsure ∙ e))
      by false e = all (next-none xs ys cut over s f e due)

pub stands-new : (z : Terms) (time : ℕ) (s : Stream) → ((until : ℕ) → IsAfter (until_then until z) [] [] 0 [] s.growth)
    → StandsFor z [] [] nothing_judged time s
unfolding judged_after AreOver
stands-new z time s f = record {
  over = [];
  before = tt;
  is_after = λ until le. f until;
  judged = λ until le. refl;
  lean = lean-none (until_then time z) s.growth (f time) (f time).unsure;
}
