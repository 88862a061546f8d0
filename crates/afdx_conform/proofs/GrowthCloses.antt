-- What the code keeps of a stream once the closing of a frame is over.
use Rattle.std.proofs.Common.{◌≡◌, ℕ, zero, suc, ◌+◌, ◌<◌, ◌≤◌, Bool, true, false, List, [], ◌∷◌, ◌++◌, map, get_or, length, min, refl, sym, ap, ◌∙◌, subst, arith}
use Rattle.std.specs.Prelude.{if◌then◌else◌, Some, None}
use Rattle.std.specs.List.{AllByRecursion}
use Rattle.afdx_police.specs.Arrival.{Arrival}
use Rattle.afdx_conform.specs.Events.{GoUp, frame_times}
use Rattle.afdx_conform.specs.Findings.{Finding, Judged, Marked, closed_by, closed_to, frames_in, front_rest, judged_after, lead, skipped, sound_events, unexplained}
use Rattle.afdx_conform.specs.Forgetting.{FitNone, with_gone}
use Rattle.afdx_conform.specs.Growing.{Continues, IsAfter, IsKept, most_found}
use Rattle.afdx_conform.specs.Histories.{AreEvents, coming, judged_by, newest_tag, next_of, unclosed, unsure_in}
use Rattle.afdx_conform.specs.Judging.{StandsFor, AreFound}
use Rattle.afdx_conform.specs.Leeway.{reach}
use Rattle.afdx_conform.specs.Limits.{AreFrames, gone_of}
use Rattle.afdx_conform.specs.States.{Event, Closing, State, are_behind, kept}
use Rattle.afdx_conform.specs.Streams.{Gone, Terms}
use Rattle.afdx_conform.specs.declared.arrived.Arrived.{Arrived}
use Rattle.afdx_conform.specs.declared.growth.Growth.{Growth}
use Rattle.afdx_conform.specs.declared.judging.Judging.{Judging}
use Rattle.afdx_conform.specs.declared.limits.LeftFrame.{LeftFrame}
use Rattle.afdx_conform.proofs.ForgettingLemmas.{forgetting_nothing}
use Rattle.afdx_conform.proofs.GrowthDecides.{front-none, of-both}

-- ---- frames that go by time, by their places

times-right : (past : List Gone) (ys : List Gone) → GoUp (frame_times (past ++ ys)) → GoUp (frame_times ys)
unfolding GoUp
times-right [] ys h = h
times-right (y ∷ past) ys h = times-right past ys h.1

at-or-behind : (fs : List LeftFrame) (time k : ℕ) (g : LeftFrame)
    → AllByRecursion (λ t. time ≤ t) (frame_times (map gone_of fs))
    → k < length fs → g ≡ get_or fs k g → time ≤ g.time
at-or-behind [] time k g all lt at = absurd (omega (arith, lt))
at-or-behind (f ∷ fs) time zero g all lt at = subst (λ (v : LeftFrame). time ≤ v.time) (sym at) all.0
at-or-behind (f ∷ fs) time (suc k) g all lt at = at-or-behind fs time k g all.1 (omega (arith, lt)) at

pub are-frames : (fs : List LeftFrame) → GoUp (frame_times (map gone_of fs)) → AreFrames fs
unfolding GoUp
are-frames [] up i k f g le lt p q = absurd (omega (arith, lt))
are-frames (h ∷ fs) up zero zero f g le lt p q =
    let a = ap (λ (v : LeftFrame). v.time) p in let b = ap (λ (v : LeftFrame). v.time) q in omega (arith, a, b)
are-frames (h ∷ fs) up zero (suc k) f g le lt p q =
    subst (λ (v : LeftFrame). v.time ≤ g.time) (sym p) (at-or-behind fs h.time k g up.0 (omega (arith, lt)) q)
are-frames (h ∷ fs) up (suc i) zero f g le lt p q = absurd (omega (arith, le))
are-frames (h ∷ fs) up (suc i) (suc k) f g le lt p q = are-frames fs up.1 i k f g (omega (arith, le))
    (omega (arith, lt)) p q

pub frames-held : (past ys : List Gone) (fs : List LeftFrame) → GoUp (frame_times ys) → ys ≡ past ++ map gone_of fs
    → AreFrames fs
frames-held past ys fs up e =
    are-frames fs (times-right past (map gone_of fs) (subst (λ (l : List Gone). GoUp (frame_times l)) e up))

module _ (z : Terms) where
  -- ---- a closing makes no stream unsure

  skipped-unsure : (time : ℕ) (front : List State) (rest : List Gone) (j : Judged)
      → (skipped z time front rest j).is_unsure ≡ j.is_unsure
  unfolding skipped unexplained
  skipped-unsure time front [] j = refl
  skipped-unsure time front (y ∷ rest) j =
      of-both (λ (k : Judged). k.is_unsure ≡ j.is_unsure) (are_behind time rest) _ _ refl
      (skipped-unsure time front rest (unexplained z (time + reach z.by) y j))

  pub closed-unsure : (time : ℕ) (j : Judged) → (closed_to z time j).is_unsure ≡ j.is_unsure
  unfolding closed_to
  closed-unsure time j =
      of-both (λ (k : Judged). k.is_unsure ≡ j.is_unsure) j.is_unsure j
      (closed_by z time (kept (λ s. are_behind time s.rest) j.states) j) refl
      (by (kept (λ s. are_behind time s.rest) j.states))
    where
      by : (l : List State) → (closed_by z time l j).is_unsure ≡ j.is_unsure
      by [] = skipped-unsure time (lead j.states) (front_rest j.states) j
      by (s ∷ more) = refl

  pub closed-of : (f : LeftFrame) (old : Growth) (judging' : Judging) (j : Judged) (xs' : List Arrived)
      (fs : List LeftFrame)
      → xs' ≡ old.arrivals.items → fs ≡ old.frames.items → StandsFor old.bounds.rates fs xs' (closed_to z f.time j)
      judging'
      → StandsFor old.bounds.rates old.frames.items old.arrivals.items (closed_to z f.time j) judging'
  closed-of f old judging' j xs' fs e g s =
      subst (λ (l : List Arrived). StandsFor old.bounds.rates old.frames.items l (closed_to z f.time j) judging') e
      (subst (λ (l : List LeftFrame). StandsFor old.bounds.rates l xs' (closed_to z f.time j) judging') g s)

  -- ---- the closing of a frame

  module _ (xs : List Arrival) (ys : List Gone) (cut : ℕ) (over : List Event) (f : LeftFrame) (old : Growth)
      (judging' : Judging)
      (found : List Finding) (to : ℕ) where
    abbrev pub Close : Growth
    Close = record old {
      judging = judging';
      closed = old.closed + 1;
      closing = to;
      is_started = true;
      found = min (old.found + frames_in found) most_found;
    }

    module _ (gone : List Marked) (past : List Gone) (k : IsKept z xs ys cut over gone past old) where
      pub closed-next : (c : Continues z xs ys over gone old) → judged_by z xs ys (Closing f.time ∷ over)
          ≡ with_gone gone 0 (closed_to z f.time c.j)
      unfolding judged_after
      closed-next c =
          ap (λ (j : Judged). closed_to z f.time j) (sym c.same)
          ∙ forgetting_nothing.closing z gone 0 c.j f.time
          (subst (λ (l : List State). FitNone z (front_rest l) gone) c.stands.states
          (front-none z (map gone_of old.frames.items) gone old.judging.held.items k.unread))

      module _ (c : Continues z xs ys over gone old) (sure : old.judging.is_unsure ≡ false)
          (stands : StandsFor old.bounds.rates old.frames.items old.arrivals.items (closed_to z f.time c.j) judging')
          (are : AreFound (f.time + reach z.by) found c.j (closed_to z f.time c.j))
          (marks : length judging'.marks.items ≡ length old.judging.marks.items) where
        found-close : AreFound (f.time + reach z.by) found (judged_by z xs ys over)
            (judged_by z xs ys (Closing f.time ∷ over))
        found-close =
            subst (λ (v : Judged). AreFound (f.time + reach z.by) found v (judged_by z xs ys (Closing f.time ∷ over)))
            c.same
            (subst (λ (v : Judged). AreFound (f.time + reach z.by) found (with_gone gone 0 c.j) v) (sym (closed-next c))
            (record { findings = are.findings; frames = are.frames }))

        kept-close : IsKept z xs ys cut (Closing f.time ∷ over) gone past Close
        unfolding sound_events
        kept-close = record {
          came = k.came;
          left = k.left;
          judged = k.judged;
          marks = (let m = k.marks in omega (arith, m, marks));
          closed = (let m = k.closed in omega (arith, m));
          unread = k.unread;
          last = k.last;
          found = (let g = k.found in let n = found-close.frames in omega (arith, g, n));
          arrivals = k.arrivals;
          frames = k.frames;
          cut_off = k.cut_off;
          started = refl;
          certain = λ e. absurd (cc);
        }

        continues-close : Continues z xs ys (Closing f.time ∷ over) gone Close
        continues-close = record {
          j = closed_to z f.time c.j;
          same = sym (closed-next c);
          stands = record {
            states = stands.states;
            within = stands.within;
            marks = stands.marks;
            uncertain = stands.uncertain;
            unsure = stands.unsure;
          };
        }

        still-sure : (judged_by z xs ys (Closing f.time ∷ over)).is_unsure ≡ false
        still-sure =
            ap (λ (v : Judged). v.is_unsure) (closed-next c) ∙ closed-unsure f.time c.j ∙ sym c.stands.unsure ∙ sure

        before-sure : (judged_by z xs ys over).is_unsure ≡ false
        before-sure = ap (λ (v : Judged). v.is_unsure) (sym c.same) ∙ sym c.stands.unsure ∙ sure

        pub after-close : IsAfter z xs ys cut over old → next_of z (coming xs over) (unclosed ys over)
            ≡ Some (Closing f.time)
            → IsAfter z xs ys cut (Closing f.time ∷ over) Close
            × AreFound (f.time + reach z.by) found (judged_by z xs ys over) (judged_by z xs ys (Closing f.time ∷ over))
        unfolding AreEvents
        after-close g next = (
          record {
            bounds = g.bounds;
            by = g.by;
            told = g.told;
            events = (next, g.events);
            unsure = stands.unsure ∙ ap (λ (v : Judged). v.is_unsure) (sym (closed-next c));
            tag = g.tag ∙ none (judged_by z xs ys over) before-sure
                ∙ sym (none (judged_by z xs ys (Closing f.time ∷ over)) still-sure);
            sure = λ s. record { gone = gone; past = past; kept = kept-close; continues = λ e. continues-close };
          },
          found-close,
        )
          where
            none : (j : Judged) → j.is_unsure ≡ false → unsure_in j ≡ None
            none j e = ap (λ (b : Bool). if b then newest_tag j.arrivals else None) e
