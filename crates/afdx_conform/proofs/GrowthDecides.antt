-- What the code keeps of a stream once the event of an arrival is over.
use Rattle.std.proofs.Common.{◌≡◌, ℕ, zero, suc, ◌+◌, ◌<◌, Bool, true, false, List, [], ◌∷◌, ◌++◌, map, drop, get_or, length, min, refl, sym, ap, ◌∙◌, subst, arith}
use Rattle.std.proofs.Math.Seq.{drop-append-add}
use Rattle.std.proofs.lemmas.List.{append_assoc, drop_more, length-map}
use Rattle.std.specs.Prelude.{if◌then◌else◌, is_none, nat_lt, Option, Some, None}
use Rattle.std.specs.List.{AllByRecursion}
use Rattle.afdx_police.specs.Arrival.{Arrival}
use Rattle.afdx_police.specs.Shape.{fault_of}
use Rattle.afdx_police.specs.declared.shape.Reason.{Reason}
use Rattle.afdx_conform.specs.Explanations.{last_time}
use Rattle.afdx_conform.specs.Findings.{Finding, Judged, Marked, came_by, came_to, frames_in, front_rest, judged_after, sound_events}
use Rattle.afdx_conform.specs.Forgetting.{FitNone, with_gone}
use Rattle.afdx_conform.specs.Growing.{Continues, IsAfter, IsKept, most_found}
use Rattle.afdx_conform.specs.HeldStates.{state_of}
use Rattle.afdx_conform.specs.Histories.{AreEvents, coming, judged_by, newest_tag, next_of, unclosed, unsure_in}
use Rattle.afdx_conform.specs.Judging.{StandsFor, AreFound}
use Rattle.afdx_conform.specs.Limits.{gone_of}
use Rattle.afdx_conform.specs.Marks.{IsJudged, arrival_of}
use Rattle.afdx_conform.specs.States.{Event, Came, State, arrivals_came}
use Rattle.afdx_conform.specs.Streams.{Gone, Terms, fits}
use Rattle.afdx_conform.specs.declared.arrived.Arrived.{Arrived}
use Rattle.afdx_conform.specs.declared.growth.Growth.{Growth}
use Rattle.afdx_conform.specs.declared.judging.Judging.{Judging}
use Rattle.afdx_conform.specs.declared.limits.LeftFrame.{LeftFrame}
use Rattle.afdx_conform.specs.declared.states.StreamState.{StreamState}
use Rattle.afdx_conform.proofs.ForgettingLemmas.{forgetting_nothing}
use Rattle.afdx_conform.proofs.HistoryLemmas.{drop-next, every-drop}

-- ---- lists

pub drop-map : {X Y : Type 0} (f : X → Y) (n : ℕ) (xs : List X) → drop n (map f xs) ≡ map f (drop n xs)
drop-map f zero xs = refl
drop-map f (suc n) [] = refl
drop-map f (suc n) (x ∷ xs) = drop-map f n xs

pub of-both : {X : Type 0} (P : X → Type 0) (b : Bool) (u v : X) → P u → P v → P (if b then u else v)
of-both P true u v p q = p
of-both P false u v p q = q

-- no frame that is left after the states fits
pub front-none : (z : Terms) (ys : List Gone) (gone : List Marked) (held : List StreamState) → FitNone z ys gone
    → FitNone z (front_rest (map (state_of ys) held)) gone
unfolding front_rest
front-none z ys gone [] all = tt
front-none z ys gone (h ∷ []) all = every-drop (λ y. AllByRecursion (λ m. fits z m.arrival y ≡ false) gone) h.passed
    ys all
front-none z ys gone (h ∷ g ∷ held) all =
    of-both (λ l. FitNone z l gone) (nat_lt (length (drop h.passed ys))
    (length (front_rest (map (state_of ys) (g ∷ held)))))
    (drop h.passed ys) (front_rest (map (state_of ys) (g ∷ held)))
    (every-drop (λ y. AllByRecursion (λ m. fits z m.arrival y ≡ false) gone) h.passed ys all)
    (front-none z ys gone (g ∷ held) all)

tag-last : (l : List Marked) (m : Marked) → newest_tag (l ++ (m ∷ [])) ≡ Some m.arrival.tag
tag-last [] m = refl
tag-last (k ∷ []) m = refl
tag-last (k ∷ n ∷ l) m = tag-last (n ∷ l) m

-- ---- the newest of the arrivals

pub record IsLast (x : Arrival) (l : List Marked) : Type 0 where
  pub before : List Marked
  pub one : Marked
  pub is : l ≡ before ++ (one ∷ [])
  pub arrival : one.arrival ≡ x

module _ (z : Terms) where
  pub came-last : (behind : List Arrival) (last : ℕ) (x : Arrival) (j : Judged) → j.is_unsure ≡ false
      → IsLast x (came_to z behind last x j).arrivals
  unfolding came_to
  came-last behind last x j sure =
      subst (λ (b : Bool). IsLast x (if b then j else came_by z behind last x (fault_of (Some z.rule) x.port x.bytes)
      j).arrivals)
      (sym sure) (by (fault_of (Some z.rule) x.port x.bytes))
    where
      by : (fault : Option Reason) → IsLast x (came_by z behind last x fault j).arrivals
      by None = record { before = _; one = _; is = refl; arrival = refl }
      by (Some reason) = record { before = _; one = _; is = refl; arrival = refl }

  pub outcome-of : (over : List Event) (a : Arrived) (old : Growth) (judging' : Judging) (found : List Finding)
      (j : Judged)
      (xs' : List Arrived) (fs : List LeftFrame) → xs' ≡ old.arrivals.items → fs ≡ old.frames.items
      → StandsFor old.bounds.rates fs xs' (came_to z (map arrival_of (drop (length old.judging.marks.items + 1) xs'))
      (last_time z.by (arrivals_came (sound_events z over))) (arrival_of a) j) judging'
      × AreFound a.time found j (came_to z (map arrival_of (drop (length old.judging.marks.items + 1) xs'))
      (last_time z.by (arrivals_came (sound_events z over))) (arrival_of a) j)
      → StandsFor old.bounds.rates old.frames.items old.arrivals.items (came_to z (map arrival_of
      (drop (length old.judging.marks.items + 1) old.arrivals.items))
      (last_time z.by (arrivals_came (sound_events z over))) (arrival_of a) j) judging'
      × AreFound a.time found j
      (came_to z (map arrival_of (drop (length old.judging.marks.items + 1) old.arrivals.items))
      (last_time z.by (arrivals_came (sound_events z over))) (arrival_of a) j)
  outcome-of over a old judging' found j xs' fs e g out =
      subst (λ (l : List Arrived). StandsFor old.bounds.rates old.frames.items l (came_to z (map arrival_of
      (drop (length old.judging.marks.items + 1) l))
      (last_time z.by (arrivals_came (sound_events z over))) (arrival_of a) j) judging'
      × AreFound a.time found j (came_to z (map arrival_of (drop (length old.judging.marks.items + 1) l))
      (last_time z.by (arrivals_came (sound_events z over))) (arrival_of a) j)) e
      (subst (λ (l : List LeftFrame). StandsFor old.bounds.rates l xs' (came_to z (map arrival_of
      (drop (length old.judging.marks.items + 1) xs'))
      (last_time z.by (arrivals_came (sound_events z over))) (arrival_of a) j) judging'
      × AreFound a.time found j (came_to z (map arrival_of (drop (length old.judging.marks.items + 1) xs'))
      (last_time z.by (arrivals_came (sound_events z over))) (arrival_of a) j)) g out)

  -- ---- an arrival

  module _ (xs : List Arrival) (ys : List Gone) (cut : ℕ) (over : List Event) (a : Arrived) (old : Growth)
      (judging' : Judging)
      (tag' : Option ℕ) (last' : ℕ) (found : List Finding) where
    abbrev X : Arrival
    X = arrival_of a

    abbrev Marks : ℕ
    Marks = length old.judging.marks.items

    abbrev Behind : List Arrival
    Behind = map arrival_of (drop (Marks + 1) old.arrivals.items)

    abbrev Last : ℕ
    Last = last_time z.by (arrivals_came (sound_events z over))

    abbrev pub Come : Growth
    Come = record old {
      judging = judging';
      unsure = tag';
      last = last';
      is_started = true;
      found = min (old.found + frames_in found) most_found;
    }

    module _ (gone : List Marked) (past : List Gone) (k : IsKept z xs ys cut over gone past old)
        (lt : Marks < length old.arrivals.items)
        (at : a ≡ get_or old.arrivals.items Marks a) where
      pub coming-is : coming xs over ≡ X ∷ Behind
      coming-is =
          ap (λ (l : List Arrival). drop (length (arrivals_came over)) l) k.came
          ∙ ap (λ (n : ℕ). drop n (map (λ m. m.arrival) gone ++ map arrival_of old.arrivals.items))
          (let m = k.marks in let g = length-map gone (λ (m : Marked). m.arrival) in
          let e : length (arrivals_came over) ≡ length (map (λ (m : Marked). m.arrival) gone) + Marks =
          omega (arith, m, g) in e)
          ∙ drop-append-add (map (λ (m : Marked). m.arrival) gone) (map arrival_of old.arrivals.items) Marks
          ∙ drop-map arrival_of Marks old.arrivals.items
          ∙ ap (λ (l : List Arrived). map arrival_of l) (drop_more old.arrivals.items Marks a lt)
          ∙ ap (λ (v : Arrived). arrival_of v ∷ Behind) (sym at)

      behind-is : coming xs (Came X ∷ over) ≡ Behind
      behind-is = drop-next (length (arrivals_came over)) xs X Behind coming-is

      judged-next : (c : Continues z xs ys over gone old) → judged_by z xs ys (Came X ∷ over)
          ≡ with_gone gone 0 (came_to z Behind Last X c.j)
      unfolding judged_after
      judged-next c =
          ap (λ (l : List Arrival). came_to z l Last X (judged_after z ys (X ∷ l) over)) behind-is
          ∙ ap (λ (l : List Arrival). came_to z Behind Last X (judged_after z ys l over)) (sym coming-is)
          ∙ ap (λ (j : Judged). came_to z Behind Last X j) (sym c.same)
          ∙ forgetting_nothing.came z gone 0 c.j Behind Last X
          (subst (λ (l : List State). FitNone z (front_rest l) gone) c.stands.states
          (front-none z (map gone_of old.frames.items) gone old.judging.held.items k.unread))

      last-next : IsJudged z a → last' ≡ (if is_none a.fault then a.time else old.last)
          → last' ≡ last_time z.by (arrivals_came (sound_events z (Came X ∷ over)))
      unfolding sound_events
      last-next js e =
          e ∙ ap (λ (f : Option Reason). if is_none f then a.time else old.last) js.fault
          ∙ ap (λ (n : ℕ). if is_none (fault_of (Some z.rule) a.port a.bytes) then a.time else n) k.last
          ∙ by (is_none (fault_of (Some z.rule) a.port a.bytes))
        where
          by : (b : Bool) → (if b then a.time else Last)
              ≡ last_time z.by (arrivals_came (if b then Came X ∷ sound_events z over else sound_events z over))
          by true = refl
          by false = refl

      module _ (c : Continues z xs ys over gone old) (js : IsJudged z a) (sure : old.judging.is_unsure ≡ false)
          (stands : StandsFor old.bounds.rates old.frames.items old.arrivals.items (came_to z Behind Last X c.j)
          judging')
          (are : AreFound a.time found c.j (came_to z Behind Last X c.j))
          (marks : length judging'.marks.items ≡ Marks + 1)
          (last-is : last' ≡ (if is_none a.fault then a.time else old.last))
          (tag-is : tag' ≡ (if judging'.is_unsure then Some a.number else None)) where
        found-come : AreFound a.time found (judged_by z xs ys over) (judged_by z xs ys (Came X ∷ over))
        found-come =
            subst (λ (v : Judged). AreFound a.time found v (judged_by z xs ys (Came X ∷ over))) c.same
            (subst (λ (v : Judged). AreFound a.time found (with_gone gone 0 c.j) v) (sym (judged-next c))
            (record { findings = are.findings; frames = are.frames }))

        kept-come : IsKept z xs ys cut (Came X ∷ over) gone past Come
        kept-come = record {
          came = k.came;
          left = k.left;
          judged = k.judged;
          marks = (let m = k.marks in omega (arith, m, marks));
          closed = k.closed;
          unread = k.unread;
          last = last-next js last-is;
          found = (let f = k.found in let n = found-come.frames in omega (arith, f, n));
          arrivals = k.arrivals;
          frames = k.frames;
          cut_off = k.cut_off;
          started = refl;
          certain = λ e. absurd (cc);
        }

        continues-come : Continues z xs ys (Came X ∷ over) gone Come
        continues-come = record {
          j = came_to z Behind Last X c.j;
          same = sym (judged-next c);
          stands = record {
            states = stands.states;
            within = stands.within;
            marks = stands.marks;
            uncertain = stands.uncertain;
            unsure = stands.unsure;
          };
        }

        tag-come : tag' ≡ unsure_in (judged_by z xs ys (Came X ∷ over))
        tag-come =
            let newest = came-last Behind Last X c.j
            (ap (λ (v : Judged). v.is_unsure) c.same ∙ unsure-is) in
            tag-is
            ∙ ap (λ (b : Bool). if b then Some a.number else None) stands.unsure
            ∙ ap (λ (o : Option ℕ). if (came_to z Behind Last X c.j).is_unsure then o else None)
            (sym (ap (λ (l : List Marked). newest_tag (gone ++ l)) newest.is
            ∙ ap (λ (l : List Marked). newest_tag l) (sym (append_assoc gone newest.before (newest.one ∷ [])))
            ∙ tag-last (gone ++ newest.before) newest.one
            ∙ ap (λ (v : Arrival). Some v.tag) newest.arrival))
            ∙ ap (λ (v : Judged). unsure_in v) (sym (judged-next c))
          where
            unsure-is : (judged_by z xs ys over).is_unsure ≡ false
            unsure-is = ap (λ (v : Judged). v.is_unsure) (sym c.same) ∙ sym c.stands.unsure ∙ sure

        pub after-come : IsAfter z xs ys cut over old → next_of z (coming xs over) (unclosed ys over) ≡ Some (Came X)
            → IsAfter z xs ys cut (Came X ∷ over) Come
            × AreFound a.time found (judged_by z xs ys over) (judged_by z xs ys (Came X ∷ over))
        unfolding AreEvents
        after-come f next = (
          record {
            bounds = f.bounds;
            by = f.by;
            told = f.told;
            events = (next, f.events);
            unsure = stands.unsure ∙ ap (λ (v : Judged). v.is_unsure) (sym (judged-next c));
            tag = tag-come;
            sure = λ s. record { gone = gone; past = past; kept = kept-come; continues = λ e. continues-come };
          },
          found-come,
        )
