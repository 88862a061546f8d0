-- What the code keeps of a stream, with one more frame.
use Rattle.std.proofs.Common.{◌≡◌, ℕ, suc, ◌+◌, ◌<◌, ◌≤◌, true, false, List, [], ◌∷◌, ◌++◌, map, length, min, refl, sym, ap, ◌∙◌, subst, arith}
use Rattle.std.proofs.lemmas.List.{append_assoc, drop-append-le, length-append, length-map, map-append}
use Rattle.std.specs.Prelude.{All}
use Rattle.std.specs.List.{AllByRecursion}
use Rattle.std.specs.Global.{Vec}
use Rattle.afdx_police.specs.Arrival.{Arrival}
use Rattle.afdx_conform.specs.Ahead.{with_more}
use Rattle.afdx_conform.specs.Events.{moment_at}
use Rattle.afdx_conform.specs.Explanations.{from_time}
use Rattle.afdx_conform.specs.Findings.{Judged, Marked, judged_after}
use Rattle.afdx_conform.specs.Forgetting.{FitNone, with_gone}
use Rattle.afdx_conform.specs.Growing.{AreTold, Continues, IsAfter, IsHeld, IsKept, MayLeave, is_some, most_found}
use Rattle.afdx_conform.specs.HeldStates.{IsWithin, state_of}
use Rattle.afdx_conform.specs.Histories.{AreEvents, AreOver, coming, judged_by, shown, unsure_in}
use Rattle.afdx_conform.specs.Later.{judged_more}
use Rattle.afdx_conform.specs.Leeway.{reach}
use Rattle.afdx_conform.specs.Limits.{gone_of}
use Rattle.afdx_conform.specs.Marks.{arrival_of}
use Rattle.afdx_conform.specs.Ranges.{most_held}
use Rattle.afdx_conform.specs.States.{Event, State, state_with}
use Rattle.afdx_conform.specs.Streams.{Gone, Terms, fits}
use Rattle.afdx_conform.specs.declared.growth.Growth.{Growth}
use Rattle.afdx_conform.specs.declared.levels.Rates.{Rates}
use Rattle.afdx_conform.specs.declared.limits.LeftFrame.{LeftFrame}
use Rattle.afdx_conform.specs.declared.states.StreamState.{StreamState}
use Rattle.afdx_conform.proofs.EveryLemmas.{every-append, every-on}
use Rattle.afdx_conform.proofs.GrowthLemmas.{gone-over, times-up, true-false}
use Rattle.afdx_conform.proofs.HistoryLemmas.{events-left}
use Rattle.afdx_conform.proofs.LaterLemmas.{frames_later}
use Rattle.afdx_conform.proofs.OverLemmas.{AreLate, are-far, fits-not, not-begun}

-- ---- states, with more frames behind those that are left

pub states-more : (ys more : List Gone) (held : List StreamState) (n : ℕ) → All (λ h. h.passed ≤ n) held → n ≤ length ys
    → map (state_of (ys ++ more)) held ≡ map (with_more more) (map (state_of ys) held)
states-more ys more [] n all le = refl
states-more ys more (h ∷ held) n all le =
    ap (λ (l : List Gone). state_with l h.levels h.waiting ∷ map (state_of (ys ++ more)) held)
    (drop-append-le h.passed ys more (let one = all 0 h (omega arith) in omega (arith, one, le)))
    ∙ ap (λ (l : List State). with_more more (state_of ys h) ∷ l)
    (states-more ys more held n (λ i d lt. all (suc i) d (omega (arith, lt))) le)

within-more : (rates : Rates) (n k count : ℕ) (held : List StreamState) → n ≤ k →
    All (λ h. IsWithin rates n count h) held
    → All (λ h. IsWithin rates k count h) held
within-more rates n k count held le all i d lt =
    let h = all i d lt in
    let p = h.passed in
    record { passed = omega (arith, p, le); waiting = h.waiting; levels = h.levels; near = h.near }

module _ (z : Terms) where
  -- ---- what is judged is the same but for the states

  pub judged-late : (xs : List Arrival) (ys more : List Gone) (time : ℕ) (e : Event) (before : List Event)
      → AreTold z xs ys
      → AreEvents z xs ys (e ∷ before) → time ≤ z.until → AreLate z time more → AreOver z time (e ∷ before)
      → judged_by z xs (ys ++ more) (e ∷ before) ≡ judged_more more (judged_by z xs ys (e ∷ before))
  judged-late xs ys more time e before told events until late o =
      frames_later z ys more (coming xs (e ∷ before)) (e ∷ before)
      (are-far z more time (e ∷ before) until late (not-begun z xs ys more time e before told events o late) o)

  pub shown-late : (xs : List Arrival) (ys more : List Gone) (time : ℕ) (over : List Event) → AreTold z xs ys
      → AreEvents z xs ys over → time ≤ z.until → AreLate z time more → AreOver z time over
      → shown (judged_by z xs (ys ++ more) over) ≡ shown (judged_by z xs ys over)
  unfolding judged_after
  shown-late xs ys more time [] told events until late o = refl
  shown-late xs ys more time (e ∷ before) told events until late o =
      ap (λ (j : Judged). shown j) (judged-late xs ys more time e before told events until late o)

  -- ---- one more frame

  module _ (xs : List Arrival) (ys : List Gone) (cut time : ℕ) (over : List Event) (f : LeftFrame) (old : Growth)
      (frames' : Vec LeftFrame) (count : ℕ) where
    abbrev One : List Gone
    One = gone_of f ∷ []

    abbrev pub WithFrame : Growth
    WithFrame = record old { frames = frames'; left = count }

    told-left : MayLeave z ys time (gone_of f) → AreTold z xs ys → AreTold z xs (ys ++ One)
    told-left m t = record {
      came = t.came;
      left = times-up (λ (y : Gone). y.time) ys (gone_of f) t.left m.by_time;
      start = t.start;
      begun = every-append (λ y. from_time z.by.start ≤ y.time + reach z.by) ys One t.begun (m.start, tt);
    }

    late : MayLeave z ys time (gone_of f) → AreLate z time One
    late m = ((let le = m.behind in omega (arith, le)), tt)

    module _ (items : frames'.items ≡ old.frames.items ++ (f ∷ [])) (counted : count ≡ old.left + 1)
        (m : MayLeave z ys time (gone_of f)) (until : time ≤ z.until) (o : AreOver z time over)
        (t : AreTold z xs ys) (events : AreEvents z xs ys over) where
      same-shown : shown (judged_by z xs (ys ++ One) over) ≡ shown (judged_by z xs ys over)
      same-shown = shown-late xs ys One time over t events until (late m) o

      frames-of : map gone_of frames'.items ≡ map gone_of old.frames.items ++ One
      frames-of = ap (λ (l : List LeftFrame). map gone_of l) items ∙ map-append gone_of old.frames.items (f ∷ [])

      unread-more : (gone : List Marked) (past : List Gone) → IsKept z xs ys cut over gone past old
          → FitNone z (map gone_of frames'.items) gone
      unread-more gone past k =
          subst (λ (l : List Gone). FitNone z l gone) (sym frames-of)
          (every-append (λ y. AllByRecursion (λ w. fits z w.arrival y ≡ false) gone) (map gone_of old.frames.items)
          One k.unread (
            every-on (λ w. moment_at z w.arrival.time < time) (λ w. fits z w.arrival (gone_of f) ≡ false)
                (λ w lt. fits-not z w.arrival (gone_of f) time lt (late m).0) gone
                (gone-over z xs (map arrival_of old.arrivals.items) ys gone time over events k.came
                (let n = k.marks in omega (arith, n)) o),
            tt,
          ))

      kept-left : (gone : List Marked) (past : List Gone) → IsKept z xs ys cut over gone past old
          → IsKept z xs (ys ++ One) cut over gone past WithFrame
      kept-left gone past k = record {
        came = k.came;
        left = ap (λ (l : List Gone). l ++ One) k.left ∙ append_assoc past (map gone_of old.frames.items) One
            ∙ ap (λ (l : List Gone). past ++ l) (sym frames-of);
        judged = k.judged;
        marks = k.marks;
        closed = k.closed;
        unread = unread-more gone past k;
        last = k.last;
        found = k.found ∙ ap (λ (j : Judged). min j.frames most_found) (sym same-shown);
        arrivals = k.arrivals;
        frames = (let n = k.frames in let l = length-append ys One in omega (arith, n, l, counted));
        cut_off = k.cut_off;
        started = k.started;
        certain = k.certain;
      }

      same-left : (gone : List Marked) (j : Judged) → is_some over ≡ true → with_gone gone 0 j ≡ judged_by z xs ys over
          → with_gone gone 0 (judged_more One j) ≡ judged_by z xs (ys ++ One) over
      same-left gone j some e = by over some t events o e
        where
          by : (l : List Event) → is_some l ≡ true → AreTold z xs ys → AreEvents z xs ys l → AreOver z time l
              → with_gone gone 0 j ≡ judged_by z xs ys l → with_gone gone 0 (judged_more One j) ≡ judged_by z xs
              (ys ++ One) l
          by [] s told ev ov same = absurd (cc)
          by (v ∷ before) s told ev ov same =
              ap (λ (k : Judged). judged_more One k) same
              ∙ sym (judged-late xs ys One time v before told ev until (late m) ov)

      continues-left : (gone : List Marked) → is_some over ≡ true → Continues z xs ys over gone old
          → Continues z xs (ys ++ One) over gone WithFrame
      continues-left gone some c = record {
        j = judged_more One c.j;
        same = same-left gone c.j some c.same;
        stands = record {
          states = ap (λ (l : List Gone). map (state_of l) old.judging.held.items) frames-of
              ∙ states-more (map gone_of old.frames.items) One old.judging.held.items (length old.frames.items)
              (λ i d lt. (c.stands.within i d lt).passed)
              (let n = length-map old.frames.items gone_of in omega (arith, n))
              ∙ ap (λ (l : List State). map (with_more One) l) c.stands.states;
          within = within-more old.bounds.rates (length old.frames.items) (length frames'.items)
              (length old.judging.marks.items) old.judging.held.items
              (let n = ap (λ (l : List LeftFrame). length l) items ∙ length-append old.frames.items (f ∷ []) in
              omega (arith, n))
              c.stands.within;
          marks = c.stands.marks;
          uncertain = c.stands.uncertain;
          unsure = c.stands.unsure;
        };
      }

      held-left : IsHeld z xs ys cut over old → IsHeld z xs (ys ++ One) cut over WithFrame
      held-left h = record {
        gone = h.gone;
        past = h.past;
        kept = kept-left h.gone h.past h.kept;
        continues = λ s. continues-left h.gone (sym h.kept.started ∙ s) (h.continues s);
      }

    pub after-left : frames'.items ≡ old.frames.items ++ (f ∷ []) → count ≡ old.left + 1
        → MayLeave z ys time (gone_of f)
        → time ≤ z.until → AreOver z time over → IsAfter z xs ys cut over old
        → IsAfter z xs (ys ++ One) cut over WithFrame
    after-left items counted m until o g =
        let same = same-shown items counted m until o g.told g.events in
        record {
          bounds = g.bounds;
          by = g.by;
          told = told-left m g.told;
          events = events-left z xs ys (gone_of f) time over (late m).0 o g.events;
          unsure = g.unsure ∙ ap (λ (k : Judged). k.is_unsure) (sym same);
          tag = g.tag ∙ ap (λ (k : Judged). unsure_in k) (sym same);
          sure = λ s. held-left items counted m until o g.told g.events (g.sure s);
        }

    pub frame-unsure : old.judging.is_unsure ≡ true → MayLeave z ys time (gone_of f) → time ≤ z.until
        → AreOver z time over
        → IsAfter z xs ys cut over old → IsAfter z xs (ys ++ One) cut over old
    frame-unsure un m until o g =
        let same = shown-late xs ys One time over g.told g.events until (late m) o in
        record {
          bounds = g.bounds;
          by = g.by;
          told = told-left m g.told;
          events = events-left z xs ys (gone_of f) time over (late m).0 o g.events;
          unsure = g.unsure ∙ ap (λ (k : Judged). k.is_unsure) (sym same);
          tag = g.tag ∙ ap (λ (k : Judged). unsure_in k) (sym same);
          sure = λ s. absurd (true-false un s);
        }

    -- there aren't so many
    pub not-many-left : MayLeave z ys time (gone_of f) → old.judging.is_unsure ≡ false → cut ≡ 0
        → most_held ≤ old.left + old.cut + 1 → IsAfter z xs ys cut over old → ⊥
    not-many-left m sure none le g =
        let few = m.few in
        let is = (g.sure sure).kept.frames in
        let off = (g.sure sure).kept.cut_off in
        absurd (omega (arith, few, is, off, none, le))
