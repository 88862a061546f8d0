-- What the code keeps of a stream at first, before its first event, and where nothing has changed.
use Rattle.std.proofs.Common.{◌≡◌, ℕ, ◌+◌, true, false, List, [], ◌∷◌, ◌++◌, map, length, refl, sym, ap, ◌∙◌, subst, arith}
use Rattle.std.specs.Prelude.{All, None}
use Rattle.std.specs.Global.{Vec}
use Rattle.afdx_police.specs.Arrival.{Arrival}
use Rattle.afdx_conform.specs.Bounds.{AreBounds}
use Rattle.afdx_conform.specs.Events.{GoUp}
use Rattle.afdx_conform.specs.Explanations.{from_time, link}
use Rattle.afdx_conform.specs.Findings.{Marked, judged_after, judged_with, sound_events}
use Rattle.afdx_conform.specs.Forgetting.{FitNone}
use Rattle.afdx_conform.specs.Growing.{Continues, IsAfter, IsHeld, IsKept, IsReady, IsSame}
use Rattle.afdx_conform.specs.HeldStates.{IsWithin, state_of}
use Rattle.afdx_conform.specs.Histories.{AreEvents}
use Rattle.afdx_conform.specs.LeewayOf.{leeway_of}
use Rattle.afdx_conform.specs.Levels.{first_levels}
use Rattle.afdx_conform.specs.Limits.{gone_of}
use Rattle.afdx_conform.specs.Marks.{IsJudged, arrival_of, marked_all}
use Rattle.afdx_conform.specs.States.{Event, first_states}
use Rattle.afdx_conform.specs.Streams.{Gone, Terms}
use Rattle.afdx_conform.specs.declared.arrived.Arrived.{Arrived}
use Rattle.afdx_conform.specs.declared.bounds.Bounds.{Bounds}
use Rattle.afdx_conform.specs.declared.finding.Mark.{Mark}
use Rattle.afdx_conform.specs.declared.growth.Growth.{Growth}
use Rattle.afdx_conform.specs.declared.leeway.Leeway as code
use Rattle.afdx_conform.specs.declared.levels.Rates.{Rates}
use Rattle.afdx_conform.specs.declared.limits.LeftFrame.{LeftFrame}
use Rattle.afdx_conform.specs.declared.states.StreamState.{StreamState}
use Rattle.afdx_conform.proofs.GrowthLemmas.{true-false}

-- ---- where nothing has changed

module _ (z : Terms) (xs : List Arrival) (ys : List Gone) (cut : ℕ) (over : List Event) (old new : Growth)
    (s : IsSame old new)
  where
    kept-same : (gone : List Marked) (past : List Gone) → IsKept z xs ys cut over gone past old
        → IsKept z xs ys cut over gone past new
    kept-same gone past k = record {
      came = k.came ∙ ap (λ (l : List Arrived). map (λ m. m.arrival) gone ++ map arrival_of l) (sym s.arrivals);
      left = k.left ∙ ap (λ (l : List LeftFrame). past ++ map gone_of l) (sym s.frames);
      judged = subst (λ (l : List Arrived). All (λ a. IsJudged z a) l) (sym s.arrivals) k.judged;
      marks = k.marks ∙ ap (λ (l : List Mark). length gone + length l) (sym s.marks);
      closed = k.closed ∙ ap (λ (n : ℕ). length past + n) (sym s.closed);
      unread = subst (λ (l : List LeftFrame). FitNone z (map gone_of l) gone) (sym s.frames) k.unread;
      last = s.last ∙ k.last;
      found = s.found ∙ k.found;
      arrivals = s.came ∙ k.arrivals;
      frames = s.left ∙ k.frames;
      cut_off = s.cut ∙ k.cut_off;
      started = s.started ∙ k.started;
      certain = λ e. s.uncertain ∙ k.certain e;
    }

    continues-same : (gone : List Marked) → old.is_started ≡ true → Continues z xs ys over gone old
        → Continues z xs ys over gone new
    continues-same gone started c =
        let held = s.held started in
        record {
          j = c.j;
          same = c.same;
          stands = record {
            states = ap (λ (l : List LeftFrame). map (state_of (map gone_of l)) new.judging.held.items) s.frames
                ∙ ap (λ (l : List StreamState). map (state_of (map gone_of old.frames.items)) l) held ∙ c.stands.states;
            within =
                subst (λ (r : Rates). All (λ h. IsWithin r (length new.frames.items) (length new.judging.marks.items) h)
                new.judging.held.items) (ap (λ (b : Bounds). b.rates) (sym s.bounds))
                (subst (λ (n : ℕ). All (λ h. IsWithin old.bounds.rates n (length new.judging.marks.items) h)
                new.judging.held.items)
                (ap (λ (l : List LeftFrame). length l) (sym s.frames))
                (subst (λ (n : ℕ). All (λ h. IsWithin old.bounds.rates (length old.frames.items) n h)
                new.judging.held.items)
                (ap (λ (l : List Mark). length l) (sym s.marks))
                (subst (λ (l : List StreamState). All (λ h. IsWithin old.bounds.rates (length old.frames.items)
                (length old.judging.marks.items) h) l) (sym held) c.stands.within)));
            marks = ap (λ (l : List Arrived). marked_all l new.judging.marks.items) s.arrivals
                ∙ ap (λ (l : List Mark). marked_all old.arrivals.items l) s.marks ∙ c.stands.marks;
            uncertain = s.uncertain ∙ c.stands.uncertain;
            unsure = s.is_unsure ∙ c.stands.unsure;
          };
        }

    held-same : IsHeld z xs ys cut over old → IsHeld z xs ys cut over new
    held-same h = record {
      gone = h.gone;
      past = h.past;
      kept = kept-same h.gone h.past h.kept;
      continues = λ e. continues-same h.gone (sym s.started ∙ e) (h.continues (sym s.started ∙ e));
    }

    pub after-same : IsAfter z xs ys cut over old → IsAfter z xs ys cut over new
    after-same f = record {
      bounds = subst (λ (b : Bounds). AreBounds z b) (sym s.bounds) f.bounds;
      by = f.by ∙ ap (λ (b : code.Leeway). leeway_of b) (sym s.by);
      told = f.told;
      events = f.events;
      unsure = s.is_unsure ∙ f.unsure;
      tag = s.unsure ∙ f.tag;
      sure = λ e. held-same (f.sure (sym s.is_unsure ∙ e));
    }

-- ---- before anything came

nothing-marked : (xs : List Arrived) (ms : List Mark) → ms ≡ [] → marked_all xs ms ≡ []
unfolding marked_all
nothing-marked [] ms e = refl
nothing-marked (x ∷ xs) [] e = refl
nothing-marked (x ∷ xs) (m ∷ ms) e = absurd (cc)

no-length : {X : Type 0} (xs : List X) → length xs ≡ 0 → xs ≡ []
no-length [] e = refl
no-length (x ∷ xs) e = absurd (omega (arith, e))

pub after-none : (z : Terms) (g : Growth) → AreBounds z g.bounds → z.by ≡ leeway_of g.by → g.arrivals.items ≡ []
    → g.frames.items ≡ [] → g.judging.marks.items ≡ [] → g.judging.uncertain ≡ 0 → g.judging.is_unsure ≡ false
    → g.closed ≡ 0
    → g.last ≡ from_time z.by.start → g.is_started ≡ false → g.came ≡ 0 → g.left ≡ 0 → g.cut ≡ 0 → g.found ≡ 0
    → g.unsure ≡ None
    → IsAfter z [] [] 0 [] g
unfolding judged_after sound_events AreEvents GoUp
after-none z g bounds by arrivals frames marks uncertain sure closed last started came left cut found tag = record {
  bounds = bounds;
  by = by;
  told = record { came = tt; left = tt; start = tt; begun = tt };
  events = tt;
  unsure = sure;
  tag = tag;
  sure = λ s. record {
    gone = [];
    past = [];
    kept = record {
      came = ap (λ (l : List Arrived). map arrival_of l) (sym arrivals);
      left = ap (λ (l : List LeftFrame). map gone_of l) (sym frames);
      judged = subst (λ (l : List Arrived). All (λ a. IsJudged z a) l) (sym arrivals)
          (λ i d lt. absurd (omega (arith, lt)));
      marks = (let n = ap (λ (l : List Mark). length l) marks in omega (arith, n));
      closed = omega (arith, closed);
      unread = subst (λ (l : List LeftFrame). FitNone z (map gone_of l) []) (sym frames) tt;
      last = last;
      found = found;
      arrivals = came;
      frames = left;
      cut_off = cut;
      started = started;
      certain = λ e. uncertain;
    };
    continues = λ e. absurd (true-false e started);
  };
}

-- ---- before the first event

pub ready-started : (z : Terms) (xs : List Arrival) (ys : List Gone) (cut : ℕ) (over : List Event) (g : Growth)
    → IsAfter z xs ys cut over g → g.judging.is_unsure ≡ false → g.is_started ≡ true → IsReady z xs ys cut over g
ready-started z xs ys cut over g f sure started =
    let h = f.sure sure in
    record { after = f; gone = h.gone; past = h.past; kept = h.kept; continues = h.continues started }

module _ (z : Terms) (xs : List Arrival) (ys : List Gone) (cut : ℕ) (g : Growth) (held : Vec StreamState) where
  abbrev pub WithHeld : Growth
  WithHeld = record g { judging = record g.judging { held = held } }

  kept-held : (over : List Event) (gone : List Marked) (past : List Gone) → IsKept z xs ys cut over gone past g
      → IsKept z xs ys cut over gone past WithHeld
  kept-held over gone past k = record {
    came = k.came;
    left = k.left;
    judged = k.judged;
    marks = k.marks;
    closed = k.closed;
    unread = k.unread;
    last = k.last;
    found = k.found;
    arrivals = k.arrivals;
    frames = k.frames;
    cut_off = k.cut_off;
    started = k.started;
    certain = k.certain;
  }

  first-continues : (gone : List Marked) (past : List Gone) → IsKept z xs ys cut [] gone past g
      → g.judging.is_unsure ≡ false
      → map (state_of (map gone_of g.frames.items)) held.items ≡ first_states z (first_levels (link z) z.by z.by.start)
      (map gone_of g.frames.items)
      → All (λ h. IsWithin g.bounds.rates (length g.frames.items) 0 h) held.items
      → Continues z xs ys [] gone WithHeld
  unfolding judged_after
  first-continues gone past k sure states within =
      let none = k.marks in
      let closed = k.closed in
      let marks = no-length g.judging.marks.items (omega (arith, none)) in
      let forgotten = no-length gone (omega (arith, none)) in
      let whole = ap (λ (l : List Gone). l ++ map gone_of g.frames.items) (no-length past (omega (arith, closed))) in
      record {
        j = judged_with (first_states z (first_levels (link z) z.by z.by.start) (map gone_of g.frames.items)) [] [] 0
            0 false;
        same = ap (λ (l : List Marked). judged_with (first_states z (first_levels (link z) z.by z.by.start)
            (map gone_of g.frames.items)) (l ++ []) [] 0 0 false) forgotten
            ∙ ap (λ (l : List Gone). judged_with (first_states z (first_levels (link z) z.by z.by.start) l) [] [] 0 0
            false)
            (sym whole ∙ sym k.left);
        stands = record {
          states = states;
          within = subst (λ (n : ℕ). All (λ h. IsWithin g.bounds.rates (length g.frames.items) n h) held.items)
              (omega (arith, none)) within;
          marks = nothing-marked g.arrivals.items g.judging.marks.items marks;
          uncertain = k.certain refl;
          unsure = sure;
        };
      }

  pub ready-first : (over : List Event) (fs : List LeftFrame) → fs ≡ g.frames.items → IsAfter z xs ys cut over g
      → g.judging.is_unsure ≡ false → g.is_started ≡ false
      → map (state_of (map gone_of fs)) held.items ≡ first_states z (first_levels (link z) z.by z.by.start)
      (map gone_of fs)
      → All (λ h. IsWithin g.bounds.rates (length fs) 0 h) held.items
      → IsReady z xs ys cut over WithHeld
  ready-first [] fs e f sure started states within =
      let h = f.sure sure in
      let states' = subst (λ (l : List LeftFrame). map (state_of (map gone_of l)) held.items
      ≡ first_states z (first_levels (link z) z.by z.by.start) (map gone_of l)) e states in
      let within' = subst (λ (l : List LeftFrame). All (λ h. IsWithin g.bounds.rates (length l) 0 h) held.items) e
      within in
      record {
        after = record {
          bounds = f.bounds;
          by = f.by;
          told = f.told;
          events = f.events;
          unsure = f.unsure;
          tag = f.tag;
          sure = λ e. record {
            gone = h.gone;
            past = h.past;
            kept = kept-held [] h.gone h.past h.kept;
            continues = λ s. absurd (true-false s started);
          };
        };
        gone = h.gone;
        past = h.past;
        kept = kept-held [] h.gone h.past h.kept;
        continues = first-continues h.gone h.past h.kept sure states' within';
      }
  ready-first (v ∷ before) fs e f sure started states within =
      absurd (true-false {b = true} refl (sym (f.sure sure).kept.started ∙ started))
