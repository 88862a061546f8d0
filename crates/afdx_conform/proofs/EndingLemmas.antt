-- What is kept of a stream once its recordings end.
use Rattle.std.proofs.Common.{◌≡◌, ℕ, zero, suc, ◌+◌, ◌-◌, ◌<◌, ◌≤◌, Bool, true, false, List, [], ◌∷◌, ◌++◌, ◌⊎◌, inl, inr, map, take, get_or, length, min, max, refl, sym, ap, ◌∙◌, subst, arith}
use Rattle.std.proofs.lemmas.Bool.{ltb-true, ltb-false}
use Rattle.std.proofs.lemmas.List.{map-append, length-append, length-map}
use Rattle.std.proofs.lemmas.List.Elements.{All-contains, All-from_recursion, recursion_from_All}
use Rattle.std.specs.Prelude.{All, Contains, if◌then◌else◌, nat_lt}
use Rattle.std.specs.List.{AllByRecursion}
use Rattle.std.specs.Global.{Vec}
use Rattle.afdx_police.specs.Arrival.{Arrival}
use Rattle.afdx_conform.specs.Ahead.{with_more}
use Rattle.afdx_conform.specs.Events.{GoUp, closings_in, frame_times}
use Rattle.afdx_conform.specs.Explanations.{from_time}
use Rattle.afdx_conform.specs.Findings.{Judged, with_states}
use Rattle.afdx_conform.specs.Forgetting.{FitNone}
use Rattle.afdx_conform.specs.Growing.{AreTold, Continues, IsAfter, IsHeld, IsKept, is_some, most_found}
use Rattle.afdx_conform.specs.HeldStates.{IsWithin, state_of}
use Rattle.afdx_conform.specs.Histories.{AreEvents, AreOver, judged_by, shown, uncut, unsure_in}
use Rattle.afdx_conform.specs.Later.{judged_more}
use Rattle.afdx_conform.specs.Leeway.{reach}
use Rattle.afdx_conform.specs.Limits.{gone_of}
use Rattle.afdx_conform.specs.States.{Event}
use Rattle.afdx_conform.specs.Streams.{Gone, Terms, fits}
use Rattle.afdx_conform.specs.declared.growth.Growth.{Growth}
use Rattle.afdx_conform.specs.declared.limits.LeftFrame.{LeftFrame}
use Rattle.afdx_conform.specs.declared.states.StreamState.{StreamState}
use Rattle.afdx_conform.proofs.CuttingLemmas.{IsCutOff, IsShown, IsCommon, IsSplit, all-same, all-shown, are-late, closed-shown, common, passed-low, split}
use Rattle.afdx_conform.proofs.EveryLemmas.{every-left, every-on, every-right}
use Rattle.afdx_conform.proofs.GrowthFrames.{judged-late, shown-late, states-more}
use Rattle.afdx_conform.proofs.GrowthLemmas.{true-false}
use Rattle.afdx_conform.proofs.HistoryLemmas.{events-cut}
use Rattle.afdx_conform.proofs.MomentLemmas.{up-left}

-- ---- frames at places

record IsAt (fs : List LeftFrame) (k : ℕ) : Type 0 where
  pub frame : LeftFrame
  pub at : frame ≡ get_or fs k frame

some-at : (fs : List LeftFrame) (k : ℕ) → k < length fs → IsAt fs k
some-at [] k lt = absurd (omega (arith, lt))
some-at (f ∷ fs) zero lt = record { frame = f; at = refl }
some-at (f ∷ fs) (suc k) lt = let s = some-at fs k (omega (arith, lt)) in record { frame = s.frame; at = s.at }

at-first : (P : Gone → Type 0) (fs : List LeftFrame) (here off : List Gone) (k : ℕ) (d : LeftFrame)
    → map gone_of fs ≡ here ++ off
    → k < length here → AllByRecursion P here → P (gone_of (get_or fs k d))
at-first P fs [] off k d e lt h = absurd (omega (arith, lt))
at-first P [] (y ∷ here) off k d e lt h = absurd (cc)
at-first P (f ∷ fs) (y ∷ here) off zero d e lt h = subst (λ (v : Gone). P v) (sym (heads e)) h.0
  where
    heads : gone_of f ∷ map gone_of fs ≡ y ∷ (here ++ off) → gone_of f ≡ y
    heads k = cc
at-first P (f ∷ fs) (y ∷ here) off (suc k) d e lt h = at-first P fs here off k d (tails e) (omega (arith, lt)) h.1
  where
    tails : gone_of f ∷ map gone_of fs ≡ y ∷ (here ++ off) → map gone_of fs ≡ here ++ off
    tails k = cc

at-next : (P : Gone → Type 0) (fs : List LeftFrame) (here off : List Gone) (d : LeftFrame) → map gone_of fs ≡
    here ++ off
    → 0 < length off → AllByRecursion P off → P (gone_of (get_or fs (length here) d))
at-next P fs [] [] d e lt h = absurd (omega (arith, lt))
at-next P [] [] (y ∷ off) d e lt h = absurd (cc)
at-next P (f ∷ fs) [] (y ∷ off) d e lt h = subst (λ (v : Gone). P v) (sym (heads e)) h.0
  where
    heads : gone_of f ∷ map gone_of fs ≡ y ∷ off → gone_of f ≡ y
    heads k = cc
at-next P [] (y ∷ here) off d e lt h = absurd (cc)
at-next P (f ∷ fs) (y ∷ here) off d e lt h = at-next P fs here off d (tails e) lt h
  where
    tails : gone_of f ∷ map gone_of fs ≡ y ∷ (here ++ off) → map gone_of fs ≡ here ++ off
    tails k = cc

-- the first of them are these
first-are : (fs : List LeftFrame) (here off : List Gone) → map gone_of fs ≡ here ++ off
    → map gone_of (take (length here) fs) ≡ here
first-are fs [] off e = refl
first-are [] (y ∷ here) off e = absurd (cc)
first-are (f ∷ fs) (y ∷ here) off e =
    ap (λ (v : Gone). v ∷ map gone_of (take (length here) fs)) (heads e)
    ∙ ap (λ (l : List Gone). y ∷ l) (first-are fs here off (tails e))
  where
    heads : gone_of f ∷ map gone_of fs ≡ y ∷ (here ++ off) → gone_of f ≡ y
    heads k = cc

    tails : gone_of f ∷ map gone_of fs ≡ y ∷ (here ++ off) → map gone_of fs ≡ here ++ off
    tails k = cc

-- as many are kept as aren't cut off, however many were looked at
kept-is : (z : Terms) (fs : List LeftFrame) (here off : List Gone) (apart from kept : ℕ) → apart ≡ reach z.by
    → map gone_of fs ≡ here ++ off → AllByRecursion (IsShown z) here → AllByRecursion (IsCutOff z) off
    → from ≤ length here
    → ((k : ℕ) (f : LeftFrame) → from ≤ k → k < kept → f ≡ get_or fs k f → f.time + apart ≤ z.until)
    → ((f : LeftFrame) → kept < length fs → f ≡ get_or fs kept f → z.until < f.time + apart)
    → kept ≤ length fs → kept ≡ length here
kept-is z fs here off apart from kept same e inside outside low shown cut high =
    by (nat_lt kept (length here)) refl (nat_lt (length here) kept) refl
  where
    size : length fs ≡ length here + length off
    size = sym (length-map fs gone_of) ∙ ap (λ (l : List Gone). length l) e ∙ length-append here off

    not-less : kept < length here → ⊥
    not-less lt =
        let some = some-at fs kept (omega (arith, lt, size)) in
        let one = cut some.frame (omega (arith, lt, size)) some.at in
        let two = subst (λ (f : LeftFrame). f.time + reach z.by ≤ z.until) (sym some.at)
        (at-first (IsShown z) fs here off kept some.frame e lt inside) in
        omega (arith, one, two, same)

    not-more : length here < kept → ⊥
    not-more lt =
        let some = some-at fs (length here) (omega (arith, lt, high)) in
        let one = shown (length here) some.frame low lt some.at in
        let two = subst (λ (f : LeftFrame). z.until < f.time + reach z.by) (sym some.at)
        (at-next (IsCutOff z) fs here off some.frame e (omega (arith, lt, high, size)) outside) in
        omega (arith, one, two, same)

    by : (b : Bool) → nat_lt kept (length here) ≡ b → (c : Bool) → nat_lt (length here) kept ≡ c → kept ≡ length here
    by true h c k = absurd (not-less (ltb-true kept (length here) h))
    by false h true k = absurd (not-more (ltb-true (length here) kept k))
    by false h false k =
        let one = ltb-false kept (length here) h in
        let two = ltb-false (length here) kept k in
        omega (arith, one, two)

-- once it has ended
abbrev pub ended : Growth → Vec LeftFrame → Vec StreamState → ℕ → Growth
ended old frames' held' count = record old {
  frames = frames';
  judging = record old.judging { held = held' };
  left = old.left - count;
  cut = old.cut + count;
}

module _ (z : Terms) (xs : List Arrival) (us off : List Gone) (time : ℕ) (over : List Event) (old : Growth)
    (le : time ≤ z.until) (o : AreOver z time over) (inside : AllByRecursion (IsShown z) us)
    (outside : AllByRecursion (IsCutOff z) off) (f : IsAfter z xs (us ++ off) 0 over old) where
  closed-low : length (closings_in over) ≤ length us
  closed-low = closed-shown z xs us off time over f.events o le outside

  told' : AreTold z xs us
  told' = record {
    came = f.told.came;
    left = up-left (frame_times us) (frame_times off)
        (subst (λ (l : List ℕ). GoUp l) (map-append (λ (y : Gone). y.time) us off) f.told.left);
    start = f.told.start;
    begun = every-left (λ y. from_time z.by.start ≤ y.time + reach z.by) us off f.told.begun;
  }

  events' : AreEvents z xs us over
  events' = events-cut z xs us off over closed-low f.events

  same-shown : shown (judged_by z xs (us ++ off) over) ≡ shown (judged_by z xs us over)
  same-shown = shown-late z xs us off time over told' events' le (are-late z time off le outside) o

  pub ended-unsure : (cut : ℕ) → old.judging.is_unsure ≡ true → IsAfter z xs us cut over old
  ended-unsure cut un = record {
    bounds = f.bounds;
    by = f.by;
    told = told';
    events = events';
    unsure = f.unsure ∙ ap (λ (k : Judged). k.is_unsure) same-shown;
    tag = f.tag ∙ ap (λ (k : Judged). unsure_in k) same-shown;
    sure = λ s. absurd (true-false un s);
  }

  same-judged : is_some over ≡ true → judged_by z xs (us ++ off) over ≡ judged_more off (judged_by z xs us over)
  same-judged some = by over some told' events' o
    where
      by : (l : List Event) → is_some l ≡ true → AreTold z xs us → AreEvents z xs us l → AreOver z time l
          → judged_by z xs (us ++ off) l ≡ judged_more off (judged_by z xs us l)
      by [] s told ev ov = absurd (cc)
      by (v ∷ before) s told ev ov = judged-late z xs us off time v before told ev le (are-late z time off le outside)
          ov

  module _ (frames' : Vec LeftFrame) (held' : Vec StreamState) (front kept count cut : ℕ)
      (h : IsHeld z xs (us ++ off) 0 over old)
      (states : held'.items ≡ (if old.is_started then old.judging.held.items else []))
      (items : frames'.items ≡ take kept old.frames.items)
      (among : ((held'.items ≡ []) × (front ≡ 0)) ⊎ ((s : StreamState) × Contains held'.items s × (s.passed ≡ front)))
      (shows : (k : ℕ) (g : LeftFrame) → max front old.closed ≤ k → k < kept → g ≡ get_or old.frames.items k g
      → g.time + old.bounds.limits.reach ≤ z.until)
      (cuts : (g : LeftFrame) → kept < length old.frames.items → g ≡ get_or old.frames.items kept g
      → z.until < g.time + old.bounds.limits.reach)
      (high : kept ≤ length old.frames.items) (counted : count ≡ length old.frames.items - kept)
      (all : cut ≡ length off) where
    past-low : length h.past ≤ length us
    past-low = let c = h.kept.closed in let l = closed-low in omega (arith, c, l)

    c : IsCommon z h.past (map gone_of old.frames.items) us off
    c = common z h.past (map gone_of old.frames.items) us off (sym h.kept.left) past-low

    us-size : length us ≡ length h.past + length c.here
    us-size = ap (λ (l : List Gone). length l) c.first ∙ length-append h.past c.here

    fs-size : length old.frames.items ≡ length c.here + length off
    fs-size = sym (length-map old.frames.items gone_of) ∙ ap (λ (l : List Gone). length l) c.behind
        ∙ length-append c.here off

    here-shown : AllByRecursion (IsShown z) c.here
    here-shown = every-right (IsShown z) h.past c.here (subst (λ (l : List Gone). AllByRecursion (IsShown z) l)
        c.first inside)

    states-are : old.is_started ≡ true → map (state_of (map gone_of old.frames.items)) old.judging.held.items
        ≡ map (with_more off) (judged_by z xs us over).states
    states-are s =
        let k = h.continues s in
        k.stands.states ∙ ap (λ (j : Judged). j.states) k.same
        ∙ ap (λ (j : Judged). j.states) (same-judged (sym h.kept.started ∙ s))

    low-passed : old.is_started ≡ true → AllByRecursion (λ s. s.passed ≤ length c.here) old.judging.held.items
    low-passed s =
        let k = h.continues s in
        let size = length-map old.frames.items gone_of in
        passed-low z (map gone_of old.frames.items) c.here off old.judging.held.items (judged_by z xs us over).states
        c.behind
        (every-on (λ v. IsWithin old.bounds.rates (length old.frames.items) (length old.judging.marks.items) v)
        (λ v. v.passed ≤ length (map gone_of old.frames.items)) (λ v w. (let p = w.passed in omega (arith, p, size)))
        old.judging.held.items
        (recursion_from_All (λ v. IsWithin old.bounds.rates (length old.frames.items) (length old.judging.marks.items)
        v)
        old.judging.held.items k.stands.within))
        (states-are s)

    low-held : AllByRecursion (λ s. s.passed ≤ length c.here) held'.items
    low-held = subst (λ (l : List StreamState). AllByRecursion (λ s. s.passed ≤ length c.here) l) (sym states)
        (by old.is_started refl)
      where
        by : (b : Bool) → old.is_started ≡ b
            → AllByRecursion (λ s. s.passed ≤ length c.here) (if b then old.judging.held.items else [])
        by true e = low-passed e
        by false e = tt

    front-low : front ≤ length c.here
    front-low = by among
      where
        by : ((held'.items ≡ []) × (front ≡ 0)) ⊎ ((s : StreamState) × Contains held'.items s × (s.passed ≡ front))
            → front ≤ length c.here
        by (inl e) = let none = e.1 in omega (arith, none)
        by (inr e) =
            let is = e.2 in
            let one = All-contains (λ s. s.passed ≤ length c.here) held'.items e.0
            (All-from_recursion (λ s. s.passed ≤ length c.here) held'.items low-held) e.1 in
            omega (arith, is, one)

    kept-here : kept ≡ length c.here
    kept-here = kept-is z old.frames.items c.here off old.bounds.limits.reach (max front old.closed) kept
        f.bounds.limits.reach
        c.behind here-shown outside
        (let n = h.kept.closed in let l = closed-low in let u = us-size in let p = front-low in
        omega (arith, n, l, u, p))
        shows cuts high

    frames-are : map gone_of frames'.items ≡ c.here
    frames-are = ap (λ (l : List LeftFrame). map gone_of l) (items ∙ ap (λ (n : ℕ). take n old.frames.items) kept-here)
        ∙ first-are old.frames.items c.here off c.behind

    frames-size : length frames'.items ≡ length c.here
    frames-size = sym (length-map frames'.items gone_of) ∙ ap (λ (l : List Gone). length l) frames-are

    kept-ended : IsKept z xs us cut over h.gone h.past (ended old frames' held' count)
    kept-ended = record {
      came = h.kept.came;
      left = c.first ∙ ap (λ (l : List Gone). h.past ++ l) (sym frames-are);
      judged = h.kept.judged;
      marks = h.kept.marks;
      closed = h.kept.closed;
      unread = subst (λ (l : List Gone). FitNone z l h.gone) (sym frames-are)
          (every-left (λ y. AllByRecursion (λ m. fits z m.arrival y ≡ false) h.gone) c.here off
          (subst (λ (l : List Gone). FitNone z l h.gone) c.behind h.kept.unread));
      last = h.kept.last;
      found = h.kept.found ∙ ap (λ (j : Judged). min j.frames most_found) same-shown;
      frames =
          (let n = h.kept.frames in
          let l = length-append us off in
          let k = kept-here in
          let s = fs-size in
          omega (arith, n, l, k, s, counted));
      arrivals = h.kept.arrivals;
      cut_off = (let n = h.kept.cut_off in let k = kept-here in let s = fs-size in
          omega (arith, n, k, s, counted, all));
      started = h.kept.started;
      certain = h.kept.certain;
    }

    continues-ended : old.is_started ≡ true → Continues z xs us over h.gone (ended old frames' held' count)
    continues-ended s =
        let k = h.continues s in
        let j = judged_by z xs us over in
        let more = same-judged (sym h.kept.started ∙ s) in
        let held-is : held'.items ≡ old.judging.held.items =
        states ∙ ap (λ (b : Bool). if b then old.judging.held.items else []) s in
        record {
          j = with_states j.states k.j;
          same = ap (λ (u : Judged). with_states j.states u) (k.same ∙ more);
          stands = record {
            states = ap (λ (l : List Gone). map (state_of l) held'.items) frames-are
                ∙ ap (λ (l : List StreamState). map (state_of c.here) l) held-is
                ∙ all-same z off (map (state_of c.here) old.judging.held.items) j.states
                (sym (states-more c.here off old.judging.held.items (length c.here)
                (All-from_recursion (λ v. v.passed ≤ length c.here) old.judging.held.items (low-passed s))
                (omega arith))
                ∙ ap (λ (l : List Gone). map (state_of l) old.judging.held.items) (sym c.behind)
                ∙ states-are s);
            within = subst (λ (l : List StreamState). All (λ v. IsWithin old.bounds.rates (length frames'.items)
                (length old.judging.marks.items) v) l) (sym held-is)
                (λ i d lt.
                let v = k.stands.within i d lt in
                record {
                  passed =
                      (let p = All-from_recursion (λ v. v.passed ≤ length c.here) old.judging.held.items
                      (low-passed s) i d lt in
                      let n = frames-size in
                      omega (arith, p, n));
                  waiting = v.waiting;
                  levels = v.levels;
                  near = v.near;
                });
            marks = k.stands.marks;
            uncertain = k.stands.uncertain;
            unsure = k.stands.unsure;
          };
        }

    pub ended-held : IsHeld z xs us cut over (ended old frames' held' count)
    ended-held = record {
      gone = h.gone;
      past = h.past;
      kept = kept-ended;
      continues = λ s. continues-ended s;
    }

-- ---- all of it

module _ (z : Terms) (xs : List Arrival) (ys : List Gone) (time : ℕ) (over : List Event) (old : Growth)
    (le : time ≤ z.until) (o : AreOver z time over) (f : IsAfter z xs ys 0 over old) where
  abbrev Split : IsSplit z ys
  Split = split z ys f.told.left

  f' : IsAfter z xs (uncut z ys ++ Split.off) 0 over old
  f' = subst (λ (l : List Gone). IsAfter z xs l 0 over old) Split.same f

  pub end-unsure : old.judging.is_unsure ≡ true → IsAfter z xs (uncut z ys) (length ys - length (uncut z ys)) over old
  end-unsure un = ended-unsure z xs (uncut z ys) Split.off time over old le o (all-shown z ys) Split.are_off f'
      (length ys - length (uncut z ys)) un

  pub after-end : (frames' : Vec LeftFrame) (held' : Vec StreamState) (front kept count : ℕ)
      → held'.items ≡ (if old.is_started then old.judging.held.items else [])
      → frames'.items ≡ take kept old.frames.items
      → ((held'.items ≡ []) × (front ≡ 0)) ⊎ ((s : StreamState) × Contains held'.items s × (s.passed ≡ front))
      → ((k : ℕ) (g : LeftFrame) → max front old.closed ≤ k → k < kept → g ≡ get_or old.frames.items k g
      → g.time + old.bounds.limits.reach ≤ z.until)
      → ((g : LeftFrame) → kept < length old.frames.items → g ≡ get_or old.frames.items kept g
      → z.until < g.time + old.bounds.limits.reach)
      → kept ≤ length old.frames.items → count ≡ length old.frames.items - kept
      → IsAfter z xs (uncut z ys) (length ys - length (uncut z ys)) over (ended old frames' held' count)
  after-end frames' held' front kept count states items among shows cuts high counted =
      let un = end-with f' in
      record {
        bounds = f.bounds;
        by = f.by;
        told = told' z xs (uncut z ys) Split.off time over old le o (all-shown z ys) Split.are_off f';
        events = events' z xs (uncut z ys) Split.off time over old le o (all-shown z ys) Split.are_off f';
        unsure = un.0;
        tag = un.1;
        sure = λ s. ended-held z xs (uncut z ys) Split.off time over old le o (all-shown z ys) Split.are_off f'
            frames' held'
            front kept count (length ys - length (uncut z ys)) (f'.sure s) states items among shows cuts high counted
            sizes;
      }
    where
      sizes : length ys - length (uncut z ys) ≡ length Split.off
      sizes =
          let e = ap (λ (l : List Gone). length l) Split.same ∙ length-append (uncut z ys) Split.off in
          omega (arith, e)

      end-with : IsAfter z xs (uncut z ys ++ Split.off) 0 over old
          → (old.judging.is_unsure ≡ (judged_by z xs (uncut z ys) over).is_unsure)
          × (old.unsure ≡ unsure_in (judged_by z xs (uncut z ys) over))
      end-with g =
          let same = same-shown z xs (uncut z ys) Split.off time over old le o (all-shown z ys) Split.are_off f' in
          (g.unsure ∙ ap (λ (k : Judged). k.is_unsure) same, g.tag ∙ ap (λ (k : Judged). unsure_in k) same)
