-- What is let go of, of what is kept of a stream.
use Rattle.std.proofs.Common.{◌≡◌, ℕ, zero, suc, ◌+◌, ◌-◌, ◌<◌, ◌≤◌, false, List, [], ◌∷◌, ◌++◌, map, take, drop, get_or, length, refl, sym, ap, ◌∙◌, subst, arith}
use Rattle.std.proofs.lemmas.List.{append_assoc, map-append, length-append, length-map, length-drop, length-take-le, drop-drop, take-append-drop}
use Rattle.std.proofs.lemmas.Simd.{map-map}
use Rattle.std.proofs.lemmas.List.Elements.{All-from_recursion, recursion_from_All}
use Rattle.std.specs.Prelude.{All, None, if◌then◌else◌}
use Rattle.std.specs.List.{AllByRecursion}
use Rattle.std.specs.Global.{Vec}
use Rattle.afdx_police.specs.Arrival.{Arrival}
use Rattle.afdx_conform.specs.Bounds.{AreBounds}
use Rattle.afdx_conform.specs.Events.{GoUp}
use Rattle.afdx_conform.specs.Findings.{Marked, judged_with}
use Rattle.afdx_conform.specs.Forgetting.{FitNone}
use Rattle.afdx_conform.specs.Growing.{AreTold, Continues, IsAfter, IsHeld, IsKept, IsSound, due_by, due_in}
use Rattle.afdx_conform.specs.HeldStates.{IsWithin, past, state_of}
use Rattle.afdx_conform.specs.Limits.{gone_of}
use Rattle.afdx_conform.specs.Marks.{IsJudged, arrival_of, marked_all, marked_of}
use Rattle.afdx_conform.specs.States.{Event, State, state_with}
use Rattle.afdx_conform.specs.Streams.{Gone, Terms, fits}
use Rattle.afdx_conform.specs.declared.arrived.Arrived.{Arrived}
use Rattle.afdx_conform.specs.declared.finding.Mark.{Mark}
use Rattle.afdx_conform.specs.declared.growth.Growth.{Growth}
use Rattle.afdx_conform.specs.declared.levels.Rates.{Rates}
use Rattle.afdx_conform.specs.declared.limits.LeftFrame.{LeftFrame}
use Rattle.afdx_conform.specs.declared.states.StreamState.{StreamState}
use Rattle.afdx_conform.proofs.AheadLemmas.{too-late}
use Rattle.afdx_conform.proofs.EveryLemmas.{every-append, every-on, every-right, every-unmap}

-- ---- frames

pub map-drop : {X Y : Type 0} (f : X → Y) (n : ℕ) (xs : List X) → map f (drop n xs) ≡ drop n (map f xs)
map-drop f zero xs = refl
map-drop f (suc n) [] = refl
map-drop f (suc n) (x ∷ xs) = map-drop f n xs

map-split : {X Y : Type 0} (f : X → Y) (n : ℕ) (xs : List X) → map f xs ≡ map f (take n xs) ++ map f (drop n xs)
map-split f n xs = sym (ap (λ l. map f l) (take-append-drop n xs)) ∙ map-append f (take n xs) (drop n xs)

-- a state of the frames behind the first of them
state-behind : (count : ℕ) (ys : List Gone) (h : StreamState) → count ≤ h.passed
    → state_of (drop count ys) (past (h.passed - count) h) ≡ state_of ys h
state-behind count ys h le =
    let same : count + (h.passed - count) ≡ h.passed = omega (arith, le) in
    ap (λ (l : List Gone). state_with l h.levels h.waiting)
    (drop-drop (h.passed - count) count ys ∙ ap (λ (n : ℕ). drop n ys) same)

states-behind : (count : ℕ) (ys : List Gone) (held : List StreamState) → AllByRecursion (λ h. count ≤ h.passed) held
    → map (state_of (drop count ys)) (map (λ h. past (h.passed - count) h) held) ≡ map (state_of ys) held
states-behind count ys [] le = refl
states-behind count ys (h ∷ held) le =
    ap (λ (s : State). s ∷ map (state_of (drop count ys)) (map (λ k. past (k.passed - count) k) held))
    (state-behind count ys h le.0)
    ∙ ap (λ (l : List State). state_of ys h ∷ l) (states-behind count ys held le.1)

within-behind : (rates : Rates) (frames n count : ℕ) (held : List StreamState)
    → AllByRecursion (λ h. IsWithin rates frames n h) held
    → AllByRecursion (λ h. IsWithin rates (frames - count) n h) (map (λ h. past (h.passed - count) h) held)
within-behind rates frames n count [] w = tt
within-behind rates frames n count (h ∷ held) w = (
  record {
    passed = (let p = w.0.passed in omega (arith, p));
    waiting = w.0.waiting;
    levels = w.0.levels;
    near = w.0.near;
  },
  within-behind rates frames n count held w.1,
)

pub within-frames : (rates : Rates) (fs fs' : List LeftFrame) (n count : ℕ) (held held' : List StreamState) → fs' ≡
    drop count fs
    → held' ≡ map (λ h. past (h.passed - count) h) held → All (λ h. IsWithin rates (length fs) n h) held
    → All (λ h. IsWithin rates (length fs') n h) held'
within-frames rates fs fs' n count held held' e k w =
    let size : length fs - count ≡ length fs' = sym (length-drop count fs) ∙
    ap (λ (l : List LeftFrame). length l) (sym e)
    in
    subst (λ (l : List StreamState). All (λ h. IsWithin rates (length fs') n h) l) (sym k)
    (subst (λ (m : ℕ). All (λ h. IsWithin rates m n h) (map (λ h. past (h.passed - count) h) held)) size
    (All-from_recursion (λ h. IsWithin rates (length fs - count) n h) (map (λ h. past (h.passed - count) h) held)
    (within-behind rates (length fs) n count held
    (recursion_from_All (λ h. IsWithin rates (length fs) n h) held w))))

-- the first frames are let go of
abbrev pub without_frames : Growth → ℕ → Vec LeftFrame → Vec StreamState → Growth
without_frames old count frames' held' = record old {
  frames = frames';
  judging = record old.judging { held = held' };
  closed = old.closed - count;
}

module _ (z : Terms) (xs : List Arrival) (ys : List Gone) (cut : ℕ) (over : List Event) (old : Growth) (count : ℕ)
    (frames' : Vec LeftFrame) (held' : Vec StreamState) where
  abbrev New : Growth
  New = without_frames old count frames' held'

  module _ (items : frames'.items ≡ drop count old.frames.items)
      (states : held'.items ≡ map (λ h. past (h.passed - count) h) old.judging.held.items)
      (passed : All (λ h. count ≤ h.passed) old.judging.held.items) (closed : count ≤ old.closed)
      (enough : count ≤ length old.frames.items) where
    kept-frames : (gone : List Marked) (before : List Gone) → IsKept z xs ys cut over gone before old
        → IsKept z xs ys cut over gone (before ++ map gone_of (take count old.frames.items)) New
    kept-frames gone before k = record {
      came = k.came;
      left = k.left
          ∙ ap (λ (l : List Gone). before ++ l) (map-split gone_of count old.frames.items)
          ∙ sym (append_assoc before (map gone_of (take count old.frames.items))
          (map gone_of (drop count old.frames.items)))
          ∙ ap (λ (l : List LeftFrame). (before ++ map gone_of (take count old.frames.items)) ++ map gone_of l)
          (sym items);
      judged = k.judged;
      marks = k.marks;
      closed =
          (let size = length-append before (map gone_of (take count old.frames.items)) in
          let mapped = length-map (take count old.frames.items) gone_of in
          let taken = length-take-le count old.frames.items enough in
          let c = k.closed in
          omega (arith, size, mapped, taken, c, closed));
      unread = subst (λ (l : List LeftFrame). FitNone z (map gone_of l) gone) (sym items)
          (every-right (λ y. AllByRecursion (λ m. fits z m.arrival y ≡ false) gone)
          (map gone_of (take count old.frames.items))
          (map gone_of (drop count old.frames.items))
          (subst (λ (l : List Gone). FitNone z l gone) (map-split gone_of count old.frames.items) k.unread));
      last = k.last;
      found = k.found;
      arrivals = k.arrivals;
      frames = k.frames;
      cut_off = k.cut_off;
      started = k.started;
      certain = k.certain;
    }

    continues-frames : (gone : List Marked) → Continues z xs ys over gone old → Continues z xs ys over gone New
    continues-frames gone c = record {
      j = c.j;
      same = c.same;
      stands = record {
        states = ap (λ (l : List LeftFrame). map (state_of (map gone_of l)) held'.items) items
            ∙ ap (λ (l : List Gone). map (state_of l) held'.items) (map-drop gone_of count old.frames.items)
            ∙ ap (λ (l : List StreamState). map (state_of (drop count (map gone_of old.frames.items))) l) states
            ∙ states-behind count (map gone_of old.frames.items) old.judging.held.items
            (recursion_from_All (λ h. count ≤ h.passed) old.judging.held.items passed)
            ∙ c.stands.states;
        within = within-frames old.bounds.rates old.frames.items frames'.items (length old.judging.marks.items) count
            old.judging.held.items held'.items items states c.stands.within;
        marks = c.stands.marks;
        uncertain = c.stands.uncertain;
        unsure = c.stands.unsure;
      };
    }

    held-frames : IsHeld z xs ys cut over old → IsHeld z xs ys cut over New
    held-frames h = record {
      gone = h.gone;
      past = h.past ++ map gone_of (take count old.frames.items);
      kept = kept-frames h.gone h.past h.kept;
      continues = λ s. continues-frames h.gone (h.continues s);
    }

    pub after-frames : IsAfter z xs ys cut over old → IsAfter z xs ys cut over New
    after-frames f = record {
      bounds = f.bounds;
      by = f.by;
      told = f.told;
      events = f.events;
      unsure = f.unsure;
      tag = f.tag;
      sure = λ s. held-frames (f.sure s);
    }

pub due-frames : (old : Growth) (count : ℕ) (frames' : Vec LeftFrame) (held' : Vec StreamState)
    → frames'.items ≡ drop count old.frames.items
    → count ≤ old.closed → due_by (without_frames old count frames' held') ≡ due_by old
unfolding due_by
due-frames old count frames' held' items closed =
    let same : count + (old.closed - count) ≡ old.closed = omega (arith, closed) in
    ap (λ (l : List LeftFrame). if old.judging.is_unsure then None
    else due_in old.bounds.limits (drop (length old.judging.marks.items) old.arrivals.items) l)
    (ap (λ (l : List LeftFrame). drop (old.closed - count) l) items
    ∙ drop-drop (old.closed - count) count old.frames.items ∙ ap (λ (n : ℕ). drop n old.frames.items) same)

pub sound-frames : (old : Growth) (count : ℕ) (frames' : Vec LeftFrame) (held' : Vec StreamState)
    → frames'.items ≡ drop count old.frames.items
    → held'.items ≡ map (λ h. past (h.passed - count) h) old.judging.held.items → count ≤ old.closed → IsSound old
    → IsSound (without_frames old count frames' held')
sound-frames old count frames' held' items states closed s =
    let size : length frames'.items ≡ length old.frames.items - count =
    ap (λ (l : List LeftFrame). length l) items ∙ length-drop count old.frames.items in
    let c = s.closed in
    let f = s.frames in
    record {
      rates = s.rates;
      within = within-frames old.bounds.rates old.frames.items frames'.items (length old.judging.marks.items) count
          old.judging.held.items held'.items items states s.within;
      closed = omega (arith, size, c, closed);
      places = s.places;
      uncertain = s.uncertain;
      arrivals = s.arrivals;
      came = s.came;
      frames = omega (arith, size, f);
      left = s.left;
      known = s.known;
      settled = s.settled;
    }

-- ---- arrivals

marked-split : (n : ℕ) (come : List Arrived) (ms : List Mark) → n ≤ length ms → length ms ≤ length come
    → marked_all come ms ≡ marked_all (take n come) (take n ms) ++ marked_all (drop n come) (drop n ms)
unfolding marked_all
marked-split zero come ms le more = refl
marked-split (suc n) come [] le more = absurd (omega (arith, le))
marked-split (suc n) [] (m ∷ ms) le more = absurd (omega (arith, more))
marked-split (suc n) (a ∷ come) (m ∷ ms) le more =
    ap (λ (l : List Marked). marked_of a m ∷ l) (marked-split n come ms (omega (arith, le)) (omega (arith, more)))

marked-arrivals : (n : ℕ) (come : List Arrived) (ms : List Mark) → n ≤ length ms → length ms ≤ length come
    → map (λ m. m.arrival) (marked_all (take n come) (take n ms)) ≡ map arrival_of (take n come)
unfolding marked_all
marked-arrivals zero come ms le more = refl
marked-arrivals (suc n) come [] le more = absurd (omega (arith, le))
marked-arrivals (suc n) [] (m ∷ ms) le more = absurd (omega (arith, more))
marked-arrivals (suc n) (a ∷ come) (m ∷ ms) le more =
    ap (λ (l : List Arrival). arrival_of a ∷ l) (marked-arrivals n come ms (omega (arith, le)) (omega (arith, more)))

marked-length : (n : ℕ) (come : List Arrived) (ms : List Mark) → n ≤ length ms → length ms ≤ length come
    → length (marked_all (take n come) (take n ms)) ≡ n
marked-length n come ms le more =
    let one = length-map (marked_all (take n come) (take n ms)) (λ (m : Marked). m.arrival) in
    let two = ap (λ (l : List Arrival). length l) (marked-arrivals n come ms le more) in
    let three = length-map (take n come) arrival_of in
    let four = length-take-le n come (omega (arith, le, more)) in
    omega (arith, one, two, three, four)

every-marked : (P : Arrival → Type 0) (n : ℕ) (come : List Arrived) (ms : List Mark)
    → AllByRecursion (λ a. P (arrival_of a)) (take n come)
    → AllByRecursion (λ m. P m.arrival) (marked_all (take n come) (take n ms))
unfolding marked_all
every-marked P zero come ms h = tt
every-marked P (suc n) [] ms h = tt
every-marked P (suc n) (a ∷ come) [] h = tt
every-marked P (suc n) (a ∷ come) (m ∷ ms) h = (h.0, every-marked P n come ms h.1)

-- none of them waits
within-none : (rates : Rates) (frames n m : ℕ) (held : List StreamState) → AllByRecursion (λ h. h.waiting ≡ 0) held
    → AllByRecursion (λ h. IsWithin rates frames n h) held → AllByRecursion (λ h. IsWithin rates frames m h) held
within-none rates frames n m [] none w = tt
within-none rates frames n m (h ∷ held) none w = (
  record {
    passed = w.0.passed;
    waiting = (let k = none.0 in omega (arith, k));
    levels = w.0.levels;
    near = w.0.near;
  },
  within-none rates frames n m held none.1 w.1,
)

-- the first arrivals, and their marks, are let go of
abbrev pub without_arrivals : Growth → Vec Arrived → Vec Mark → Growth
without_arrivals old arrivals' marks' = record old {
  arrivals = arrivals';
  judging = record old.judging { marks = marks' };
}

module _ (z : Terms) (xs : List Arrival) (ys : List Gone) (cut : ℕ) (over : List Event) (old : Growth) (count : ℕ)
    (arrivals' : Vec Arrived) (marks' : Vec Mark) (items : arrivals'.items ≡ drop count old.arrivals.items)
    (marked : marks'.items ≡ drop count old.judging.marks.items) (less : count ≤ length old.judging.marks.items)
    (places : length old.judging.marks.items ≤ length old.arrivals.items)
    (none : All (λ h. h.waiting ≡ 0) old.judging.held.items)
    (late : IsHeld z xs ys cut over old → FitNone z (map gone_of old.frames.items)
    (marked_all (take count old.arrivals.items) (take count old.judging.marks.items))) where
  abbrev Less : Growth
  Less = without_arrivals old arrivals' marks'

  abbrev More : List Marked
  More = marked_all (take count old.arrivals.items) (take count old.judging.marks.items)

  every-both : (gone more : List Marked) (fs : List Gone) → FitNone z fs gone → FitNone z fs more
      → FitNone z fs (gone ++ more)
  every-both gone more [] g m = tt
  every-both gone more (y ∷ fs) g m =
      (every-append (λ m. fits z m.arrival y ≡ false) gone more g.0 m.0, every-both gone more fs g.1 m.1)

  kept-arrivals : (gone : List Marked) (before : List Gone) → FitNone z (map gone_of old.frames.items) More
      → IsKept z xs ys cut over gone before old → IsKept z xs ys cut over (gone ++ More) before Less
  kept-arrivals gone before fit k = record {
    came = k.came
        ∙ ap (λ (l : List Arrival). map (λ m. m.arrival) gone ++ l) (map-split arrival_of count old.arrivals.items)
        ∙ sym (append_assoc (map (λ m. m.arrival) gone) (map arrival_of (take count old.arrivals.items))
        (map arrival_of (drop count old.arrivals.items)))
        ∙ ap (λ (l : List Arrival). (map (λ m. m.arrival) gone ++ l) ++ map arrival_of (drop count old.arrivals.items))
        (sym (marked-arrivals count old.arrivals.items old.judging.marks.items less places))
        ∙ ap (λ (l : List Arrival). l ++ map arrival_of (drop count old.arrivals.items))
        (sym (map-append (λ (m : Marked). m.arrival) gone More))
        ∙ ap (λ (l : List Arrived). map (λ m. m.arrival) (gone ++ More) ++ map arrival_of l) (sym items);
    left = k.left;
    judged = subst (λ (l : List Arrived). All (λ a. IsJudged z a) l) (sym items)
        (All-from_recursion (λ a. IsJudged z a) (drop count old.arrivals.items)
        (every-right (λ a. IsJudged z a) (take count old.arrivals.items) (drop count old.arrivals.items)
        (subst (λ (l : List Arrived). AllByRecursion (λ a. IsJudged z a) l)
        (sym (take-append-drop count old.arrivals.items))
        (recursion_from_All (λ a. IsJudged z a) old.arrivals.items k.judged))));
    marks =
        (let m = k.marks in
        let both = length-append gone More in
        let size = marked-length count old.arrivals.items old.judging.marks.items less places in
        let left = length-drop count old.judging.marks.items in
        let is = ap (λ (l : List Mark). length l) marked in
        omega (arith, m, both, size, left, is, less));
    closed = k.closed;
    unread = every-both gone More (map gone_of old.frames.items) k.unread fit;
    last = k.last;
    found = k.found;
    arrivals = k.arrivals;
    frames = k.frames;
    cut_off = k.cut_off;
    started = k.started;
    certain = k.certain;
  }

  continues-arrivals : (gone : List Marked) → Continues z xs ys over gone old
      → Continues z xs ys over (gone ++ More) Less
  continues-arrivals gone c =
      let split = marked-split count old.arrivals.items old.judging.marks.items less places in
      let rest = marked_all (drop count old.arrivals.items) (drop count old.judging.marks.items) in
      record {
        j = judged_with c.j.states rest c.j.findings c.j.frames c.j.uncertain c.j.is_unsure;
        same = ap (λ (l : List Marked). judged_with c.j.states l c.j.findings c.j.frames (0 + c.j.uncertain)
            c.j.is_unsure)
            (append_assoc gone More rest ∙ ap (λ (l : List Marked). gone ++ l) (sym split ∙ c.stands.marks))
            ∙ c.same;
        stands = record {
          states = c.stands.states;
          within = All-from_recursion
              (λ h. IsWithin old.bounds.rates (length old.frames.items) (length marks'.items) h) old.judging.held.items
              (within-none old.bounds.rates (length old.frames.items) (length old.judging.marks.items)
              (length marks'.items)
              old.judging.held.items (recursion_from_All (λ h. h.waiting ≡ 0) old.judging.held.items none)
              (recursion_from_All
              (λ h. IsWithin old.bounds.rates (length old.frames.items) (length old.judging.marks.items) h)
              old.judging.held.items c.stands.within));
          marks = ap (λ (l : List Arrived). marked_all l marks'.items) items
              ∙ ap (λ (l : List Mark). marked_all (drop count old.arrivals.items) l) marked;
          uncertain = c.stands.uncertain;
          unsure = c.stands.unsure;
        };
      }

  held-arrivals : IsHeld z xs ys cut over old → IsHeld z xs ys cut over Less
  held-arrivals h = record {
    gone = h.gone ++ More;
    past = h.past;
    kept = kept-arrivals h.gone h.past (late h) h.kept;
    continues = λ s. continues-arrivals h.gone (h.continues s);
  }

  pub after-arrivals : IsAfter z xs ys cut over old → IsAfter z xs ys cut over Less
  after-arrivals f = record {
    bounds = f.bounds;
    by = f.by;
    told = f.told;
    events = f.events;
    unsure = f.unsure;
    tag = f.tag;
    sure = λ s. held-arrivals (f.sure s);
  }

pub due-arrivals : (old : Growth) (count : ℕ) (arrivals' : Vec Arrived) (marks' : Vec Mark)
    → arrivals'.items ≡ drop count old.arrivals.items → marks'.items ≡ drop count old.judging.marks.items
    → count ≤ length old.judging.marks.items → due_by (without_arrivals old arrivals' marks') ≡ due_by old
unfolding due_by
due-arrivals old count arrivals' marks' items marked less =
    let size : length marks'.items ≡ length old.judging.marks.items - count =
    ap (λ (l : List Mark). length l) marked ∙ length-drop count old.judging.marks.items in
    let same : count + (length old.judging.marks.items - count) ≡ length old.judging.marks.items = omega (arith, less)
    in
    ap (λ (l : List Arrived). if old.judging.is_unsure then None
    else due_in old.bounds.limits l (drop old.closed old.frames.items))
    (ap (λ (l : List Arrived). drop (length marks'.items) l) items
    ∙ ap (λ (n : ℕ). drop n (drop count old.arrivals.items)) size
    ∙ drop-drop (length old.judging.marks.items - count) count old.arrivals.items
    ∙ ap (λ (n : ℕ). drop n old.arrivals.items) same)

-- ---- arrivals that are too early for all frames

up-right : (a b : List ℕ) → GoUp (a ++ b) → GoUp b
unfolding GoUp
up-right [] b h = h
up-right (t ∷ a) b h = up-right a b h.1

no-later : (come : List Arrived) (n : ℕ) (d : Arrived) → GoUp (map (λ a. a.time) come) → n < length come
    → AllByRecursion (λ a. a.time ≤ (get_or come n d).time) (take (suc n) come)
unfolding GoUp
no-later [] n d h lt = absurd (omega (arith, lt))
no-later (a ∷ come) zero d h lt = (omega arith, tt)
no-later (a ∷ []) (suc n) d h lt = absurd (omega (arith, lt))
no-later (a ∷ b ∷ come) (suc n) d h lt =
    let more = no-later (b ∷ come) n d h.1 (omega (arith, lt)) in
    let first = h.0.0 in
    let next = more.0 in
    (omega (arith, first, next), more)

module _ (z : Terms) (xs : List Arrival) (ys : List Gone) (cut : ℕ) (over : List Event) (old : Growth) (n : ℕ)
    (a : Arrived)
    (f : LeftFrame) (rest : List LeftFrame) (bounds : AreBounds z old.bounds) (told : AreTold z xs ys)
    (lt : n < length old.arrivals.items)
    (at : a ≡ get_or old.arrivals.items n a) (frames : old.frames.items ≡ f ∷ rest)
    (late : a.time + old.bounds.limits.latency + old.bounds.limits.reach < f.time)
    (held : IsHeld z xs ys cut over old) where
  come-up : GoUp (map (λ a. a.time) old.arrivals.items)
  come-up = subst (λ (l : List ℕ). GoUp l) (map-map (λ (x : Arrival). x.time) arrival_of old.arrivals.items)
      (up-right (map (λ x. x.time) (map (λ m. m.arrival) held.gone))
      (map (λ x. x.time) (map arrival_of old.arrivals.items))
      (subst (λ (l : List ℕ). GoUp l)
      (ap (λ (l : List Arrival). map (λ x. x.time) l) held.kept.came
      ∙ map-append (λ (x : Arrival). x.time) (map (λ m. m.arrival) held.gone) (map arrival_of old.arrivals.items))
      told.came))

  left-up : GoUp (map (λ y. y.time) (map gone_of (f ∷ rest)))
  left-up = up-right (map (λ y. y.time) held.past) (map (λ y. y.time) (map gone_of (f ∷ rest)))
      (subst (λ (l : List ℕ). GoUp l)
      (ap (λ (l : List Gone). map (λ y. y.time) l)
      (held.kept.left ∙ ap (λ (l : List LeftFrame). held.past ++ map gone_of l) frames)
      ∙ map-append (λ (y : Gone). y.time) held.past (map gone_of (f ∷ rest))) told.left)

  frames-late : AllByRecursion (λ y. f.time ≤ y.time) (map gone_of (f ∷ rest))
  unfolding GoUp
  frames-late = (omega arith, every-unmap (λ t. f.time ≤ t) (λ (y : Gone). y.time) (map gone_of rest) left-up.0)

  pub too-early : FitNone z (map gone_of old.frames.items)
      (marked_all (take (suc n) old.arrivals.items) (take (suc n) old.judging.marks.items))
  too-early =
      let lat = bounds.limits.latency in
      let slip = bounds.limits.reach in
      subst (λ (l : List LeftFrame). FitNone z (map gone_of l)
      (marked_all (take (suc n) old.arrivals.items) (take (suc n) old.judging.marks.items))) (sym frames)
      (every-on (λ y. f.time ≤ y.time)
      (λ y. AllByRecursion (λ m. fits z m.arrival y ≡ false)
      (marked_all (take (suc n) old.arrivals.items) (take (suc n) old.judging.marks.items)))
      (λ y le. every-marked (λ x. fits z x y ≡ false) (suc n) old.arrivals.items old.judging.marks.items
      (every-on (λ w. w.time ≤ (get_or old.arrivals.items n a).time) (λ w. fits z (arrival_of w) y ≡ false)
      (λ w k. too-late z (arrival_of w) y
      (let same = ap (λ (v : Arrived). v.time) at in omega (arith, k, same, le, late, lat, slip)))
      (take (suc n) old.arrivals.items) (no-later old.arrivals.items n a come-up lt)))
      (map gone_of (f ∷ rest)) frames-late)

-- the first of them are, up to the last one that is looked at
pub early-arrivals : (z : Terms) (xs : List Arrival) (ys : List Gone) (cut : ℕ) (over : List Event) (old : Growth)
    (count : ℕ)
    (a : Arrived) (f : LeftFrame) → AreBounds z old.bounds → AreTold z xs ys → 0 < count →
    count ≤ length old.arrivals.items
    → a ≡ get_or old.arrivals.items (count - 1) a → f ≡ get_or old.frames.items 0 f
    → a.time + old.bounds.limits.latency + old.bounds.limits.reach < f.time → IsHeld z xs ys cut over old
    → FitNone z (map gone_of old.frames.items)
    (marked_all (take count old.arrivals.items) (take count old.judging.marks.items))
early-arrivals z xs ys cut over old count a f bounds told some le at first late held =
    by old.frames.items refl first
  where
    same : suc (count - 1) ≡ count
    same = omega (arith, some)

    by : (fs : List LeftFrame) → old.frames.items ≡ fs → f ≡ get_or fs 0 f → FitNone z (map gone_of old.frames.items)
        (marked_all (take count old.arrivals.items) (take count old.judging.marks.items))
    by [] is e = subst (λ (l : List LeftFrame). FitNone z (map gone_of l)
        (marked_all (take count old.arrivals.items) (take count old.judging.marks.items))) (sym is) tt
    by (g ∷ rest) is e =
        subst (λ (n : ℕ). FitNone z (map gone_of old.frames.items)
        (marked_all (take n old.arrivals.items) (take n old.judging.marks.items))) same
        (too-early z xs ys cut over old (count - 1) a f rest bounds told (omega (arith, some, le)) at
        (is ∙ ap (λ (h : LeftFrame). h ∷ rest) (sym e)) late held)

pub none-early : (z : Terms) (old : Growth) (count : ℕ) → length old.frames.items ≡ 0
    → FitNone z (map gone_of old.frames.items)
    (marked_all (take count old.arrivals.items) (take count old.judging.marks.items))
none-early z old count e = by old.frames.items e
  where
    by : (fs : List LeftFrame) → length fs ≡ 0 → FitNone z (map gone_of fs)
        (marked_all (take count old.arrivals.items) (take count old.judging.marks.items))
    by [] h = tt
    by (g ∷ rest) h = absurd (omega (arith, h))
