-- What a stream holds once what is decided is let go of.
use Rattle.std.proofs.Common.{◌≡◌, ℕ, zero, suc, ◌+◌, ◌-◌, ◌*◌, ◌<◌, ◌≤◌, Bool, true, false, List, [], ◌∷◌, ◌++◌, map, take, drop, get_or, length, refl, sym, ap, ◌∙◌, subst, arith}
use Rattle.std.proofs.lemmas.Bool.{ltb-true, ltb-false}
use Rattle.std.proofs.lemmas.List.{drop_more, get_or-drop, get_or_default, length-append, length-drop, map-append}
use Rattle.std.proofs.lemmas.Simd.{map-map}
use Rattle.std.proofs.lemmas.List.Elements.{All-from_recursion, recursion_from_All}
use Rattle.std.specs.Int.{div_ceil}
use Rattle.std.specs.Prelude.{All, Option, Some, None, if◌then◌else◌, nat_lt}
use Rattle.std.specs.List.{AllByRecursion}
use Rattle.std.specs.Global.{Vec}
use Rattle.afdx_police.specs.Arrival.{Arrival}
use Rattle.afdx_conform.specs.Bounds.{AreBounds}
use Rattle.afdx_conform.specs.Events.{GoUp}
use Rattle.afdx_conform.specs.Forgetting.{FitNone}
use Rattle.afdx_conform.specs.Growing.{AreTold, IsAfter, IsHeld, IsSame, closed_too, is_some, undecided_by}
use Rattle.afdx_conform.specs.HeldStates.{past}
use Rattle.afdx_conform.specs.Holding.{AreArrivals, AreAsked, IsAsked, IsLean, IsTooEarly, KeepsArrivals, KeepsFrames}
use Rattle.afdx_conform.specs.Limits.{gone_of}
use Rattle.afdx_conform.specs.Marks.{arrival_of, marked_all}
use Rattle.afdx_conform.specs.States.{Event}
use Rattle.afdx_conform.specs.Streams.{Gone, Terms}
use Rattle.afdx_conform.specs.declared.arrived.Arrived.{Arrived}
use Rattle.afdx_conform.specs.declared.bounds.Bounds.{Bounds}
use Rattle.afdx_conform.specs.declared.finding.Mark.{Mark}
use Rattle.afdx_conform.specs.declared.growth.Growth.{Growth}
use Rattle.afdx_conform.specs.declared.known_bytes.KnownBytes.{KnownBytes}
use Rattle.afdx_conform.specs.declared.limits.LeftFrame.{LeftFrame}
use Rattle.afdx_conform.specs.declared.limits.Limits.{Limits}
use Rattle.afdx_conform.specs.declared.states.StreamState.{StreamState}
use Rattle.afdx_conform.proofs.ClosedLemmas.{some-arrived}
use Rattle.afdx_conform.proofs.ForgetLemmas.{early-arrivals, none-early}
use Rattle.afdx_conform.proofs.GrowthLemmas.{true-false}
use Rattle.afdx_conform.proofs.GrowthNext.{some-frame}

-- ---- arrivals go by time

no-sooner : (come : List Arrived) (time k : ℕ) (b : Arrived) → AllByRecursion (λ t. time ≤ t) (map (λ a. a.time) come)
    → k < length come → b ≡ get_or come k b → time ≤ b.time
no-sooner [] time k b all lt at = absurd (omega (arith, lt))
no-sooner (a ∷ come) time zero b all lt at = subst (λ (v : Arrived). time ≤ v.time) (sym at) all.0
no-sooner (a ∷ come) time (suc k) b all lt at = no-sooner come time k b all.1 (omega (arith, lt)) at

are-arrivals : (come : List Arrived) → GoUp (map (λ a. a.time) come) → AreArrivals come
unfolding GoUp
are-arrivals [] up i k a b le lt p q = absurd (omega (arith, lt))
are-arrivals (c ∷ come) up zero zero a b le lt p q =
    let m = ap (λ (v : Arrived). v.time) p in let n = ap (λ (v : Arrived). v.time) q in omega (arith, m, n)
are-arrivals (c ∷ come) up zero (suc k) a b le lt p q =
    subst (λ (v : Arrived). v.time ≤ b.time) (sym p) (no-sooner come c.time k b up.0 (omega (arith, lt)) q)
are-arrivals (c ∷ come) up (suc i) zero a b le lt p q = absurd (omega (arith, le))
are-arrivals (c ∷ come) up (suc i) (suc k) a b le lt p q = are-arrivals come up.1 i k a b (omega (arith, le))
    (omega (arith, lt)) p q

up-right : (a b : List ℕ) → GoUp (a ++ b) → GoUp b
unfolding GoUp
up-right [] b h = h
up-right (t ∷ a) b h = up-right a b h.1

pub in-order : (z : Terms) (xs : List Arrival) (ys : List Gone) (cut : ℕ) (over : List Event) (s : Growth)
    → AreTold z xs ys → IsHeld z xs ys cut over s → AreArrivals s.arrivals.items
in-order z xs ys cut over s told h =
    are-arrivals s.arrivals.items (subst (λ (l : List ℕ). GoUp l)
    (map-map (λ (x : Arrival). x.time) arrival_of s.arrivals.items)
    (up-right (map (λ x. x.time) (map (λ m. m.arrival) h.gone)) (map (λ x. x.time) (map arrival_of s.arrivals.items))
    (subst (λ (l : List ℕ). GoUp l)
    (ap (λ (l : List Arrival). map (λ x. x.time) l) h.kept.came
    ∙ map-append (λ (x : Arrival). x.time) (map (λ m. m.arrival) h.gone) (map arrival_of s.arrivals.items)) told.came)))

-- ---- which arrivals are asked

-- behind one that is all are
pub asked-behind : (limits : Limits) (come : List Arrived) (over : ℕ) (frames : List LeftFrame) (passed count : ℕ)
    (f : LeftFrame)
    → AreArrivals come → over ≤ length come → passed < length frames → f ≡ get_or frames passed f
    → ((a : Arrived) → count < over → a ≡ get_or come count a → f.time ≤ a.time + limits.latency + limits.reach)
    → (place : ℕ) → count ≤ place → AreAsked limits come over (drop passed frames) place
asked-behind limits come over frames passed count f order within lt at first place le k a low less is =
    let inside : count < length come = omega (arith, le, low, less, within) in
    let b = get_or come count a in
    let there = get_or_default come count a b inside in
    let early = first b (omega (arith, le, low, less)) there in
    let up = order count k b a (omega (arith, le, low)) (omega (arith, less, within)) there is in
    subst (λ (l : List LeftFrame). IsAsked limits a.time l)
    (sym (drop_more frames passed f lt ∙ ap (λ (v : LeftFrame). v ∷ drop (passed + 1) frames) (sym at)))
    (omega (arith, early, up))

-- the same without the first of them
pub asked-drop : (limits : Limits) (come come' : List Arrived) (over over' count : ℕ) (frames : List LeftFrame)
    → come' ≡ drop count come → over' ≡ over - count → (0 < count → length come ≤ 2 * count)
    → ((place : ℕ) → count ≤ place → length come ≤ 2 * (place + 1) → AreAsked limits come over frames place)
    → (place : ℕ) → length come' ≤ 2 * (place + 1) → AreAsked limits come' over' frames place
asked-drop limits come come' over over' count frames e less half asked place le k a low lt is =
    let size = ap (λ (l : List Arrived). length l) e ∙ length-drop count come in
    let here : a ≡ get_or come (count + k) a =
    is ∙ ap (λ (l : List Arrived). get_or l k a) e ∙ get_or-drop count come k a in
    asked (count + k) (omega arith) (by (nat_lt 0 count) refl size) (count + k) a (omega arith)
    (omega (arith, lt, less)) here
  where
    by : (b : Bool) → nat_lt 0 count ≡ b → length come' ≡ length come - count → length come ≤ 2 * (count + k + 1)
    by true t size = let h = half (ltb-true 0 count t) in omega (arith, h)
    by false t size = let z = ltb-false 0 count t in omega (arith, z, size, le, low)

-- ---- nothing is let go of

pub lean-same : (old new : Growth) → IsSame old new → IsLean old → IsLean new
lean-same old new s l = record {
  frames = (let c = s.closed in let f = ap (λ (l : List LeftFrame). length l) s.frames in let le = l.frames in omega
      (arith, c, f, le));
  arrivals = λ place le k a low lt is.
      let size = ap (λ (l : List Arrived). length l) s.arrivals in
      let marks = ap (λ (l : List Mark). length l) s.marks in
      let asked = l.arrivals place (omega (arith, size, le)) k a low (omega (arith, marks, lt))
      (is ∙ ap (λ (l : List Arrived). get_or l k a) s.arrivals) in
      subst (λ (b : Bounds). IsAsked b.limits a.time (drop new.closed new.frames.items)) (sym s.bounds)
      (subst (λ (n : ℕ). IsAsked old.bounds.limits a.time (drop n new.frames.items)) (sym s.closed)
      (subst (λ (l : List LeftFrame). IsAsked old.bounds.limits a.time (drop old.closed l)) (sym s.frames) asked));
  unsure = λ u.
      let none = l.unsure (sym s.is_unsure ∙ u) in (
        ap (λ (l : List Arrived). length l) s.arrivals ∙ none.0,
        ap (λ (l : List LeftFrame). length l) s.frames ∙
            none.1,
      );
}

pub lean-none : (z : Terms) (s : Growth) → IsAfter z [] [] 0 [] s → s.judging.is_unsure ≡ false → IsLean s
lean-none z s f sure =
    let h = f.sure sure in
    let closed = h.kept.closed in
    let marks = h.kept.marks in
    record {
      frames = omega (arith, closed);
      arrivals = λ place le k a low lt is. absurd (omega (arith, marks, lt));
      unsure = λ u. absurd (true-false u sure);
    }

-- ---- one more arrival, one more frame

pub lean-came : (a : Arrived) (old : Growth) (arrivals' : Vec Arrived) (count : ℕ) (known' : KnownBytes)
    → arrivals'.items ≡ old.arrivals.items ++ (a ∷ []) → length old.judging.marks.items ≤ length old.arrivals.items
    → old.judging.is_unsure ≡ false → IsLean old
    → IsLean (record old { arrivals = arrivals'; came = count; known = known' })
lean-came a old arrivals' count known' items places sure l = record {
  frames = l.frames;
  arrivals = λ place le k b low lt is.
      let size = ap (λ (l : List Arrived). length l) items ∙ length-append old.arrivals.items (a ∷ []) in
      let inside : k < length old.arrivals.items = omega (arith, lt, places) in
      l.arrivals place (omega (arith, size, le)) k b low lt
      (is ∙ ap (λ (l : List Arrived). get_or l k b) items ∙ get-left old.arrivals.items (a ∷ []) k b inside);
  unsure = λ u. absurd (true-false u sure);
}
  where
    get-left : (xs ys : List Arrived) (i : ℕ) (d : Arrived) → i < length xs → get_or (xs ++ ys) i d ≡ get_or xs i d
    get-left [] ys i d less = absurd (omega (arith, less))
    get-left (x ∷ xs) ys zero d less = refl
    get-left (x ∷ xs) ys (suc i) d less = get-left xs ys i d (omega (arith, less))

pub lean-left : (f : LeftFrame) (old : Growth) (frames' : Vec LeftFrame) (count : ℕ)
    → frames'.items ≡ old.frames.items ++ (f ∷ []) → old.closed ≤ length old.frames.items
    → old.judging.is_unsure ≡ false → IsLean old
    → IsLean (record old { frames = frames'; left = count })
lean-left f old frames' count items closed sure l = record {
  frames = (let size = ap (λ (l : List LeftFrame). length l) items
      ∙ length-append old.frames.items (f ∷ []) in let le = l.frames in
      omega (arith, size, le));
  arrivals = λ place le k b low lt is.
      subst (λ (l : List LeftFrame). IsAsked old.bounds.limits b.time l)
      (sym (ap (λ (l : List LeftFrame). drop old.closed l) items ∙
      drop-left old.closed old.frames.items (f ∷ []) closed))
      (more (drop old.closed old.frames.items) b (l.arrivals place le k b low lt is));
  unsure = λ u. absurd (true-false u sure);
}
  where
    drop-left : (n : ℕ) (xs ys : List LeftFrame) → n ≤ length xs → drop n (xs ++ ys) ≡ drop n xs ++ ys
    drop-left zero xs ys le = refl
    drop-left (suc n) [] ys le = absurd (omega (arith, le))
    drop-left (suc n) (x ∷ xs) ys le = drop-left n xs ys (omega (arith, le))

    more : (fs : List LeftFrame) (b : Arrived) → IsAsked old.bounds.limits b.time fs
        → IsAsked old.bounds.limits b.time (fs ++ (f ∷ []))
    more [] b h = absurd h
    more (g ∷ fs) b h = h

-- ---- what is let go of

-- the frames that are closed, if they are half of them
pub lean-frames : (old new : Growth) → KeepsArrivals old new → old.judging.is_unsure ≡ false
    → new.closed + new.closed ≤ length new.frames.items
    → drop new.closed new.frames.items ≡ drop old.closed old.frames.items
    → ((place : ℕ) → length old.arrivals.items ≤ 2 * (place + 1) → AreAsked old.bounds.limits old.arrivals.items
    (length old.judging.marks.items) (drop old.closed old.frames.items) place)
    → IsLean new
lean-frames old new s sure half rest asked = record {
  frames = half;
  arrivals = λ place le k a low lt is.
      let size = ap (λ (l : List Arrived). length l) s.arrivals in
      let marks = ap (λ (l : List Mark). length l) s.marks in
      let one = asked place (omega (arith, size, le)) k a low (omega (arith, marks, lt))
      (is ∙ ap (λ (l : List Arrived). get_or l k a) s.arrivals) in
      subst (λ (b : Bounds). IsAsked b.limits a.time (drop new.closed new.frames.items)) (sym s.bounds)
      (subst (λ (l : List LeftFrame). IsAsked old.bounds.limits a.time l) (sym rest) one);
  unsure = λ u. absurd (true-false u (s.is_unsure ∙ sure));
}

-- all frames that are closed, and then arrivals
pub lean-both : (old mid new : Growth) (passed count : ℕ) → KeepsArrivals old mid → KeepsFrames mid new
    → old.judging.is_unsure ≡ false → passed ≡ old.closed → mid.closed ≡ old.closed - passed
    → mid.frames.items ≡ drop passed old.frames.items
    → new.arrivals.items ≡ drop count mid.arrivals.items → new.judging.marks.items ≡ drop count mid.judging.marks.items
    → (0 < count → length old.arrivals.items ≤ 2 * count)
    → ((place : ℕ) → count ≤ place → length old.arrivals.items ≤ 2 * (place + 1)
    → AreAsked old.bounds.limits old.arrivals.items
    (length old.judging.marks.items) (drop passed old.frames.items) place)
    → IsLean new
lean-both old mid new passed count s t sure is closed frames arrivals marks half asked =
    let none : new.closed ≡ 0 = (let c = t.closed in omega (arith, c, closed, is)) in
    let rest : drop new.closed new.frames.items ≡ drop passed old.frames.items =
    ap (λ (n : ℕ). drop n new.frames.items) none ∙ t.frames ∙ frames in
    let come = arrivals ∙ ap (λ (l : List Arrived). drop count l) s.arrivals in
    let over = ap (λ (l : List Mark). length l) marks ∙ length-drop count mid.judging.marks.items
    ∙ ap (λ (l : List Mark). length l - count) s.marks in
    let all = asked-drop old.bounds.limits old.arrivals.items new.arrivals.items (length old.judging.marks.items)
    (length new.judging.marks.items) count (drop passed old.frames.items) come over half asked in
    record {
      frames = omega (arith, none);
      arrivals = λ place le k a low lt at.
          subst (λ (b : Bounds). IsAsked b.limits a.time (drop new.closed new.frames.items)) (sym (t.bounds ∙ s.bounds))
          (subst (λ (l : List LeftFrame). IsAsked old.bounds.limits a.time l) (sym rest) (all place le k a low lt at));
      unsure = λ u. absurd (true-false u (t.is_unsure ∙ s.is_unsure ∙ sure));
    }

-- ---- what is let go of is asked by no later event

still-mapped : (count : ℕ) (held : List StreamState) → AllByRecursion (λ h. h.waiting ≡ 0) held
    → AllByRecursion (λ h. h.waiting ≡ 0) (map (λ h. past (h.passed - count) h) held)
still-mapped count [] all = tt
still-mapped count (h ∷ held) all = (all.0, still-mapped count held all.1)

pub still-past : (count : ℕ) (held held' : List StreamState) → held' ≡ map (λ h. past (h.passed - count) h) held
    → All (λ h. h.waiting ≡ 0) held → All (λ h. h.waiting ≡ 0) held'
still-past count held held' e all =
    subst (λ (l : List StreamState). All (λ h. h.waiting ≡ 0) l) (sym e)
    (All-from_recursion (λ h. h.waiting ≡ 0) (map (λ h. past (h.passed - count) h) held)
    (still-mapped count held (recursion_from_All (λ h. h.waiting ≡ 0) held all)))

-- the arrivals are too early for the frames that are left
pub early-left : (old mid : Growth) (passed count : ℕ) → KeepsArrivals old mid
    → mid.frames.items ≡ drop passed old.frames.items
    → ((a : Arrived) (f : LeftFrame) → 0 < count → passed < length old.frames.items
    → a ≡ get_or old.arrivals.items (count - 1) a
    → f ≡ get_or old.frames.items passed f → IsTooEarly old.bounds.limits a f)
    → (a : Arrived) (f : LeftFrame) → 0 < count → 0 < length mid.frames.items → a ≡
    get_or mid.arrivals.items (count - 1) a
    → f ≡ get_or mid.frames.items 0 f → IsTooEarly mid.bounds.limits a f
early-left old mid passed count s frames early a f some lt at first =
    let size = ap (λ (l : List LeftFrame). length l) frames ∙ length-drop passed old.frames.items in
    subst (λ (b : Bounds). IsTooEarly b.limits a f) (sym s.bounds)
    (early a f some (omega (arith, size, lt)) (at ∙ ap (λ (l : List Arrived). get_or l (count - 1) a) s.arrivals)
    (first ∙ ap (λ (l : List LeftFrame). get_or l 0 f) frames ∙ get_or-drop passed old.frames.items 0 f
    ∙ ap (λ (n : ℕ). get_or old.frames.items n f) (omega arith)))

none-marked : (z : Terms) (fs : List Gone) → FitNone z fs (marked_all [] [])
unfolding marked_all
none-marked z [] = tt
none-marked z (y ∷ fs) = (tt, none-marked z fs)

-- no frame that is held fits one of them
pub early-for : (z : Terms) (xs : List Arrival) (ys : List Gone) (cut : ℕ) (over : List Event) (old : Growth)
    (count : ℕ)
    → AreBounds z old.bounds → AreTold z xs ys → count ≤ length old.arrivals.items
    → ((a : Arrived) (f : LeftFrame) → 0 < count → 0 < length old.frames.items → a ≡
    get_or old.arrivals.items (count - 1) a
    → f ≡ get_or old.frames.items 0 f → IsTooEarly old.bounds.limits a f)
    → IsHeld z xs ys cut over old
    → FitNone z (map gone_of old.frames.items)
    (marked_all (take count old.arrivals.items) (take count old.judging.marks.items))
early-for z xs ys cut over old count bounds told le early h = by count refl (nat_lt 0 (length old.frames.items)) refl
  where
    by : (n : ℕ) → count ≡ n → (b : Bool) → nat_lt 0 (length old.frames.items) ≡ b
        → FitNone z (map gone_of old.frames.items)
        (marked_all (take count old.arrivals.items) (take count old.judging.marks.items))
    by zero e b k = subst (λ (n : ℕ). FitNone z (map gone_of old.frames.items)
        (marked_all (take n old.arrivals.items) (take n old.judging.marks.items))) (sym e)
        (none-marked z (map gone_of old.frames.items))
    by (suc n) e false k = none-early z old count
        (let none = ltb-false 0 (length old.frames.items) k in omega (arith, none))
    by (suc n) e true k =
        let lt = ltb-true 0 (length old.frames.items) k in
        let some : 0 < count = omega (arith, e) in
        let a = some-arrived old.arrivals.items (count - 1) (omega (arith, le, some)) in
        let f = some-frame old.frames.items 0 lt in
        early-arrivals z xs ys cut over old count a.0 f.0 bounds told some le a.1 f.1 (early a.0 f.0 some lt a.1 f.1) h

pub none-undecided : (s : Growth) → s.judging.is_unsure ≡ true → undecided_by s ≡ 0
unfolding undecided_by
none-undecided s e = ap (λ (b : Bool). if b then 0 else (length s.arrivals.items - length s.judging.marks.items)
    + (length s.frames.items - s.closed)) e

pub some-over : (closed : Option ℕ) (e : Event) (over : List Event) → is_some (closed_too closed (e ∷ over)) ≡ true
some-over None e over = refl
some-over (Some t) e over = refl

-- half of a number, rounded up
pub record IsHalf (n half : ℕ) : Type 0 where
  pub low : n ≤ 2 * half
  pub high : 2 * half ≤ n + 1

pub half-of : (n half : ℕ) → half ≡ div_ceil n 2 → IsHalf n half
half-of n half e = record { low = omega (arith, e); high = omega (arith, e) }
