-- A switch whose frames leave in order, in time and no sooner than they can, is right. Lists have the newest first.
use Rattle.std.proofs.Common.{◌≡◌, ℕ, ◌+◌, ◌≤◌, ◌<◌, Bool, true, false, not, ◌&&◌, List, [], ◌∷◌, ◌++◌, map, refl, sym, ap, ◌∙◌, subst, arith}
use Rattle.std.proofs.lemmas.Bool.{ltb-true, lt-ltb, ltb-false, le-ltb}
use Rattle.std.specs.Prelude.{IsTrue, nat_lt, filter, Option, Some, None}
use Rattle.std.specs.List.{AllByRecursion}
use Rattle.afdx_frame.specs.Regulation.{is_bag}
use Rattle.afdx_police.specs.Arrival.{Arrival}
use Rattle.afdx_police.specs.Verdicts.{accepted_arrivals}
use Rattle.afdx_conform.specs.Explanations.{from_time}
use Rattle.afdx_conform.specs.Headline.{GoByTime, IsItsFrame, AreTheirFrames}
use Rattle.afdx_conform.specs.Leeway.{reach}
use Rattle.afdx_conform.specs.Right.{Asked, LeavesAs, IsUnseen, EachLeaves, AllLeaveLater, IsRight}
use Rattle.afdx_conform.specs.Streams.{Gone, Terms}
use Rattle.afdx_law_text.proofs.AskedLemmas.{goes-on, ask, asks, first, spans, IsHarmless, asked-accepted, asks-by-clock, is-first}
use Rattle.afdx_law_text.proofs.RuleLemmas.{accepted-by-time}
use Rattle.afdx_law_text.proofs.ListLemmas.{filter-none, filter-keeps, and-false, Descend}

-- frames go by time
abbrev pub LeaveByTime : List Gone → Type 0
LeaveByTime ys = Descend (λ y. y.time) ys

module _ (z : Terms) where
  no-earlier : (x : Arrival) (y : Gone) → IsItsFrame z x y → x.time ≤ y.time
  no-earlier x y f = let soon = f.no_sooner in omega (arith, soon)

  leaves-as : (x : Arrival) (y : Gone) → IsItsFrame z x y → LeavesAs z (ask x) y
  leaves-as x y f = record {
    bytes = f.bytes;
    moment = y.time;
    clock = y.time;
    goes_on = goes-on z.by x.time y.time (no-earlier x y f);
    stamped = record { late = omega arith; early = omega arith };
    no_sooner = f.no_sooner;
    in_time = f.in_time;
  }

  unseen-by : (start : Option ℕ) (x : Arrival) (y : Gone) → IsItsFrame z x y → x.time < from_time start
      → IsUnseen z start y
  unseen-by None x y f before = absurd (omega (arith, before))
  unseen-by (Some start) x y f before = record {
    of = ask x;
    stamped = record { late = omega arith; early = omega arith };
    before = before;
    leaves = leaves-as x y f;
  }

module _ (z : Terms) (ends : ℕ → Bool) (later : (m n : ℕ) → m ≤ n → ends m ≡ true → ends n ≡ true)
    (behind : (n : ℕ) → ends n ≡ true → z.until < n) (q : Arrival → Bool) where
  -- a frame that left from the reach of two stamps before the start on, and not behind the end
  abbrev pub is_seen : Gone → Bool
  is_seen y = not (nat_lt (y.time + reach z.by) (from_time z.by.start)) && not (ends y.time)

  abbrev spanned : List Arrival → List Arrival
  spanned xs = filter (spans z ends later q) xs

  no-span : (x : Arrival) (xs : List Arrival) → nat_lt x.time (from_time z.by.start) ≡ true
      → AllByRecursion (λ w. w.time ≤ x.time) xs → AllByRecursion (λ w. spans z ends later q w ≡ false) xs
  no-span x [] early all = tt
  no-span x (w ∷ xs) early all =
      let below = ltb-true x.time (from_time z.by.start) early in
      let at = all.0 in
      let here : nat_lt w.time (from_time z.by.start) ≡ true =
      lt-ltb w.time (from_time z.by.start) (omega (arith, below, at)) in
      (rw here refl, no-span x xs early all.1)

  -- frames of arrivals before the start
  all-unseen : (time : ℕ) (xs : List Arrival) (ys : List Gone) → time < from_time z.by.start
      → AllByRecursion (λ w. w.time ≤ time) xs → AreTheirFrames z xs ys
      → AllByRecursion (λ y. IsUnseen z z.by.start y) ys
  unfolding AreTheirFrames
  all-unseen time [] [] before all are = tt
  all-unseen time [] (y ∷ ys) before all are = absurd are
  all-unseen time (x ∷ xs) [] before all are = tt
  all-unseen time (x ∷ xs) (y ∷ ys) before all are =
      let at = all.0 in
      (unseen-by z z.by.start x y are.0 (omega (arith, before, at)), all-unseen time xs ys before all.1 are.1)

  -- some wait, and the others leave as these frames
  record IsSplit (xs : List Asked) (ys : List Gone) : Type 0 where
    pub waiting : List Asked
    pub took : List Asked
    pub joined : xs ≡ waiting ++ took
    pub later_leave : AllLeaveLater z waiting
    pub leave : EachLeaves z took ys

  none-asked : (x : Arrival) (xs : List Arrival) (y : Gone) (ys : List Gone)
      → nat_lt x.time (from_time z.by.start) ≡ true
      → AllByRecursion (λ w. w.time ≤ x.time) xs → AreTheirFrames z (x ∷ xs) (y ∷ ys)
      → IsSplit (map ask (spanned (x ∷ xs))) (filter is_seen (y ∷ ys))
  unfolding EachLeaves AllLeaveLater
  none-asked x xs y ys early all are = record {
    waiting = [];
    took = [];
    joined = ap (λ (l : List Arrival). map ask l) (filter-none (spans z ends later q) (x ∷ xs)
        (rw early refl, no-span x xs early all));
    later_leave = tt;
    leave = filter-keeps (λ (w : Gone). IsUnseen z z.by.start w) is_seen (y ∷ ys)
        (all-unseen x.time (x ∷ xs) (y ∷ ys) (ltb-true x.time (from_time z.by.start) early) (omega arith, all) are);
  }

  seen-frame : (x : Arrival) (y : Gone) → nat_lt x.time (from_time z.by.start) ≡ false → x.time ≤ y.time
      → ends y.time ≡ false
      → is_seen y ≡ true
  seen-frame x y late h off =
      let above = ltb-false x.time (from_time z.by.start) late in
      rw (le-ltb (y.time + reach z.by) (from_time z.by.start) (omega (arith, above, h)), off) refl

  unseen-frame : (y : Gone) → ends y.time ≡ true → is_seen y ≡ false
  unseen-frame y e = rw e (and-false (not (nat_lt (y.time + reach z.by) (from_time z.by.start))))

  not-ended : (m n : ℕ) → m ≤ n → ends n ≡ false → ends m ≡ false
  not-ended m n h off = by (ends m) refl
    where
      by : (b : Bool) → ends m ≡ b → b ≡ false
      by false e = refl
      by true e = absurd (let up = later m n h e in cc (up, off))

  -- no frame is behind the end: none waits
  none-waits : (xs : List Arrival) (ys : List Gone) → GoByTime xs → AllByRecursion (λ y. ends y.time ≡ false) ys
      → AreTheirFrames z xs ys → EachLeaves z (map ask (spanned xs)) (filter is_seen ys)
  unfolding AreTheirFrames EachLeaves GoByTime
  none-waits [] [] order on are = tt
  none-waits [] (y ∷ ys) order on are = absurd are
  none-waits (x ∷ xs) [] order on are = absurd are
  none-waits (x ∷ xs) (y ∷ ys) order on are =
      by (nat_lt x.time (from_time z.by.start)) refl (none-waits xs ys order.1 on.1 are.1)
    where
      here : nat_lt x.time (from_time z.by.start) ≡ false → spans z ends later q x ≡ true
      here late = rw (late, not-ended x.time y.time (no-earlier z x y are.0) on.0) refl

      by : (b : Bool) → nat_lt x.time (from_time z.by.start) ≡ b
          → EachLeaves z (map ask (spanned xs)) (filter is_seen ys)
          → EachLeaves z (map ask (spanned (x ∷ xs))) (filter is_seen (y ∷ ys))
      by true early rest =
          subst (λ (l : List Arrival). EachLeaves z (map ask l) (filter is_seen (y ∷ ys)))
          (sym (filter-none (spans z ends later q) (x ∷ xs) (rw early refl, no-span x xs early order.0)))
          (filter-keeps (λ (w : Gone). IsUnseen z z.by.start w) is_seen (y ∷ ys)
          (all-unseen x.time (x ∷ xs) (y ∷ ys) (ltb-true x.time (from_time z.by.start) early)
          (omega arith, order.0) are))
      by false late rest =
          rw (here late, seen-frame x y late (no-earlier z x y are.0) on.0) (leaves-as z x y are.0, rest)

  none-left : (xs : List Arrival) (ys : List Gone) → EachLeaves z (map ask (spanned xs)) (filter is_seen ys)
      → IsSplit (map ask (spanned xs)) (filter is_seen ys)
  unfolding AllLeaveLater
  none-left xs ys leave =
      record { waiting = []; took = map ask (spanned xs); joined = refl; later_leave = tt; leave = leave }

  nothing-left : IsSplit [] []
  unfolding AllLeaveLater EachLeaves
  nothing-left = record { waiting = []; took = []; joined = refl; later_leave = tt; leave = tt }

  one-waits : (x : Arrival) (y : Gone) (xs : List Asked) (ys : List Gone) → LeavesAs z (ask x) y → z.until < y.time
      → IsSplit xs ys → IsSplit (ask x ∷ xs) ys
  unfolding AllLeaveLater
  one-waits x y xs ys leaves past rest = record {
    waiting = ask x ∷ rest.waiting;
    took = rest.took;
    joined = ap (λ (l : List Asked). ask x ∷ l) rest.joined;
    later_leave = (record { frame = y; leaves = leaves; unseen = omega (arith, past) }, rest.later_leave);
    leave = rest.leave;
  }

  all-on : (y : Gone) (ys : List Gone) → ends y.time ≡ false → AllByRecursion (λ w. w.time ≤ y.time) ys
      → AllByRecursion (λ w. ends w.time ≡ false) ys
  all-on y [] off all = tt
  all-on y (w ∷ ys) off all = (not-ended w.time y.time all.0 off, all-on y ys off all.1)

  split : (xs : List Arrival) (ys : List Gone) → GoByTime xs → LeaveByTime ys → AreTheirFrames z xs ys
      → IsSplit (map ask (spanned xs)) (filter is_seen ys)
  unfolding AreTheirFrames GoByTime Descend
  split [] [] order leave are = nothing-left
  split [] (y ∷ ys) order leave are = absurd are
  split (x ∷ xs) [] order leave are = absurd are
  split (x ∷ xs) (y ∷ ys) order leave are =
      by (nat_lt x.time (from_time z.by.start)) refl (ends y.time) refl (ends x.time) refl
      (split xs ys order.1 leave.1 are.1)
    where
      by : (b : Bool) → nat_lt x.time (from_time z.by.start) ≡ b → (c : Bool) → ends y.time ≡ c → (d : Bool)
          → ends x.time ≡ d
          → IsSplit (map ask (spanned xs)) (filter is_seen ys)
          → IsSplit (map ask (spanned (x ∷ xs))) (filter is_seen (y ∷ ys))
      by true early c e d f rest = none-asked x xs y ys early order.0 are
      by false late false e d f rest =
          none-left (x ∷ xs) (y ∷ ys) (none-waits (x ∷ xs) (y ∷ ys) order (e, all-on y ys e leave.0) are)
      by false late true e true f rest = rw (f, late, unseen-frame y e) rest
      by false late true e false f rest = rw (f, late, unseen-frame y e)
          (one-waits x y (map ask (spanned xs)) (filter is_seen ys)
          (leaves-as z x y are.0) (behind y.time e) rest)

  -- a right switch: its account is asked as frames come, and what it accepts leaves
  pub stream-right : (own : List Arrival) (gone : List Gone) → IsTrue (is_bag z.rule.bag_ms) → GoByTime own
      → LeaveByTime gone
      → AllByRecursion (IsHarmless z ends later q) own → AreTheirFrames z (accepted_arrivals z.rule own) gone
      → IsRight z (asks z ends later q own) (filter is_seen gone)
  stream-right own gone is order leave fine are =
      let s = split (accepted_arrivals z.rule own) gone (accepted-by-time z.rule own order) leave are in
      record {
        first = first z ends later q own;
        moment = from_time z.by.start;
        clock = from_time z.by.start;
        is_first = is-first z ends later q is own order;
        go_on = asks-by-clock z ends later q own order;
        waiting = s.waiting;
        took = s.took;
        accepted = asked-accepted z ends later q own order fine ∙ s.joined;
        later = s.later_leave;
        leave = s.leave;
      }
