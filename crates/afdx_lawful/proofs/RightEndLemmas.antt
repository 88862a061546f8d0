-- Of a right sender on two networks no frame waits in vain, but for those whose copies are cut off.
use Rattle.std.proofs.Common.{◌≡◌, ◌⊎◌, inl, inr, ℕ, zero, suc, ◌+◌, ◌<◌, ◌≤◌, Bool, true, false, List, [], ◌∷◌, refl}
use Rattle.std.proofs.Common.{sym, ap, ap₂, ◌∙◌, subst, arith, length, map, reverse, Option, Some, None}
use Rattle.std.specs.Prelude.{◌&&◌, ◌||◌, not, nat_le, nat_lt, filter}
use Rattle.std.specs.List.{AllByRecursion, list_any}
use Rattle.std.proofs.lemmas.Bool.{cond-false, false_from_ne_true, leb-true, lt-ltb}
use Rattle.afdx_frame.specs.declared.link.Side.{Side}
use Rattle.afdx_config.specs.Numbers.{after_steps}
use Rattle.afdx_receive.specs.Steps.{is_within_steps}
use Rattle.afdx_receive.proofs.StepsLemmas.{within_some}
use Rattle.afdx_lawful.specs.Accepted.{ComeUpTo}
use Rattle.afdx_lawful.specs.Alone.{number_in}
use Rattle.afdx_lawful.specs.Flaws.{whole_of}
use Rattle.afdx_lawful.specs.Judged.{found_single, is_cut_of, single_at}
use Rattle.afdx_lawful.specs.Partners.{Waiting, had_begun, is_before, is_cut, is_near, most_steps, other, waiting, went_on}
use Rattle.afdx_lawful.specs.Right.{AreSent, FollowsAll, IsRightOn, IsSent, Sent, came_of}
use Rattle.afdx_lawful.specs.RightTwice.{IsBefore, IsInRange, IsRightTwice, NothingIsFound, RightIsNeverAccused}
use Rattle.afdx_lawful.specs.RightTwice.{came_from}
use Rattle.afdx_lawful.specs.Sources.{Came, Source, apart, hold, on_side, slip}
use Rattle.afdx_lawful.proofs.AccusedLemmas.{AreSilentBoth, all_whole, both_silent, right_not_accused}
use Rattle.afdx_lawful.proofs.DistanceLemmas.{apart-same, copy-near, few_steps}
use Rattle.afdx_lawful.proofs.RightTwiceLemmas.{IsSoFar, all-at, all-seen, all-so-far, all-wait, any-none, coming, copy-by, far-on}
use Rattle.afdx_lawful.proofs.RightTwiceLemmas.{far-other, frame, number-at, places, seen, waits-of, waits-at}
use Rattle.afdx_lawful.proofs.StretchLemmas.{all-in, beside, is_in}

-- ---- as one side shows it

sent-from : (ℕ → Sent) → ℕ → ℕ → List Sent
sent-from sent first zero = []
sent-from sent first (suc n) = sent (first + n) ∷ sent-from sent first n

came-sent : (sent : ℕ → Sent) (first n : ℕ) → came_of (sent-from sent first n) ≡ came_from sent first n
unfolding sent-from
came-sent sent first zero = refl
came-sent sent first (suc n) = ap (λ (l : List Came). (sent (first + n)).came ∷ l) (came-sent sent first n)

sent-long : (sent : ℕ → Sent) (first n : ℕ) → length (sent-from sent first n) ≡ n
unfolding sent-from
sent-long sent first zero = refl
sent-long sent first (suc n) = ap suc (sent-long sent first n)

module _ (s : Source) (xs : List Came) (r : IsRightTwice s xs) (side : Side) where
  follows-on : (first n : ℕ) → first + n < r.count →
      FollowsAll s (sent-from (r.sent side) first n) (r.sent side (first + n))
  unfolding sent-from
  follows-on first zero within = tt
  follows-on first (suc n) within =
      let next : first + n + 1 ≡ first + suc n = omega arith in
      subst (λ (k : ℕ). FollowsAll s (sent-from (r.sent side) first (suc n)) (r.sent side k)) next
      (r.follow side (first + n) (omega (arith, within)))

  are-sent : (first n : ℕ) → first + n ≤ r.count → AreSent s first (sent-from (r.sent side) first n)
  unfolding sent-from AreSent
  are-sent first zero within = tt
  are-sent first (suc n) within = (
    subst (λ (m : ℕ). IsSent s (first + m) (r.sent side (first + n))) (sym (sent-long (r.sent side) first n))
        (r.lawful side (first + n) (omega (arith, within))),
    follows-on first n (omega (arith, within)),
    are-sent first n (omega (arith, within)),
  )

  begun : s.by.start ≡ None → r.first side ≡ 0
  begun none = by (r.first side) (λ k less. subst (λ (o : Option ℕ). IsBefore o (r.sent side k).came.time) none
      (r.before side k less))
    where
      by : (first : ℕ) → ((k : ℕ) → k < first → ⊥) → first ≡ 0
      by zero h = refl
      by (suc n) h = absurd (h 0 (omega arith))

  right-on : IsRightOn s side xs
  right-on = record {
    sent = sent-from (r.sent side) (r.first side) (r.seen side);
    first = r.first side;
    begun = begun;
    are = came-sent (r.sent side) (r.first side) (r.seen side) ∙ sym (r.recorded side);
    right = are-sent (r.first side) (r.seen side) (r.within side);
  }

-- ---- at the end

none-left : (test : Waiting → Bool) (ws : List Waiting) → AllByRecursion (λ w. test w ≡ true) ws →
    filter (λ w. not (test w)) ws ≡ []
none-left test [] h = refl
none-left test (w ∷ ws) h =
    cond-false (not (test w)) (w ∷ filter (λ v. not (test v)) ws) (filter (λ v. not (test v)) ws) (ap not h.0)
    ∙ none-left test ws h.1

was-in : (b : Bool) → not b ≡ true → b ≡ false
was-in true h = absurd (cc h)
was-in false h = refl

either-one : (a b c d : Bool) → a ≡ true → b ≡ false → (a && not b || c && not d) ≡ true
either-one a b c d h e = ap₂ (λ (p q : Bool). p && not q || c && not d) h e

either-two : (a b c d : Bool) → c ≡ true → d ≡ false → (a && not b || c && not d) ≡ true
either-two a b c d h e = ap₂ (λ (p q : Bool). a && not b || p && not q) h e ∙ or-true (a && not b)
  where
    or-true : (b : Bool) → (b || true) ≡ true
    or-true true = refl
    or-true false = refl

-- a frame that is further than the hold is not near
not-near : (s : Source) (x y : Came) → y.time + hold s < x.time → is_near s x y ≡ false
not-near s x y far =
    false_from_ne_true (is_near s x y) (λ h. by (nat_le x.time (y.time + hold s)) refl h)
  where
    by : (a : Bool) → nat_le x.time (y.time + hold s) ≡ a → (a && nat_le y.time (x.time + hold s)) ≡ true → ⊥
    by true e h = let le = leb-true x.time (y.time + hold s) e in omega (arith, le, far)
    by false e h = cc h

not-near-behind : (s : Source) (x y : Came) → x.time + hold s < y.time → is_near s x y ≡ false
not-near-behind s x y far =
    false_from_ne_true (is_near s x y)
    (λ h. by (nat_le x.time (y.time + hold s)) (nat_le y.time (x.time + hold s)) refl h)
  where
    by : (a b : Bool) → nat_le y.time (x.time + hold s) ≡ b → (a && b) ≡ true → ⊥
    by true true e h = let le = leb-true y.time (x.time + hold s) e in omega (arith, le, far)
    by true false e h = cc h
    by false b e h = cc h

module _ (s : Source) (xs : List Came) (range : IsInRange s) (r : IsRightTwice s xs) where
  abbrev at : Side → ℕ → Came
  at side p = frame s xs range r side p

  so-far : IsSoFar s xs range r xs
  so-far = all-so-far s xs range r

  seen-is : (side : Side) → seen s xs range r side xs ≡ r.seen side
  seen-is side = all-seen s xs range r side

  module _ (side : Side) (p : ℕ) (less : p < r.count) where
    -- no frame before the copy tells that its side went on
    none-on : (m : ℕ) → m < p →
        (is_near s (at side p) (at (other side) m)
        && is_within_steps most_steps (number_in (at side p)) (number_in (at (other side) m))) ≡ false
    none-on m before =
        by (is_within_steps most_steps (number_in (at side p)) (number_in (at (other side) m))) refl
      where
        by : (b : Bool) →
            is_within_steps most_steps (number_in (at side p)) (number_in (at (other side) m)) ≡ b →
            (is_near s (at side p) (at (other side) m) && b) ≡ false
        by false e = and-false (is_near s (at side p) (at (other side) m))
          where
            and-false : (b : Bool) → (b && false) ≡ false
            and-false true = refl
            and-false false = refl
        by true e =
            let some = within_some most_steps (number_in (at side p)) (number_in (at (other side) m)) e in
            let leads : after_steps some.0 (after_steps p 0) ≡ after_steps m 0 =
            ap (after_steps some.0) (sym (number-at s xs range r side p less)) ∙ some.3
            ∙ number-at s xs range r (other side) m (omega (arith, before, less)) in
            let away = few_steps m p some.0 before some.2 leads in
            ap (λ (b : Bool). b && true)
            (not-near s (at side p) (at (other side) m) (far-on s xs range r side m p away less))

    -- and none behind it that it had begun
    none-begun : (m : ℕ) → p < m → m < r.count →
        (is_near s (at side p) (at (other side) m)
        && is_within_steps most_steps (number_in (at (other side) m)) (number_in (at side p))) ≡ false
    none-begun m behind within =
        by (is_within_steps most_steps (number_in (at (other side) m)) (number_in (at side p))) refl
      where
        by : (b : Bool) →
            is_within_steps most_steps (number_in (at (other side) m)) (number_in (at side p)) ≡ b →
            (is_near s (at side p) (at (other side) m) && b) ≡ false
        by false e = and-false (is_near s (at side p) (at (other side) m))
          where
            and-false : (b : Bool) → (b && false) ≡ false
            and-false true = refl
            and-false false = refl
        by true e =
            let some = within_some most_steps (number_in (at (other side) m)) (number_in (at side p)) e in
            let leads : after_steps some.0 (after_steps m 0) ≡ after_steps p 0 =
            ap (after_steps some.0) (sym (number-at s xs range r (other side) m within)) ∙ some.3
            ∙ number-at s xs range r side p less in
            let away = few_steps p m some.0 behind some.2 leads in
            ap (λ (b : Bool). b && true)
            (not-near-behind s (at side p) (at (other side) m) (far-other s xs range r side p m away within))

    abbrev others : List Came
    others = on_side (other side) xs

    none-of : (test : Came → Bool) →
        ((m : ℕ) → r.first (other side) ≤ m → m < r.first (other side) + r.seen (other side) →
        test (at (other side) m) ≡ false) → list_any test others ≡ false
    unfolding frame
    none-of test h =
        ap (list_any test) (r.recorded (other side))
        ∙ any-none test (r.sent (other side)) (r.first (other side)) (r.seen (other side)) h

    copy-time : (at side p).time ≤ (at (other side) p).time + apart s (at side p) + slip s
    copy-time = copy-by s xs range r side p less

    -- its copy is stamped no later than it may be, by its own length
    copy-behind : (at (other side) p).time ≤ (at side p).time + apart s (at side p) + slip s
    unfolding frame
    copy-behind =
        let near = copy-near s xs range r side p less in
        let same = apart-same s xs range r side p less in
        omega (arith, near, same)

    cut-behind : r.first (other side) + r.seen (other side) ≤ p → is_cut s others (at side p) ≡ true
    unfolding is_cut frame
    cut-behind behind =
        let end = r.behind (other side) p behind less in
        let near = copy-behind in
        either-one (nat_lt s.until ((at side p).time + apart s (at side p) + slip s)) (went_on s (at side p) others)
        (is_before s s.by.start (at side p)) (had_begun s (at side p) others)
        (lt-ltb _ _ (omega (arith, end, near)))
        (none-of
        (λ y. is_near s (at side p) y && is_within_steps most_steps (number_in (at side p)) (number_in y))
        (λ m low high. none-on m (omega (arith, high, behind))))

    started : (start : Option ℕ) → IsBefore start (at (other side) p).time → is_before s start (at side p) ≡ true
    started None h = absurd h
    started (Some start) h = let near = copy-time in lt-ltb _ _ (omega (arith, h, near))

    cut-before : p < r.first (other side) → is_cut s others (at side p) ≡ true
    unfolding is_cut frame
    cut-before before =
        either-two (nat_lt s.until ((at side p).time + apart s (at side p) + slip s)) (went_on s (at side p) others)
        (is_before s s.by.start (at side p)) (had_begun s (at side p) others)
        (started s.by.start (r.before (other side) p before))
        (none-of
        (λ y. is_near s (at side p) y && is_within_steps most_steps (number_in y) (number_in (at side p)))
        (λ m low high. none-begun m (omega (arith, before, low))
        (let le = r.within (other side) in omega (arith, high, le))))

    cut-off : is_in (r.first (other side)) (seen s xs range r (other side) xs) p ≡ false →
        is_cut s others (at side p) ≡ true
    cut-off out = by (beside (r.first (other side)) (seen s xs range r (other side) xs) p out)
      where
        by : (p < r.first (other side)) ⊎ (r.first (other side) + seen s xs range r (other side) xs ≤ p) →
            is_cut s others (at side p) ≡ true
        by (inl before) = cut-before before
        by (inr behind) = let e = seen-is (other side) in cut-behind (omega (arith, behind, e))

  module _ (up : ComeUpTo s.until xs) (side : Side) where
    -- it is of its side, and its copy may be cut off
    record IsCutThere (y : Came) : Type 0 where
      on : y.side ≡ side
      cut : is_cut s (on_side (other side) xs) y ≡ true

    cut-places : AllByRecursion (λ p. IsCutThere (at side p)) (places s xs range r side (other side) xs)
    unfolding frame
    cut-places =
        all-in (λ p. IsCutThere (at side p))
        (λ p. not (is_in (r.first (other side)) (seen s xs range r (other side) xs) p)) (r.first side)
        (seen s xs range r side xs)
        (λ p low high e.
        let same = seen-is side in
        let most = r.within side in
        let less : p < r.count = omega (arith, high, same, most) in
        record {
          on = r.on side p less;
          cut = cut-off side p less
              (was-in (is_in (r.first (other side)) (seen s xs range r (other side) xs) p) e);
        })

    all-cut : AllByRecursion (λ w. IsCutThere w.frame) (waiting s side xs)
    all-cut =
        all-at IsCutThere (at side) (places s xs range r side (other side) xs) (waiting s side xs)
        (waits-at s xs range r xs (all-wait s xs range r xs s.until so-far up) side) cut-places

    cut-as : (ws : List Waiting) → whole_of xs ≡ xs → AllByRecursion (λ w. IsCutThere w.frame) ws →
        AllByRecursion (λ w. is_cut_of s xs w ≡ true) ws
    cut-as [] whole h = tt
    cut-as (w ∷ ws) whole h = (
      ap₂ (λ (t : Side) (l : List Came). is_cut s (on_side (other t) l) w.frame) h.0.on whole ∙ h.0.cut,
      cut-as ws whole h.1,
    )

    single : s.is_paired ≡ true → AreSilentBoth s xs → found_single s side xs ≡ []
    single paired silent =
        ap (λ (l : List Waiting). map (single_at s) (reverse l))
        (ap (filter (λ w. not (is_cut_of s xs w))) (waits-of s xs range r paired side xs silent)
        ∙ none-left (is_cut_of s xs) (waiting s side xs)
        (cut-as (waiting s side xs) (all_whole s xs silent) all-cut))

-- where one network is seen no frame waits
pub none-single : (s : Source) (xs : List Came) → s.is_paired ≡ false → (side : Side) → found_single s side xs ≡ []
none-single s xs e side =
    ap (λ (l : List Waiting). map (single_at s) (reverse (filter (λ w. not (is_cut_of s xs w)) l)))
    (cond-false s.is_paired (waiting s side (whole_of xs)) [] e)

pub right_never_accused : RightIsNeverAccused
right_never_accused s xs range up r = by s.is_paired refl
  where
    silent : AreSilentBoth s xs
    silent = both_silent s xs up (λ side. right-on s xs r side)

    by : (b : Bool) → s.is_paired ≡ b → NothingIsFound s xs
    by true e = record {
      coming = coming s xs range r e xs s.until (all-so-far s xs range r) up silent;
      single = λ side. single s xs range r up side e silent;
    }
    by false e = record {
      coming = right_not_accused s xs e up (λ side. right-on s xs r side);
      single = none-single s xs e;
    }
