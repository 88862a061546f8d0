-- There are few events for each arrival of the list.
use Rattle.std.proofs.Common.{◌≡◌, ℕ, zero, suc, ◌+◌, ◌*◌, ◌<◌, ◌≤◌, ◌==◌, ◌&&◌, Bool, true, false, not, List, [], ◌∷◌, ◌++◌}
use Rattle.std.proofs.Common.{nat_lt, length, map, refl, sym, ap, subst, arith, inl, inr}
use Rattle.std.specs.Prelude.{if◌then◌else◌, is_none, Option, Some, None}
use Rattle.std.specs.List.{AllByRecursion}
use Rattle.std.proofs.lemmas.Bool.{cases_eq}
use Rattle.afdx_frame.specs.declared.link.Side.{Side}
use Rattle.afdx_frame.specs.declared.link.Side.TheVariants.{A, B}
use Rattle.afdx_police.specs.Arrival.{Arrival, is_side}
use Rattle.afdx_port.specs.Schedule.{Turn}
use Rattle.afdx_port.proofs.TurnLemmas.{eqb-same}
use Rattle.afdx_switch.specs.Admitted.{slots}
use Rattle.afdx_switch.specs.HeldFrames.{HeldFrame}
use Rattle.afdx_switch.specs.Switching.{taken_at}
use Rattle.afdx_switch.specs.Tables.{byte_ns_at, entries_at}
use Rattle.afdx_switch.proofs.ArrivalLemmas.{same-side}
use Rattle.afdx_network.specs.Events.{Event, Came, Left, Admission, Departure, arrivals_in, turns_on}
use Rattle.afdx_network.proofs.EventLemmas.{ports-same, taken-same, taken-other}
use Rattle.afdx_law_promises.specs.Sent.{arrivals_at}
use Rattle.afdx_cascade.specs.Cables.{brought}
use Rattle.afdx_cascade.specs.SwitchEvents.{Plan, IsPlan, End, SwitchEvent, FrameTest, AlwaysKeepsRules, HasPort, IsInPlan}
use Rattle.afdx_cascade.specs.SwitchEvents.{at_switch, came_to, count_if, in_clock, passes, listed, turns_of, with_listed}
use Rattle.afdx_cascade.specs.Once.{EventsAreFew}
use Rattle.afdx_cascade.proofs.CountLemmas.{turns-and-rest}
use Rattle.afdx_cascade.proofs.OnceLemmas.{at-most-listed, turns-there}
use Rattle.afdx_cascade.proofs.AcceptedLemmas.{entries-few, entry_meant}

-- ---- sums

abbrev pub sum_below : (ℕ → ℕ) → ℕ → ℕ
sum_below f zero = 0
sum_below f (suc n) = sum_below f n + f n

pub sum-most : (f : ℕ → ℕ) (most n : ℕ) → ((m : ℕ) → m < n → f m ≤ most) → sum_below f n ≤ n * most
sum-most f most zero h = omega arith
sum-most f most (suc n) h =
    let rest = sum-most f most n (λ m lt. h m (omega (arith, lt))) in
    let here = h n (omega arith) in
    omega (arith, rest, here)

pub sum-grows : (f g : ℕ → ℕ) (n : ℕ) → ((m : ℕ) → f m ≤ g m) → sum_below f n ≤ sum_below g n
sum-grows f g zero h = omega arith
sum-grows f g (suc n) h = let rest = sum-grows f g n h in let here = h n in
    omega (arith, rest, here)

pub sum-more : (f g : ℕ → ℕ) (n m : ℕ) → m < n → ((i : ℕ) → f i ≤ g i) → f m + 1 ≤ g m
    → sum_below f n + 1 ≤ sum_below g n
sum-more f g zero m lt h more = absurd (omega (arith, lt))
sum-more f g (suc n) m lt h more = elim (cases_eq m n) [
  | inl same ↦ (let at : f n + 1 ≤ g n = subst (λ k. f k + 1 ≤ g k) same more in
      let rest = sum-grows f g n h in
      omega (arith, rest, at))
  | inr other ↦ (let rest = sum-more f g n m (omega (arith, lt, other)) h more in
      let here = h n in
      omega (arith, rest, here))
]

-- ---- events that aren't arrivals of the list

abbrev other_event : Plan → ℕ → Event → ℕ
other_event c k (Left d) = 1
other_event c k (Came a) = if is_none (c.far_end k a.arrival.port) then 0 else 1

abbrev others : Plan → ℕ → List SwitchEvent → ℕ
others c k [] = 0
others c k (h ∷ before) = (if h.switch == k then other_event c k h.event else 0) + others c k before

abbrev with_event : Plan → ℕ → List SwitchEvent → Event → ℕ → ℕ
with_event c m before e k = (if m == k then other_event c k e else 0) + others c k before

listed-and-others : (c : Plan) (so_far : List SwitchEvent) → AllByRecursion (IsInPlan c) so_far
    → length so_far ≤ length (listed c so_far) + sum_below (λ k. others c k so_far) c.count
listed-and-others c [] all = omega arith
listed-and-others c (h ∷ before) all = by h.event (listed-and-others c before all.1)
  where
    grown : (e : Event) (k : ℕ) → others c k before ≤ with_event c h.switch before e k
    grown e k = omega arith

    counted : (e : Event) → other_event c h.switch e ≡ 1
        → sum_below (λ k. others c k before) c.count + 1
        ≤ sum_below (with_event c h.switch before e) c.count
    counted e is = sum-more (λ k. others c k before)
        (with_event c h.switch before e) c.count h.switch all.0.0 (grown e)
        (rw (eqb-same h.switch h.switch refl, is) (omega arith))

    came : (a : Admission) (b : Bool) → is_none (c.far_end h.switch a.arrival.port) ≡ b
        → length before ≤ length (listed c before) + sum_below (λ k. others c k before) c.count
        → suc (length before)
        ≤ length (if b then a.arrival ∷ listed c before else listed c before)
        + sum_below (with_event c h.switch before (Came a)) c.count
    came a true is rest =
        let more = sum-grows (λ k. others c k before)
        (with_event c h.switch before (Came a)) c.count (grown (Came a)) in
        omega (arith, rest, more)
    came a false is rest =
        let more = counted (Came a) (rw is refl) in omega (arith, rest, more)

    by : (e : Event) → length before ≤ length (listed c before)
        + sum_below (λ k. others c k before) c.count
        → suc (length before)
        ≤ length (with_listed c h.switch e (listed c before))
        + sum_below (with_event c h.switch before e) c.count
    by (Came a) rest = came a (is_none (c.far_end h.switch a.arrival.port)) refl rest
    by (Left d) rest = let more = counted (Left d) refl in omega (arith, rest, more)

-- ---- the turns of the ports of a switch, and what cables bring to them

abbrev gave : Side → ℕ → List Event → ℕ
gave side port es = length (taken_at port (turns_on side es))

abbrev got : Plan → ℕ → Side → ℕ → List Event → ℕ
got c k side port es =
    if is_none (c.far_end k port) then 0 else length (arrivals_at side port (arrivals_in es))

abbrev busy : Plan → ℕ → List Event → ℕ → ℕ
busy c k es port =
    (gave A port es + gave B port es) + (got c k A port es + got c k B port es)

gave-more : (d : Departure) (es : List Event)
    → gave d.side d.port (Left d ∷ es) ≡ suc (gave d.side d.port es)
gave-more d es = ap length (taken-same d es)

gave-grows : (side : Side) (port : ℕ) (d : Departure) (es : List Event)
    → gave side port es ≤ gave side port (Left d ∷ es)
gave-grows side port d es = elim (ports-same side port d) [
  | inr other ↦ (let same : gave side port (Left d ∷ es) ≡ gave side port es =
      ap length (taken-other side port d es other) in omega (arith, same))
  | inl here ↦ (let more = gave-more d es in
      subst (λ s. gave s port es ≤ gave s port (Left d ∷ es)) (sym here.0)
      (subst (λ p. gave d.side p es ≤ gave d.side p (Left d ∷ es)) (sym here.1)
      (omega (arith, more))))
]

got-grows : (c : Plan) (k : ℕ) (side : Side) (port : ℕ) (a : Admission) (es : List Event)
    → got c k side port es ≤ got c k side port (Came a ∷ es)
got-grows c k side port a es =
    by (is_none (c.far_end k port)) (is_side side a.arrival.side && (port == a.arrival.port))
  where
    by : (b f : Bool) → (if b then 0 else length (arrivals_at side port (arrivals_in es)))
        ≤ (if b then 0 else length (if f then a.arrival ∷ arrivals_at side port (arrivals_in es)
        else arrivals_at side port (arrivals_in es)))
    by true f = omega arith
    by false true = omega arith
    by false false = omega arith

got-more : (c : Plan) (k : ℕ) (a : Admission) (es : List Event)
    → is_none (c.far_end k a.arrival.port) ≡ false
    → got c k a.arrival.side a.arrival.port (Came a ∷ es)
    ≡ suc (got c k a.arrival.side a.arrival.port es)
got-more c k a es is =
    rw (is, same-side a.arrival.side, eqb-same a.arrival.port a.arrival.port refl) refl

-- so of events at a switch there are at most as many others
others-busy : (c : Plan) (k : ℕ) (so_far : List SwitchEvent) → IsPlan c
    → AllByRecursion (IsInPlan c) so_far
    → others c k so_far ≤ sum_below (λ p. busy c k (at_switch k so_far) (suc p)) 24
others-busy c k [] plan all = omega arith
others-busy c k (h ∷ before) plan all =
    by (h.switch == k) h.event all.0.1 (others-busy c k before plan all.1)
  where
    left-at : (d : Departure) (p : ℕ) → d.port ≡ suc p → p < 24
        → sum_below (λ q. busy c k (at_switch k before) (suc q)) 24 + 1
        ≤ sum_below (λ q. busy c k (Left d ∷ (at_switch k before)) (suc q)) 24
    left-at d p is lt =
        sum-more (λ q. busy c k (at_switch k before) (suc q))
        (λ q. busy c k (Left d ∷ (at_switch k before)) (suc q)) 24 p lt
        (λ q. (let ga = gave-grows A (suc q) d (at_switch k before) in
        let gb = gave-grows B (suc q) d (at_switch k before) in omega (arith, ga, gb)))
        (subst (λ n. busy c k (at_switch k before) n + 1
        ≤ busy c k (Left d ∷ (at_switch k before)) n) is (at-side d.side refl))
      where
        at-side : (s : Side) → d.side ≡ s
            → busy c k (at_switch k before) d.port + 1
            ≤ busy c k (Left d ∷ (at_switch k before)) d.port
        at-side A same =
            let more : gave A d.port (Left d ∷ (at_switch k before))
            ≡ suc (gave A d.port (at_switch k before)) =
            subst (λ z. gave z d.port (Left d ∷ (at_switch k before))
            ≡ suc (gave z d.port (at_switch k before))) same
            (gave-more d (at_switch k before)) in
            let other = gave-grows B d.port d (at_switch k before) in
            omega (arith, more, other)
        at-side B same =
            let more : gave B d.port (Left d ∷ (at_switch k before))
            ≡ suc (gave B d.port (at_switch k before)) =
            subst (λ z. gave z d.port (Left d ∷ (at_switch k before))
            ≡ suc (gave z d.port (at_switch k before))) same
            (gave-more d (at_switch k before)) in
            let other = gave-grows A d.port d (at_switch k before) in
            omega (arith, more, other)

    came-at : (a : Admission) (p : ℕ) → a.arrival.port ≡ suc p → p < 24
        → is_none (c.far_end k a.arrival.port) ≡ false
        → sum_below (λ q. busy c k (at_switch k before) (suc q)) 24 + 1
        ≤ sum_below (λ q. busy c k (Came a ∷ (at_switch k before)) (suc q)) 24
    came-at a p is lt cabled =
        sum-more (λ q. busy c k (at_switch k before) (suc q))
        (λ q. busy c k (Came a ∷ (at_switch k before)) (suc q)) 24 p lt
        (λ q. (let ga = got-grows c k A (suc q) a (at_switch k before) in
        let gb = got-grows c k B (suc q) a (at_switch k before) in omega (arith, ga, gb)))
        (subst (λ n. busy c k (at_switch k before) n + 1
        ≤ busy c k (Came a ∷ (at_switch k before)) n) is (at-side a.arrival.side refl))
      where
        at-side : (s : Side) → a.arrival.side ≡ s
            → busy c k (at_switch k before) a.arrival.port + 1
            ≤ busy c k (Came a ∷ (at_switch k before)) a.arrival.port
        at-side A same =
            let more : got c k A a.arrival.port (Came a ∷ (at_switch k before))
            ≡ suc (got c k A a.arrival.port (at_switch k before)) =
            subst (λ z. got c k z a.arrival.port (Came a ∷ (at_switch k before))
            ≡ suc (got c k z a.arrival.port (at_switch k before))) same
            (got-more c k a (at_switch k before) cabled) in
            let other = got-grows c k B a.arrival.port a (at_switch k before) in
            omega (arith, more, other)
        at-side B same =
            let more : got c k B a.arrival.port (Came a ∷ (at_switch k before))
            ≡ suc (got c k B a.arrival.port (at_switch k before)) =
            subst (λ z. got c k z a.arrival.port (Came a ∷ (at_switch k before))
            ≡ suc (got c k z a.arrival.port (at_switch k before))) same
            (got-more c k a (at_switch k before) cabled) in
            let other = got-grows c k A a.arrival.port a (at_switch k before) in
            omega (arith, more, other)

    came-grows : (a : Admission) → sum_below (λ q. busy c k (at_switch k before) (suc q)) 24
        ≤ sum_below (λ q. busy c k (Came a ∷ (at_switch k before)) (suc q)) 24
    came-grows a = sum-grows (λ q. busy c k (at_switch k before) (suc q))
        (λ q. busy c k (Came a ∷ (at_switch k before)) (suc q)) 24
        (λ q. (let ga = got-grows c k A (suc q) a (at_switch k before) in
        let gb = got-grows c k B (suc q) a (at_switch k before) in omega (arith, ga, gb)))

    left : (d : Departure) (n : ℕ) → d.port ≡ n → 1 ≤ n → n ≤ 24
        → others c k before ≤ sum_below (λ q. busy c k (at_switch k before) (suc q)) 24
        → 1 + others c k before ≤ sum_below
        (λ q. busy c k (Left d ∷ (at_switch k before)) (suc q)) 24
    left d zero is low high rest = absurd (omega (arith, low))
    left d (suc p) is low high rest = let more = left-at d p is (omega (arith, high)) in
        omega (arith, rest, more)

    came : (a : Admission) (n : ℕ) → a.arrival.port ≡ n → 1 ≤ n → n ≤ 24
        → is_none (c.far_end k a.arrival.port) ≡ false
        → others c k before ≤ sum_below (λ q. busy c k (at_switch k before) (suc q)) 24
        → 1 + others c k before ≤ sum_below
        (λ q. busy c k (Came a ∷ (at_switch k before)) (suc q)) 24
    came a zero is low high cabled rest = absurd (omega (arith, low))
    came a (suc p) is low high cabled rest = let more =
        came-at a p is (omega (arith, high)) cabled in omega (arith, rest, more)

    arrives : (a : Admission) (o : Option End) → c.far_end k a.arrival.port ≡ o
        → others c k before ≤ sum_below (λ q. busy c k (at_switch k before) (suc q)) 24
        → (if is_none o then 0 else 1) + others c k before
        ≤ sum_below (λ q. busy c k (Came a ∷ (at_switch k before)) (suc q)) 24
    arrives a None free rest = let more = came-grows a in omega (arith, rest, more)
    arrives a (Some e) joined rest =
        let there = plan.ports k a.arrival.port e joined in
        let here = plan.ports e.switch e.port
        (record { switch = k; port = a.arrival.port }) there.2 in
        came a a.arrival.port refl here.0 here.1 (rw joined refl) rest

    by : (b : Bool) (e : Event) → HasPort e
        → others c k before ≤ sum_below (λ q. busy c k (at_switch k before) (suc q)) 24
        → (if b then other_event c k e else 0) + others c k before
        ≤ sum_below (λ q. busy c k (if b then e ∷ (at_switch k before) else (at_switch k before))
        (suc q)) 24
    by false e has rest = omega (arith, rest)
    by true (Left d) has rest = left d d.port refl has.0 has.1 rest
    by true (Came a) has rest = arrives a (c.far_end k a.arrival.port) refl rest

-- ---- each is at most as many as the list has on its side

abbrev pub all_frames : FrameTest
all_frames tag bytes = true

all-counted : {X : Type 0} (xs : List X) → count_if (λ x. true) xs ≡ length xs
all-counted [] = refl
all-counted (x ∷ xs) = ap suc (all-counted xs)

pub both-sides : (xs : List Arrival)
    → count_if (passes A all_frames) xs + count_if (passes B all_frames) xs ≡ length xs
both-sides [] = refl
both-sides (x ∷ xs) = by x.side refl (both-sides xs)
  where
    by : (s : Side) → x.side ≡ s
        → count_if (passes A all_frames) xs + count_if (passes B all_frames) xs ≡ length xs
        → count_if (passes A all_frames) (x ∷ xs) + count_if (passes B all_frames) (x ∷ xs)
        ≡ suc (length xs)
    by A is rest = rw is (omega (arith, rest))
    by B is rest = rw is (omega (arith, rest))

slots-few : (turns : List (Turn HeldFrame)) → length (slots turns) ≤ length turns
slots-few [] = omega arith
slots-few (s ∷ earlier) = by s.too_old (slots-few earlier)
  where
    by : (b : Bool) → length (slots earlier) ≤ length earlier
        → length (if not b then s ∷ slots earlier else slots earlier) ≤ suc (length earlier)
    by true rest = omega (arith, rest)
    by false rest = omega (arith, rest)

clock-few : (turns : List (Turn HeldFrame)) → length (in_clock turns) ≤ length turns
clock-few [] = omega arith
clock-few (s ∷ earlier) = by (nat_lt 1000032768000000 s.end) (clock-few earlier)
  where
    by : (b : Bool) → length (in_clock earlier) ≤ length earlier
        → length (if not b then s ∷ in_clock earlier else in_clock earlier) ≤ suc (length earlier)
    by true rest = omega (arith, rest)
    by false rest = omega (arith, rest)

length-mapped : {X Y : Type 0} (f : X → Y) (xs : List X) → length (map f xs) ≡ length xs
length-mapped f [] = refl
length-mapped f (x ∷ xs) = ap suc (length-mapped f xs)

length-parts : {X : Type 0} (xs ys : List X) → length (xs ++ ys) ≡ length xs + length ys
length-parts [] ys = omega arith
length-parts (x ∷ xs) ys = let rest = length-parts xs ys in omega (arith, rest)

module _ (c : Plan) (so_far : List SwitchEvent) (plan : IsPlan c)
    (each : AlwaysKeepsRules c so_far) where
  abbrev listed_on : Side → ℕ
  listed_on side = count_if (passes side all_frames) (listed c so_far)

  turns-few : (k port : ℕ) (side : Side) → 1 ≤ port → port ≤ 24
      → length (turns_of k side port so_far) ≤ listed_on side
  turns-few k port side low high =
      let entries = entries_at (c.tables k) side port (came_to k so_far) in
      let turns = turns_of k side port so_far in
      let parts = turns-and-rest (entry_meant all_frames)
      (byte_ns_at (c.tables k) port) entries turns
      (turns-there c so_far k port side each low high) in
      let counted : count_if (λ s. entry_meant all_frames s.entry) turns ≡ length turns =
      all-counted turns in
      let held = entries-few (c.tables k) side port all_frames (came_to k so_far) (plan.lawful k) in
      let taken = at-most-listed c so_far side k all_frames plan each in
      omega (arith, parts, counted, held, taken)

  got-few : (k port : ℕ) (side : Side) → got c k side port (at_switch k so_far) ≤ listed_on side
  got-few k port side = by (c.far_end k port) refl
    where
      brings : (other : End) (es : List SwitchEvent) → es ≡ so_far → AlwaysKeepsRules c es
          → c.far_end k port ≡ Some other
          → length (arrivals_at side port (came_to k es))
          ≤ length (turns_of other.switch side other.port es)
      brings other [] is by-rules joined = omega arith
      brings other (h ∷ before) is by-rules joined =
          let carries = by-rules.0.cables k port side other joined in
          let whole = ap length carries.brings in
          let parts = length-parts carries.waiting
          (arrivals_at side port (came_to k (h ∷ before))) in
          let mapped = length-mapped (brought side port)
          (slots (in_clock (turns_of other.switch side other.port (h ∷ before)))) in
          let fewer = slots-few (in_clock (turns_of other.switch side other.port (h ∷ before))) in
          let cut = clock-few (turns_of other.switch side other.port (h ∷ before)) in
          omega (arith, whole, parts, mapped, fewer, cut)

      by : (o : Option End) → c.far_end k port ≡ o
          → (if is_none o then 0 else length (arrivals_at side port (came_to k so_far)))
          ≤ listed_on side
      by None free = omega arith
      by (Some other) joined =
          let ends = plan.ports k port other joined in
          let less = brings other so_far refl each joined in
          let few = turns-few other.switch other.port side ends.0 ends.1 in
          omega (arith, less, few)

  busy-few : (k p : ℕ) → p < 24
      → busy c k (at_switch k so_far) (suc p) ≤ 2 * length (listed c so_far)
  busy-few k p lt =
      let ta = turns-few k (suc p) A (omega arith) (omega (arith, lt)) in
      let tb = turns-few k (suc p) B (omega arith) (omega (arith, lt)) in
      let ga = got-few k (suc p) A in
      let gb = got-few k (suc p) B in
      let sum = both-sides (listed c so_far) in
      omega (arith, ta, tb, ga, gb, sum)

  others-few : (k : ℕ) → AllByRecursion (IsInPlan c) so_far
      → others c k so_far ≤ 48 * length (listed c so_far)
  others-few k all =
      let less = others-busy c k so_far plan all in
      let most = sum-most (λ p. busy c k (at_switch k so_far) (suc p))
      (2 * length (listed c so_far)) 24 (busy-few k) in
      omega (arith, less, most)

pub events-few : EventsAreFew
events-few c so_far plan each all =
    let parts = listed-and-others c so_far all in
    let most = sum-most (λ k. others c k so_far) (48 * length (listed c so_far)) c.count
    (λ k lt. others-few c so_far plan each k all) in
    omega (arith, parts, most)
