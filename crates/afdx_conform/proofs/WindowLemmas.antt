-- A stream holds at most twice what came and left in the last window.
use Rattle.std.proofs.Common.{◌≡◌, ℕ, suc, ◌+◌, ◌*◌, ◌/◌, ◌<◌, ◌≤◌, Bool, true, false, List, [], ◌∷◌, ◌++◌, map, take, drop, get_or, length, refl, sym, ap, ◌∙◌, subst, arith}
use Rattle.std.proofs.lemmas.Bool.{ltb-true, ltb-false, le-leb}
use Rattle.std.proofs.lemmas.List.{append_assoc, drop_more, get_or-drop, get_or_default, length-drop, length-map, map-append, take-append-drop}
use Rattle.std.proofs.lemmas.List.Elements.{recursion_from_All}
use Rattle.std.specs.Prelude.{All, if◌then◌else◌, nat_le, nat_lt, Option, Some, None}
use Rattle.std.specs.List.{AllByRecursion, filter}
use Rattle.afdx_police.specs.Arrival.{Arrival}
use Rattle.afdx_conform.specs.Ahead.{until_then}
use Rattle.afdx_conform.specs.Findings.{Marked}
use Rattle.afdx_conform.specs.Growing.{IsAfter, IsHeld, IsNoSooner, due_at, due_by, due_in}
use Rattle.afdx_conform.specs.Holding.{IsAsked, IsLean}
use Rattle.afdx_conform.specs.Leeway.{reach}
use Rattle.afdx_conform.specs.Limits.{gone_of}
use Rattle.afdx_conform.specs.Marks.{arrival_of}
use Rattle.afdx_conform.specs.Standing.{HoldsOneWindow, arrivals_since, closing_moment, frames_since, in_window}
use Rattle.afdx_conform.specs.States.{Event}
use Rattle.afdx_conform.specs.Streams.{Gone, Terms, latency}
use Rattle.afdx_conform.specs.declared.arrived.Arrived.{Arrived}
use Rattle.afdx_conform.specs.declared.growth.Growth.{Growth}
use Rattle.afdx_conform.specs.declared.limits.LeftFrame.{LeftFrame}
use Rattle.afdx_conform.specs.declared.limits.Limits.{Limits}
use Rattle.afdx_conform.proofs.EveryLemmas.{every-map}
use Rattle.afdx_conform.proofs.FindingLemmas.{if-both}
use Rattle.afdx_conform.proofs.GrowthCloses.{frames-held}
use Rattle.afdx_conform.proofs.LeanLemmas.{in-order}

-- ---- how many pass a test

-- as many as stand last and do, or more
count-last : {X : Type 0} (test : X → Bool) (xs ys : List X) → AllByRecursion (λ y. test y ≡ true) ys
    → length ys ≤ length (filter test (xs ++ ys))
count-last test [] [] h = omega arith
count-last {X = X} test [] (y ∷ ys) h =
    let more = count-last test [] ys h.1 in
    subst (λ (b : Bool). suc (length ys) ≤ length (if b then y ∷ filter test ys else filter test ys)) (sym h.0)
    (omega (arith, more))
count-last {X = X} test (x ∷ xs) ys h =
    let more = count-last test xs ys h in
    if-both (λ (l : List X). length ys ≤ length l) (test x) (x ∷ filter test (xs ++ ys)) (filter test (xs ++ ys))
    (omega (arith, more)) more

-- ---- the next event

due-sure-is : (s : Growth) → s.judging.is_unsure ≡ false → due_by s ≡ due_in s.bounds.limits
    (drop (length s.judging.marks.items) s.arrivals.items) (drop s.closed s.frames.items)
unfolding due_by
due-sure-is s sure = ap (λ (b : Bool). if b then None else due_in s.bounds.limits
    (drop (length s.judging.marks.items) s.arrivals.items) (drop s.closed s.frames.items)) sure

due-frame : (limits : Limits) (moment : ℕ) (come : List Arrived) (f : LeftFrame) (frames : List LeftFrame)
    → IsNoSooner moment (due_in limits come (f ∷ frames)) → moment ≤ due_at limits (f.time + limits.reach)
due-frame limits moment [] f frames h = h
due-frame limits moment (a ∷ come) f frames h = by (nat_lt (f.time + limits.reach) a.time) refl h
  where
    by : (b : Bool) → nat_lt (f.time + limits.reach) a.time ≡ b
        → IsNoSooner moment (if b then Some (due_at limits (f.time + limits.reach)) else Some (due_at limits a.time))
        → moment ≤ due_at limits (f.time + limits.reach)
    by true e k = k
    by false e k = let le = ltb-false (f.time + limits.reach) a.time e in omega (arith, le, k)

due-arrival : (limits : Limits) (moment : ℕ) (a : Arrived) (come : List Arrived) (frames : List LeftFrame)
    → IsNoSooner moment (due_in limits (a ∷ come) frames) → moment ≤ due_at limits a.time
due-arrival limits moment a come [] h = h
due-arrival limits moment a come (f ∷ frames) h = by (nat_lt (f.time + limits.reach) a.time) refl h
  where
    by : (b : Bool) → nat_lt (f.time + limits.reach) a.time ≡ b
        → IsNoSooner moment (if b then Some (due_at limits (f.time + limits.reach)) else Some (due_at limits a.time))
        → moment ≤ due_at limits a.time
    by true e k = let lt = ltb-true (f.time + limits.reach) a.time e in omega (arith, lt, k)
    by false e k = k

-- ---- of what is held

module _ (z : Terms) (xs : List Arrival) (ys : List Gone) (cut : ℕ) (over : List Event) (s : Growth) (moment : ℕ)
    (g : IsAfter z xs ys cut over s) (lean : IsLean s) (sure : s.judging.is_unsure ≡ false)
    (due : IsNoSooner moment (due_by s)) where
  held : IsHeld z xs ys cut over s
  held = g.sure sure

  abbrev As : List Arrived
  As = s.arrivals.items

  abbrev Fs : List LeftFrame
  Fs = s.frames.items

  abbrev Marks : ℕ
  Marks = length s.judging.marks.items

  soon : IsNoSooner moment (due_in s.bounds.limits (drop Marks As) (drop s.closed Fs))
  soon = subst (λ (o : Option ℕ). IsNoSooner moment o) (due-sure-is s sure) due

  -- the frames that aren't closed

  abbrev IsRecentFrame : LeftFrame → Type 0
  IsRecentFrame f = moment ≤ closing_moment z f.time

  frames-recent : All IsRecentFrame (drop s.closed Fs)
  frames-recent k d lt =
      let size = length-drop s.closed Fs in
      let inside : s.closed + k < length Fs = omega (arith, lt, size) in
      let some : s.closed < length Fs = omega (arith, inside) in
      let order = frames-held held.past ys Fs g.told.left held.kept.left in
      let first = get_or Fs s.closed d in
      let one = due-frame s.bounds.limits moment (drop Marks As) first (drop (s.closed + 1) Fs)
      (subst (λ (l : List LeftFrame). IsNoSooner moment (due_in s.bounds.limits (drop Marks As) l))
      (drop_more Fs s.closed d some) soon) in
      let here = get_or Fs (s.closed + k) d in
      let up = order s.closed (s.closed + k) first here (omega arith) inside (get_or_default Fs s.closed d first some)
      (get_or_default Fs (s.closed + k) d here inside) in
      let lat = g.bounds.limits.latency in
      let slip = g.bounds.limits.reach in
      let le : moment ≤ closing_moment z here.time = omega (arith, one, up, lat, slip) in
      subst (λ (f : LeftFrame). IsRecentFrame f) (sym (get_or-drop s.closed Fs k d)) le

  frames-few : length Fs ≤ 2 * length (frames_since z moment ys)
  frames-few =
      let last = count-last (λ (y : Gone). nat_le moment (closing_moment z y.time))
      (held.past ++ map gone_of (take s.closed Fs))
      (map gone_of (drop s.closed Fs))
      (every-map (λ (y : Gone). nat_le moment (closing_moment z y.time) ≡ true) gone_of (drop s.closed Fs)
      (recursion_from_All (λ (f : LeftFrame). nat_le moment (closing_moment z f.time) ≡ true) (drop s.closed Fs)
      (λ k d lt. le-leb moment _ (frames-recent k d lt)))) in
      let same : ys ≡ (held.past ++ map gone_of (take s.closed Fs)) ++ map gone_of (drop s.closed Fs) =
      held.kept.left
      ∙ ap (λ (l : List Gone). held.past ++ l)
      (sym (ap (λ (l : List LeftFrame). map gone_of l) (take-append-drop s.closed Fs))
      ∙ map-append gone_of (take s.closed Fs) (drop s.closed Fs))
      ∙ sym (append_assoc held.past (map gone_of (take s.closed Fs)) (map gone_of (drop s.closed Fs))) in
      let many = ap (λ (l : List Gone). length (frames_since z moment l)) same in
      let size = length-map (drop s.closed Fs) gone_of in
      let left = length-drop s.closed Fs in
      let half = lean.frames in
      omega (arith, last, many, size, left, half)

  -- the newer half of the arrivals

  abbrev IsRecent : Arrived → Type 0
  IsRecent a = moment ≤ closing_moment z (a.time + latency z + reach z.by)

  -- one whose event is over, by the first of the frames that aren't closed
  asked-recent : (a : Arrived) (frames : List LeftFrame) → drop s.closed Fs ≡ frames
      → IsAsked s.bounds.limits a.time frames → IsRecent a
  asked-recent a [] e h = absurd h
  asked-recent a (f ∷ frames) e h =
      let one = due-frame s.bounds.limits moment (drop Marks As) f frames
      (subst (λ (l : List LeftFrame). IsNoSooner moment (due_in s.bounds.limits (drop Marks As) l)) e soon) in
      let lat = g.bounds.limits.latency in
      let slip = g.bounds.limits.reach in
      omega (arith, one, h, lat, slip)

  -- one whose event isn't
  coming-recent : (k : ℕ) (d : Arrived) → Marks ≤ k → k < length As → IsRecent (get_or As k d)
  coming-recent k d le lt =
      let some : Marks < length As = omega (arith, le, lt) in
      let order = in-order z xs ys cut over s g.told held in
      let first = get_or As Marks d in
      let one = due-arrival s.bounds.limits moment first (drop (Marks + 1) As) (drop s.closed Fs)
      (subst (λ (l : List Arrived). IsNoSooner moment (due_in s.bounds.limits l (drop s.closed Fs)))
      (drop_more As Marks d some) soon) in
      let here = get_or As k d in
      let up = order Marks k first here le lt (get_or_default As Marks d first some) (get_or_default As k d here lt) in
      let lat = g.bounds.limits.latency in
      let slip = g.bounds.limits.reach in
      omega (arith, one, up, lat, slip)

  place-recent : (k : ℕ) (d : Arrived) → length As ≤ 2 * (k + 1) → k < length As → IsRecent (get_or As k d)
  place-recent k d half lt = by (nat_lt k Marks) refl
    where
      by : (b : Bool) → nat_lt k Marks ≡ b → IsRecent (get_or As k d)
      by false e = coming-recent k d (ltb-false k Marks e) lt
      by true e =
          asked-recent (get_or As k d) (drop s.closed Fs) refl
          (lean.arrivals k half k (get_or As k d) (omega arith) (ltb-true k Marks e)
          (get_or_default As k d (get_or As k d) lt))

  arrivals-recent : (n : ℕ) → length As ≤ 2 * (n + 1) → All IsRecent (drop n As)
  arrivals-recent n half k d lt =
      let size = length-drop n As in
      subst (λ (a : Arrived). IsRecent a) (sym (get_or-drop n As k d))
      (place-recent (n + k) d (omega (arith, half)) (omega (arith, lt, size)))

  arrivals-by : (n : ℕ) → length As ≤ 2 * (n + 1) → 2 * n ≤ length As
      → length As ≤ 2 * length (arrivals_since z moment xs)
  arrivals-by n half low =
      let last = count-last (λ (x : Arrival). nat_le moment (closing_moment z (x.time + latency z + reach z.by)))
      (map (λ (m : Marked). m.arrival) held.gone ++ map arrival_of (take n As)) (map arrival_of (drop n As))
      (every-map (λ (x : Arrival). nat_le moment (closing_moment z (x.time + latency z + reach z.by)) ≡ true)
      arrival_of (drop n As)
      (recursion_from_All (λ (a : Arrived). nat_le moment (closing_moment z (a.time + latency z + reach z.by)) ≡ true)
      (drop n As)
      (λ k d lt. le-leb moment _ (arrivals-recent n half k d lt)))) in
      let same : xs ≡ (map (λ (m : Marked). m.arrival) held.gone ++ map arrival_of (take n As)) ++ map arrival_of
      (drop n As) =
      held.kept.came
      ∙ ap (λ (l : List Arrival). map (λ (m : Marked). m.arrival) held.gone ++ l)
      (sym (ap (λ (l : List Arrived). map arrival_of l) (take-append-drop n As))
      ∙ map-append arrival_of (take n As) (drop n As))
      ∙ sym (append_assoc (map (λ (m : Marked). m.arrival) held.gone) (map arrival_of (take n As))
      (map arrival_of (drop n As))) in
      let many = ap (λ (l : List Arrival). length (arrivals_since z moment l)) same in
      let size = length-map (drop n As) arrival_of in
      let left = length-drop n As in
      omega (arith, last, many, size, left, low)

  arrivals-few : length As ≤ 2 * length (arrivals_since z moment xs)
  arrivals-few = arrivals-by (length As / 2) (omega arith) (omega arith)

  few-held : length As + length Fs ≤ 2 * in_window z xs ys moment
  few-held = let a = arrivals-few in let f = frames-few in omega (arith, a, f)

pub holds_one_window : HoldsOneWindow
holds_one_window z xs ys j time moment s h due = by s.growth.judging.is_unsure refl
  where
    by : (b : Bool) → s.growth.judging.is_unsure ≡ b
        → length s.growth.arrivals.items + length s.growth.frames.items ≤ 2 * in_window z xs ys moment
    by true u =
        let none = h.lean.unsure u in
        let a = none.0 in
        let f = none.1 in
        omega (arith, a, f)
    by false u = few-held (until_then time z) xs ys 0 h.over s.growth moment
        (h.is_after time (omega arith)) h.lean u due
